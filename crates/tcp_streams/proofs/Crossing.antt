-- The job of a connection may go to another thread, with the connection. Each type has its lemma, since a search that
-- goes down through all of them runs out of steps.
use denote.RattleType.{RattleType}
use denote.Ref.{NamedLft}
use denote.Param.Send.{IsSend, IsSync, sendable}
use denote.Param.SendFields.{declared_send}
use Rattle.std.proofs.Crossing.{crosses}
use Rattle.byte_streams.specs.contracts.chain.Chain as Chain
use Rattle.byte_streams.specs.contracts.patient.Patient as Patient
use Rattle.byte_streams.specs.contracts.tap.Recorder as Recorder
use Rattle.stream_tools.specs.contracts.job.OsJob as OsJob
use Rattle.tcp_streams.specs.contracts.lanes.Lane as Lane
use Rattle.tcp_streams.specs.contracts.passing.Passage as Passage
use Rattle.tcp_streams.specs.contracts.programs.ServiceJob as ServiceJob
use Rattle.tcp_streams.specs.contracts.wrappers.Wrapper as Wrapper

wrapper_send : IsSend Wrapper.the_row
wrapper_send = search (sendable, crosses) depth 20

chain_send : IsSend (Chain.the_row Wrapper.the_row)
chain_send = let w = wrapper_send in search (sendable, crosses) depth 20

child_send : IsSend OsJob.the_row
child_send = search (sendable, crosses) depth 30

module _ (W : RattleType) (w : IsSend W) where
  recorder_send : IsSend (Recorder.the_row W)
  recorder_send = search (sendable, crosses) depth 20

  lane_send : IsSend (Lane.the_row W)
  lane_send = declared_send (Lane.the_type W) (
    search (sendable, crosses) depth 20,
    (
      chain_send,
      (
        (let r = recorder_send in search (sendable, crosses) depth 20),
        (
          search (sendable, crosses) depth 20,
          (
            search (sendable, crosses) depth 20,
            (search (sendable, crosses) depth 20, (search (sendable, crosses) depth 20, tt)),
          ),
        ),
      ),
    ),
  )

module _ (a : NamedLft) (R E : RattleType) (y : IsSync R) (s : IsSend E) where
  stream_send : IsSend (Patient.the_row a R E)
  stream_send = search (sendable, crosses) depth 20

  passage_send : IsSend (Passage.the_row a R E)
  passage_send =
      let lane = lane_send (Patient.the_row a R E) stream_send in
      declared_send (Passage.the_type a R E) (
        search (sendable, crosses) depth 20,
        (
          search (sendable, crosses) depth 20,
          (
            lane,
            (
              lane,
              (
                search (sendable, crosses) depth 20,
                (
                  search (sendable, crosses) depth 20,
                  (search (sendable, crosses) depth 20, tt),
                ),
              ),
            ),
          ),
        ),
      )

  pub job_send : IsSend (ServiceJob.the_row a R E)
  job_send = declared_send (ServiceJob.the_type a R E)
      (child_send, (let passage = passage_send in search (sendable, crosses) depth 20, tt))
