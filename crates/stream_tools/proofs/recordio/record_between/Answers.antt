use Rattle.std.proofs.Common.{subst}
use Rattle.stream_tools.specs.Lanes.{IsRecording}
use Rattle.byte_streams.specs.declared.recording.Way.TheVariants.{Input, Output}
use Rattle.stream_tools.proofs.LaneLemmas.{ok_then}
use Rattle.stream_tools.proofs.recordio.record_between.Goals as goal

pub returns-clause-input : goal.returns-clause-input
returns-clause-input g c =
    let lane = c.record_lane-input.result in
    ok_then c.run_between.result c.run_between.ensures.input (λ end fed. (
      lane,
      subst (λ number. IsRecording number Input c.args.errors.0 c.args.streams.0 lane) c.number_told-number.ensures c.record_lane-input.ensures,
      fed,
    ))

pub returns-clause-output : goal.returns-clause-output
returns-clause-output g c =
    let lane = c.record_lane-output.result in
    ok_then c.run_between.result c.run_between.ensures.output (λ end drained. (
      lane,
      subst (λ number. IsRecording number Output c.args.errors.1 c.args.streams.1 lane) c.number_told-number.ensures c.record_lane-output.ensures,
      drained,
    ))
