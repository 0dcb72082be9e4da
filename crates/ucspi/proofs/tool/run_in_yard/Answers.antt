-- The job of a connection may go to another thread.
use mir.Syntax.{named}
use denote.Param.Send.{sendable}
use Rattle.tcp_streams.proofs.Crossing.{job_send}
use Rattle.ucspi.proofs.tool.run_in_yard.Goals as goal

pub serve-requires-send-H-Job : goal.serve-requires-send-H-Job
serve-requires-send-H-Job g c κs within =
    let job = job_send (record { mir = named 3; lft = κs.1.1.1.1.0 }) _ _ c.type_bounds.sync-P-Runtime c.type_bounds.send-P-Errors in
    search sendable depth 6
