-- A connection that was greeted may start what it is decided to get.
use Rattle.std.proofs.Common.{subst, sym}
use Rattle.std.specs.Prelude.{IsTrue}
use Rattle.tcp_service.specs.Ends.{noted_event}
use Rattle.tcp_service.specs.Greetings.{greeted_connection}
use Rattle.tcp_service.proofs.server.Server.run.Goals as goal

pub start-started-requires : goal.start-started-requires
start-started-requires g c =
    let may = g.H.Connection.Launcher.may (greeted_connection c.args.greeted) in
    record {
      may = subst (λ program. IsTrue (may program c.args.judged.environment)) (sym c.program-program.ensures)
          (c.requires.may (noted_event c.args.judged.noted) c.args.judged.environment c.requires.allowed);
    }
