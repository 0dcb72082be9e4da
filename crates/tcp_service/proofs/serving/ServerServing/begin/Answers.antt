-- A connection whose client was sent the banner may start its program.
use Rattle.std.proofs.Common.{subst}
use Rattle.tcp_service.specs.Greetings.{IsGreeted, greeted_connection, greeted_identity, guest_connection}
use Rattle.tcp_service.proofs.serving.ServerServing.begin.Goals as goal

pub run-requires-clause-may : goal.run-requires-clause-may
run-requires-clause-may g c =
    let accepted = guest_connection c.args.admitted.guest in
    let connection = greeted_connection c.in-Ok.greeted in
    c.args.self.now.may accepted connection (greeted_identity c.in-Ok.greeted)
    (subst (λ banner. IsGreeted g.H.Connection.Write.contents banner accepted connection) c.banner.ensures c.in-Ok.ensures.greeted)
