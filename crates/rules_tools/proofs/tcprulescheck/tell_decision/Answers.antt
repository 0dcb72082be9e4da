use Rattle.std.proofs.lemmas.Result.{err_from_is_err_and}
use Rattle.rules_tools.proofs.ClientLemmas.{fails_to_tell}
use Rattle.rules_tools.proofs.tcprulescheck.tell_decision.Goals as goal

pub returns-in_err-peer-clause-checks : goal.returns-in_err-peer-clause-checks
returns-in_err-peer-clause-checks g c = λ known honest.
    let p = err_from_is_err_and c.from_residual.result c.from_residual.ensures.1 in
    rw (p.1, p.2) (fails_to_tell (g.V.Variables.value c.args.variables.now) (g.F.Folders.stands c.args.folders.now) c.args.cdb.now c.in_err-peer.field-0.0 (c.in_err-peer.ensures.refused known))
