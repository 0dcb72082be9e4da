use Rattle.std.proofs.Common.{ℕ, List, inr}
use Rattle.std.specs.Prelude.{Option}
use Rattle.std.proofs.lemmas.Result.{err_from_is_err_and}
use Rattle.rule_lookup.specs.Peers.{Client}
use Rattle.rules_tools.specs.Checks.{FailsBy}
use Rattle.rules_tools.specs.Told.{HasNone}
use Rattle.rules_tools.specs.declared.tcprulescheck.CheckFault.{CheckFault}
use Rattle.rules_tools.specs.declared.tcprulescheck.CheckFault.TheVariants.{BadIp, BadHost, BadInfo, NoFile, Device, ReadFault, Damaged, WriteFault, OutOfMemory}
use Rattle.rules_tools.proofs.ToldLemmas.{none_there, one_there}
use Rattle.rules_tools.proofs.tcprulescheck.decide_there.Goals as goal

-- a decision that failed is none
fails_there : (name : List ℕ) (file : Option (List ℕ)) (peer : Client) (fault : CheckFault) → FailsBy file peer fault → HasNone name file peer fault
fails_there name file peer Damaged fails = fails
fails_there name file peer Device fails = tt
fails_there name file peer ReadFault fails = tt
fails_there name file peer OutOfMemory fails = tt
fails_there name file peer NoFile fails = absurd fails
fails_there name file peer BadIp fails = fails
fails_there name file peer BadHost fails = fails
fails_there name file peer BadInfo fails = fails
fails_there name file peer WriteFault fails = fails

pub returns-in_err-decision-clause-refused : goal.returns-in_err-decision-clause-refused
returns-in_err-decision-clause-refused g c honest =
    let p = err_from_is_err_and c.from_residual.result c.from_residual.ensures.1 in
    rw (p.1, p.2) (fails_there c.args.name.now _ c.args.peer.now c.in_err-decision.field-0.0 (c.in_err-decision.ensures.refused honest))

pub returns-in-NoFile-clause-refused : goal.returns-in-NoFile-clause-refused
returns-in-NoFile-clause-refused g c honest =
    inr (none_there _ c.args.peer.now c.in_ok-decision.decision (c.in_ok-decision.ensures.decided honest) c.in-NoFile.is)

pub returns-in_default : goal.returns-in_default
returns-in_default g c = record {
  decided = λ honest. one_there _ c.args.peer.now c.in_ok-decision.decision (c.in_ok-decision.ensures.decided honest) c.in_default.not-NoFile;
  refused = λ honest. tt;
}
