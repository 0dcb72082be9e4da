use Rattle.std.proofs.Common.{[], Option, codes, subst}
use Rattle.rules_install.specs.Whole.{RefusesText}
use Rattle.script_tool.specs.Kept.{IsAt}
use Rattle.rules_tools.specs.Reviews.{profile}
use Rattle.script_tool.specs.Sim.{Refusal, begun_by, refusal_of}
use Rattle.script_tool.proofs.InstallLemmas.{OnOk-refused}
use Rattle.script_tool.proofs.simulation.Simulation.begin.Goals as goal

pub append_refusal-requires : goal.append_refusal-requires
append_refusal-requires c = (c.args.self.now.pending.items, c.in-Err.ensures.ends)

pub returns-in-Err : goal.returns-in-Err
returns-in-Err c = λ state at.
    let refuses = subst (λ text. RefusesText profile text c.in-Err.fault) at.pending c.in-Err.ensures.ends in
    let P = λ (refusal : Option Refusal). IsAt c.prepare.new.self (record state { pending = []; begun = begun_by refusal state.pending }) in
    OnOk-refused P c.append_refusal.result (refusal_of state.pending) (codes "begun\n") c.args.out.now.items c.append_refusal.new.out.items (λ words. c.append_refusal.ensures state.pending words refuses) (λ why. c.in-Err.ensures.emptied state at)
