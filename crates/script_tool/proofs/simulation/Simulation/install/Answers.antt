use Rattle.std.proofs.Common.{[], ◌++◌, List, ℕ, Option, None, codes, sym, ap, subst, ◌∙◌}
use Rattle.std.proofs.lemmas.Result.{on_ok_weaker}
use Rattle.memory_dirs.specs.MemDir.{mem_state}
use Rattle.dir_calls.specs.declared.phase.Phase.TheVariants.{Done}
use Rattle.rules_install.specs.Whole.{MayBeInstalled, RefusesText}
use Rattle.script_tool.specs.Kept.{HasTexts, IsAt}
use Rattle.rules_tools.specs.Reviews.{profile}
use Rattle.script_tool.specs.Sim.{Refusal, installed_texts, refusal_of, told}
use Rattle.script_tool.specs.Texts.{at_phases}
use Rattle.rule_lookup.proofs.AppendLemmas.{on_ok_added}
use Rattle.script_tool.proofs.InstallLemmas.{IsInstalling-begun, MayBeInstalling-none, OnOk-refused, refusal_of-none}
use Rattle.script_tool.proofs.simulation.Simulation.install.Goals as goal

pub advance-requires : goal.advance-requires
advance-requires c =
    let text = c.args.self.now.pending.items in
    (record { text = text; reached = None }, IsInstalling-begun (mem_state c.prepare.new.self.dir) c.in-Ok.install text c.in-Ok.ensures.begun c.in-Ok.ensures.ends.0)

pub append_refusal-requires : goal.append_refusal-requires
append_refusal-requires c = (c.args.self.now.pending.items, c.in-Err.ensures.ends)

pub returns-in_ok-advance-in-Ok : goal.returns-in_ok-advance-in-Ok
returns-in_ok-advance-in-Ok c = λ state at.
    let emptied = c.in-Ok.ensures.emptied state at in
    let text = c.args.self.now.pending.items in
    let begins = IsInstalling-begun (mem_state c.prepare.new.self.dir) c.in-Ok.install text c.in-Ok.ensures.begun c.in-Ok.ensures.ends.0 in
    let ends = c.in_ok-advance-in-Ok.ensures (record { text = text; reached = None }) state.texts begins emptied.texts in
    let accepted = refusal_of-none state.pending (subst (MayBeInstalled profile) at.pending c.in-Ok.ensures.ends) in
    let d = mem_state c.advance.new.dir in
    let texts = subst (λ refusal. HasTexts d (installed_texts refusal state.pending state.texts)) (sym accepted) (subst (λ (new : List ℕ). HasTexts d (at_phases new None Done state.texts)) at.pending ends.2) in
    let begun = MayBeInstalling-none (mem_state c.prepare.new.self.dir) d c.prepare.new.self.begun emptied.begun in
    on_ok_weaker c.extend_from_slice.result (λ e. (record { pending = emptied.pending; name = emptied.name; texts = texts; begun = begun; readers = emptied.readers; history = emptied.history }, e ∙ ap (λ refusal. c.args.out.now.items ++ told (codes "installed\n") refusal) (sym accepted))) (on_ok_added c.extend_from_slice.result _ _ _ c.extend_from_slice.ensures.items)

pub returns-in-Err : goal.returns-in-Err
returns-in-Err c = λ state at.
    let refuses = subst (λ text. RefusesText profile text c.in-Err.fault) at.pending c.in-Err.ensures.ends in
    let P = λ (refusal : Option Refusal). IsAt c.prepare.new.self (record state { pending = []; texts = installed_texts refusal state.pending state.texts; begun = None }) in
    OnOk-refused P c.append_refusal.result (refusal_of state.pending) (codes "installed\n") c.args.out.now.items c.append_refusal.new.out.items (λ words. c.append_refusal.ensures state.pending words refuses) (λ why. c.in-Err.ensures.emptied state at)
