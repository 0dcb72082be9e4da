use Rattle.std.proofs.Common.{◌≡◌, ℕ, Vec, Global, ap, ◌∙◌}
use Rattle.script_tool.proofs.InstallLemmas.{begun-pending, Begins-pending}
use Rattle.script_tool.proofs.simulation.Simulation.prepare.Goals as goal

-- the text that is prepared is the one that was pending
text_is : (c : goal.After-drop-text-2) → c.as_slice.result.now ≡ c.args.self.now.pending.items
text_is c = c.as_slice.ensures.value ∙ ap (λ (v : Vec ℕ Global). v.items) c.replace-text.ensures.value

pub returns-clause-begun : goal.returns-clause-begun
returns-clause-begun c =
    begun-pending c.prepare.result _ _ (text_is c) c.in_ok-names.field-0 c.in_ok-names.ensures c.prepare.ensures.begun

pub returns-clause-ends : goal.returns-clause-ends
returns-clause-ends c =
    let limits = c.profile.ensures in
    Begins-pending c.prepare.result _ _ (text_is c) c.profile.result limits.text limits.line limits.file c.prepare.ensures.ends
