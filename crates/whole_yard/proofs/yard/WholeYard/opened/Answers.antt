use Rattle.std.proofs.Common.{refl, sym, ◌∙◌}
use mathlib.Core.Logic.{∥∥₁_map}
use Rattle.std.specs.Prelude.{is_some}
use Rattle.server_events.specs.declared.event.Event.TheVariants as event
use Rattle.server_yard.specs.Evidence.{evidence_of}
use Rattle.server_yard.specs.Yards.{yard_roll}
use Rattle.whole_yard.proofs.Keeping.{kept_told, makes_told, phase_told, told_stored}
use Rattle.whole_yard.proofs.yard.WholeYard.opened.Goals as goal

pub invariant_of-self : goal.invariant_of-self
invariant_of-self g c =
    let old = c.args.self.now in
    let makes = c.opened.ensures.makes in
    let before = yard_roll old.yard in
    let after = yard_roll c.opened.new.self in
    let notes = makes_told (event.Opened c.args.serial (is_some c.args.file)) (evidence_of c.opened.result) old.yard c.opened.new.self refl tt makes in
    record {
      honest = old.honest;
      installs = old.installs;
      told = old.told;
      phase = old.phase ∙ sym (phase_told _ before after notes);
      going = old.going;
      finds = old.finds;
      listed = old.listed ∙ sym (told_stored _ before after notes);
      installed = λ met. ∥∥₁_map (old.installed met) (λ k. kept_told _ before after notes old.yard.small _ _ _ _ k);
    }
