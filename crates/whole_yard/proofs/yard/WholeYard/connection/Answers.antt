use Rattle.std.proofs.Common.{refl, subst, sym, ◌∙◌}
use mathlib.Core.Logic.{∥∥₁_map}
use Rattle.server_yard.specs.Rolls.{Roll}
use Rattle.server_yard.specs.Rooms.{KeepsRoom}
use Rattle.server_yard.specs.Yards.{yard_books, yard_roll}
use Rattle.whole_yard.specs.ConnectionTurns.{NotesTold}
use Rattle.whole_yard.specs.Callers.{spoken_by}
use Rattle.whole_yard.proofs.Keeping.{kept_told, phase_told, told_stored}
use Rattle.whole_yard.proofs.yard.WholeYard.connection.Goals as goal

-- the caller speaks, and then the turn is run
pub returns : goal.returns
returns g c =
    let speaks = c.speaker.ensures.speaks in
    let ran = c.run.ensures in
    let after = yard_roll c.run.new.yard in
    record {
      answers = subst (λ (r : Roll). g.T.ConnectionTurn.answers c.args.turn r.speaker r.books.count c.run.result (yard_books c.run.new.yard).count) speaks ran.answers;
      notes = subst (λ (r : Roll). NotesTold (g.T.ConnectionTurn.tells c.args.turn c.run.result) r after) speaks ran.notes;
      room = subst (λ (r : Roll). KeepsRoom r after) speaks ran.room;
      same = record {
        directory = refl;
        rules = refl;
        installing = refl;
        kept = refl;
        begun = refl;
        lists_same = refl;
      };
    }

pub invariant_of-self : goal.invariant_of-self
invariant_of-self g c =
    let old = c.args.self.now in
    let before = spoken_by c.args.caller (yard_roll old.yard) in
    let spoke = c.speaker.ensures in
    let ran = c.run.ensures in
    let after = yard_roll c.run.new.yard in
    let notes = subst (λ (r : Roll). NotesTold (g.T.ConnectionTurn.tells c.args.turn c.run.result) r after) spoke.speaks ran.notes in
    record {
      honest = old.honest;
      installs = old.installs;
      told = old.told;
      phase = old.phase ∙ sym (phase_told _ before after notes);
      going = old.going;
      finds = old.finds;
      listed = old.listed ∙ sym (told_stored _ before after notes);
      installed = λ met. ∥∥₁_map (old.installed met)
          (λ k. kept_told _ before after notes old.yard.small _ _ _ _ k);
    }
