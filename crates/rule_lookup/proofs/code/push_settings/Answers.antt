-- Each piece is read as the definition reads it.
use Rattle.std.proofs.Common.{[], refl}
use Rattle.rule_lookup.proofs.DecodeLemmas.{BeginsNone-next, IsEndOf-next, ReadsOn-next}
use Rattle.rule_lookup.proofs.code.push_settings.Goals as goal

pub loop-piece-init : goal.loop-piece-init
loop-piece-init c = record { on = λ later. refl; end = ([], refl) }

pub loop-piece-preserved : goal.loop-piece-preserved
loop-piece-preserved c =
    let parts = c.in-Some.ensures in
    record {
      on = rw c.in_ok-push.ensures.ok (ReadsOn-next c.args.settings.now c.loop-piece.settings c.args.codes.now c.loop-piece.rest.now c.loop-piece.invariant.on _ _ _ parts.0 parts.1 c.in-Some-read_setting.ensures);
      end = IsEndOf-next c.args.codes.now c.loop-piece.rest.now _ _ c.loop-piece.invariant.end parts.1;
    }

pub returns-in_default-read_setting-clause-refused : goal.returns-in_default-read_setting-clause-refused
returns-in_default-read_setting-clause-refused c = λ fault _.
    let parts = c.in-Some.ensures in
    BeginsNone-next c.args.settings.now c.loop-piece.settings c.args.codes.now c.loop-piece.rest.now c.loop-piece.invariant.on _ _ parts.0 parts.1 c.in_default-read_setting.ensures
