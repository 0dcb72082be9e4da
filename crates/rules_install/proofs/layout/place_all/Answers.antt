-- Rule after rule gets the next position.
use Rattle.std.proofs.Common.{◌∙◌, List, length, slice_get, sym, ap, subst, arith}
use Rattle.std.proofs.lemmas.Option.{slice_get_within}
use Rattle.rule_lookup.specs.Pairs.{Rule}
use Rattle.cdb_files.specs.Format.{hash_of}
use Rattle.cdb_files.specs.Tables.{AddsEntry}
use Rattle.rules_install.proofs.PieceLemmas.{past_from_none, stored-here, stored-none}
use Rattle.rules_install.proofs.LayoutLemmas.{ArePlaced-more, placed-le, room-next}
use Rattle.rules_install.proofs.layout.place_all.Goals as goal

pub place_record-requires-clause-fits : goal.place_record-requires-clause-fits
place_record-requires-clause-fits c =
    let found = stored-here _ _ _ _ c.in_ok-write_rule.ensures.written c.if-branch.true in
    let at = ap (λ (rules : List Rule). slice_get rules c.loop-layout.layout.placed) (sym c.loop-layout.invariant.0) ∙ found.1 in
    let room = room-next c.args.list.now c.loop-layout.layout found.0 at c.loop-layout.invariant.1 in
    omega (arith, room.0, ap length found.2, ap length found.3)

pub place_record-requires-clause-few : goal.place_record-requires-clause-few
place_record-requires-clause-few c =
    let found = stored-here _ _ _ _ c.in_ok-write_rule.ensures.written c.if-branch.true in
    let at = ap (λ (rules : List Rule). slice_get rules c.loop-layout.layout.placed) (sym c.loop-layout.invariant.0) ∙ found.1 in
    (room-next c.args.list.now c.loop-layout.layout found.0 at c.loop-layout.invariant.1).1

pub loop-layout-preserved : goal.loop-layout-preserved
loop-layout-preserved c =
    let found = stored-here _ _ _ _ c.in_ok-write_rule.ensures.written c.if-branch.true in
    let at = ap (λ (rules : List Rule). slice_get rules c.loop-layout.layout.placed) (sym c.loop-layout.invariant.0) ∙ found.1 in
    let adds = subst (λ key. AddsEntry (hash_of key, c.loop-layout.layout.end) c.loop-layout.layout.tables c.place_record.new.layout.tables) found.2 c.in_ok-place_record.ensures.tables in (
      c.in_ok-write_rule.ensures.same ∙ c.loop-layout.invariant.0,
      ArePlaced-more c.args.list.now c.loop-layout.layout c.place_record.new.layout found.0 at c.loop-layout.invariant.1 adds
          (omega (arith, c.in_ok-place_record.ensures.end, ap length found.2, ap length found.3)) c.in_ok-place_record.ensures.placed,
    )

pub loop-layout-smaller : goal.loop-layout-smaller
loop-layout-smaller c =
    let found = stored-here _ _ _ _ c.in_ok-write_rule.ensures.written c.if-branch.true in
    let at = ap (λ (rules : List Rule). slice_get rules c.loop-layout.layout.placed) (sym c.loop-layout.invariant.0) ∙ found.1 in
    omega (arith, slice_get_within c.args.list.now c.loop-layout.layout.placed found.0 at, c.in_ok-place_record.ensures.placed)

pub returns-clause-all : goal.returns-clause-all
returns-clause-all c =
    let none = ap (λ (rules : List Rule). slice_get rules c.loop-layout.layout.placed) (sym c.loop-layout.invariant.0) ∙ stored-none _ _ _ _ c.in_ok-write_rule.ensures.written c.if-branch.false in
    omega (arith, past_from_none c.args.list.now c.loop-layout.layout.placed none, placed-le c.args.list.now c.loop-layout.layout c.loop-layout.invariant.1)
