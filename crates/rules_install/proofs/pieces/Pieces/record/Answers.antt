use Rattle.std.proofs.Common.{◌≡◌, ℕ, ◌+◌, ◌<◌, List, [], ◌++◌, Some, IfOk, MatchOption, drop, length, slice_get, refl, sym, ap, ◌∙◌, subst, arith}
use Rattle.rule_lookup.specs.Codes.{code_of}
use Rattle.rule_lookup.specs.Pairs.{Rule}
use Rattle.cdb_files.specs.Format.{hash_of, record_bytes, record_of, records_of}
use Rattle.cdb_files.specs.Image.{tables_of}
use Rattle.cdb_files.specs.Tables.{AddsEntry}
use Rattle.cdb_files.proofs.RecordLemmas.{length-record_bytes}
use Rattle.cdb_files.specs.Compiled.{pair_of, stored}
use Rattle.rules_install.specs.Pieces.{from_piece}
use Rattle.rules_install.specs.Layout.{ArePlaced}
use Rattle.rules_install.specs.declared.pieces.Piece.TheVariants.{Record, Table}
use Rattle.rules_install.proofs.LayoutLemmas.{ArePlaced-more, room-next}
use Rattle.rules_install.proofs.PieceLemmas.{behind, past_from_none, position-fits, records-more, records-past, rule-fits, stored-here, stored-none}
use Rattle.rules_install.proofs.pieces.Pieces.record.Goals as goal

pub place_record-requires-clause-fits : goal.place_record-requires-clause-fits
place_record-requires-clause-fits c =
    let list = c.self.inside.list in
    let found = stored-here _ _ _ _ c.in_ok-write_rule.ensures.written c.if-not-branch.false in
    let at = ap (slice_get list) (sym c.if-i-self.true) ∙ found.1 in
    let room = room-next list c.self.inside.layout found.0 at c.self.invariant in
    omega (arith, room.0, ap length found.2, ap length found.3)

pub invariant_of-self-in_ok-place_record : goal.invariant_of-self-in_ok-place_record
invariant_of-self-in_ok-place_record c =
    let list = c.self.inside.list in
    let old = c.self.inside.layout in
    let new = c.place_record.new.layout in
    let found = stored-here _ _ _ _ c.in_ok-write_rule.ensures.written c.if-not-branch.false in
    let at = ap (slice_get list) (sym c.if-i-self.true) ∙ found.1 in
    let said = c.in_ok-place_record.ensures in
    let adds = subst (λ (key : List ℕ). AddsEntry (hash_of key, old.end) old.tables new.tables) found.2 said.tables in
    subst (λ (rules : List Rule). ArePlaced rules new) (sym c.in_ok-write_rule.ensures.same)
    (ArePlaced-more list old new found.0 at c.self.invariant adds (omega (arith, said.end, ap length found.2, ap length found.3)) said.placed)

pub append_record-requires-clause-key_fits : goal.append_record-requires-clause-key_fits
append_record-requires-clause-key_fits c =
    let found = stored-here _ _ _ _ c.in_ok-write_rule.ensures.written c.if-not-branch.false in
    let here = rule-fits c.self.inside.list c.args.i found.0 found.1 in
    omega (arith, c.self.invariant.fits, ap length (c.deref.ensures.value ∙ found.2))

pub append_record-requires-clause-value_fits : goal.append_record-requires-clause-value_fits
append_record-requires-clause-value_fits c =
    let found = stored-here _ _ _ _ c.in_ok-write_rule.ensures.written c.if-not-branch.false in
    let here = rule-fits c.self.inside.list c.args.i found.0 found.1 in
    omega (arith, c.self.invariant.fits, ap length (c.deref-2.ensures.value ∙ found.3))

pub overflow_add-result : goal.overflow_add-result
overflow_add-result c =
    let found = stored-here _ _ _ _ c.in_ok-write_rule.ensures.written c.if-not-branch.false in
    let here = position-fits c.self.inside.list c.args.i found.0 found.1 in
    omega (arith, c.self.invariant.fits)

pub returns-clause-made : goal.returns-clause-made
returns-clause-made c =
    let rules = c.args.self.now in
    let found = stored-here _ _ _ _ c.in_ok-write_rule.ensures.written c.if-not-branch.false in
    let rule = found.0 in
    let rest = records_of (drop (c.args.i + 1) (stored rules)) in
    let key : c.deref.result.now ≡ rule.address = c.deref.ensures.value ∙ found.2 in
    let code : c.deref-2.result.now ≡ code_of rule.instr = c.deref-2.ensures.value ∙ found.3 in
    let piece = c.append_record.new.out.items in
    let record_is : piece ≡ record_of (pair_of rule) =
    c.in_ok-append_record.ensures.appended ∙ ap (λ (old : List ℕ). old ++ record_bytes c.deref.result.now c.deref-2.result.now) c.requires
    ∙ (λ i. record_bytes (key i) (code i)) in
    let long : length piece ≡ 8 + length rule.address + length (code_of rule.instr) =
    ap length record_is ∙ length-record_bytes rule.address (code_of rule.instr) in
    let at = subst (λ (rs : List Rule). slice_get rs c.args.i ≡ Some rule) c.self.view_is found.1 in
    let split : from_piece rules (Record c.args.i) ≡ (record_of (pair_of rule) ++ rest) ++ tables_of (stored rules) =
    ap (λ (bytes : List ℕ). bytes ++ tables_of (stored rules)) (records-more rules c.args.i rule at) in
    (omega (arith, long), split ∙ behind piece rest (record_of (pair_of rule)) rest (tables_of (stored rules)) (sym record_is) refl)

pub returns-then-not-branch-clause-made : goal.returns-then-not-branch-clause-made
returns-then-not-branch-clause-made c =
    let rules = c.args.self.now in
    let same : c.write_rule.new.self ≡ rules = c.in_ok-write_rule.ensures.same ∙ c.self.view_is in
    let past = past_from_none c.self.inside.list c.args.i (stored-none _ _ _ _ c.in_ok-write_rule.ensures.written c.if-not-branch.true) in
    let none : records_of (drop c.args.i (stored rules)) ≡ [] =
    ap (λ (rs : List Rule). records_of (drop c.args.i (stored rs))) (sym c.self.view_is) ∙ records-past c.self.inside.list c.args.i past in
    let whole : from_piece rules (Table 0) ≡ from_piece rules (Record c.args.i) =
    ap (λ (bytes : List ℕ). bytes ++ tables_of (stored rules)) (sym none) in
    let made = subst (λ (rs : List Rule). IfOk c.table.result (λ next. MatchOption next ((from_piece rs (Table 0) ≡ []) × (c.table.new.piece.items ≡ [])) (λ n. (0 < length c.table.new.piece.items) × (from_piece rs (Table 0) ≡ c.table.new.piece.items ++ from_piece rs n)))) same c.table.ensures.made in
    subst (λ (bytes : List ℕ). IfOk c.table.result (λ next. MatchOption next ((bytes ≡ []) × (c.table.new.piece.items ≡ [])) (λ n. (0 < length c.table.new.piece.items) × (bytes ≡ c.table.new.piece.items ++ from_piece rules n)))) whole made
