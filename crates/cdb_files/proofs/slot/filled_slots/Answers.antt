use Rattle.std.proofs.Common.{◌≡◌, ◌+◌, ◌*◌, ◌≤◌, ℕ, get_or, length, length-set, take, drop, ◌++◌, ap, sym, ◌∙◌, arith}
use Rattle.std.specs.List.{count_by}
use Rattle.std.proofs.Math.ListN.{replicate}
use Rattle.std.proofs.lemmas.List.Sums.{fold_more}
use Rattle.cdb_files.specs.Image.{free_slot, with_entry}
use Rattle.cdb_files.specs.Slots.{is_empty}
use Rattle.cdb_files.proofs.SlotLemmas.{count_by-with_entry, take-whole}
use Rattle.cdb_files.proofs.slot.filled_slots.Goals as goal

pub loop-entry-preserved : goal.loop-entry-preserved
loop-entry-preserved c =
    let old = c.loop-entry.slots.items in
    let entry : ℕ × ℕ = get_or c.args.entries.now c.loop-entry.entry-index (0, 0) in
    let placed : c.fill.new.slots ≡ with_entry old entry = c.fill.ensures ∙ ap (λ s. with_entry s entry) c.deref_mut.ensures.value in
    let long : length c.fill.new.slots ≡ length old = ap length placed ∙ length-set old (free_slot entry.0 old) entry in
    let whole : take c.loop-entry.slots.len (c.fill.new.slots ++ drop (length c.fill.new.slots) old) ≡ c.fill.new.slots = take-whole c.loop-entry.slots.len c.fill.new.slots old (omega (arith, long)) (omega arith) in
    let left : count_by is_empty old ≤ count_by is_empty (with_entry old entry) + 1 = count_by-with_entry old entry (omega arith) in
    (whole ∙ placed ∙ ap (λ s. with_entry s entry) c.loop-entry.invariant.0 ∙ sym (fold_more with_entry (replicate (2 * length c.args.entries.now) (0, 0)) c.args.entries.now c.loop-entry.entry-index (0, 0) c.loop-entry-test.true), omega (arith, left, ap (count_by is_empty) (whole ∙ placed)))
