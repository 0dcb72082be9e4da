use Rattle.std.proofs.Common.{◌/◌, ◌%◌, length, set, ap, sym, refl, ◌∙◌, arith}
use Rattle.cdb_files.proofs.SlotLemmas.{free_slot_found, free_slot_found_before, first-le, start-lt}
use Rattle.cdb_files.proofs.slot.fill.Goals as goal
use Rattle.cdb_files.proofs.slot.fill.Goals.{then-upward-slots, else-upward-slots}

pub overflow_add-upward : goal.overflow_add-upward
overflow_add-upward c =
    let start = start-lt c.args.entry.0 c.args.slots.now c.requires in
    let within = first-le c.args.slots.now (c.args.entry.0 / 256 % length c.args.slots.now) c.empty_slot.result (omega (arith, start)) c.empty_slot.ensures in
    omega (arith, within)

pub bounds-slots-free : goal.bounds-slots-free
bounds-slots-free c =
    elim c.if-upward-slots.branch [
      | then-upward-slots w ↦ omega (arith, w.free-is, w.if-upward-slots.true)
      | else-upward-slots w ↦
          let before = free_slot_found_before c.args.entry.0 c.args.slots.now _ _ _ refl c.empty_slot.ensures w.empty_slot-free.ensures c.requires w.if-upward-slots.false in
          omega (arith, w.free-is, before.1)
    ]

pub offset_bounds-slots-free : goal.offset_bounds-slots-free
offset_bounds-slots-free c = omega (arith, bounds-slots-free c)

pub returns : goal.returns
returns c =
    elim c.if-upward-slots.branch [
      | then-upward-slots w ↦
          ap (λ i. set c.args.slots.now i c.args.entry) (w.free-is ∙ sym (free_slot_found c.args.entry.0 c.args.slots.now _ _ refl c.empty_slot.ensures w.if-upward-slots.true))
      | else-upward-slots w ↦
          let before = free_slot_found_before c.args.entry.0 c.args.slots.now _ _ _ refl c.empty_slot.ensures w.empty_slot-free.ensures c.requires w.if-upward-slots.false in
          ap (λ i. set c.args.slots.now i c.args.entry) (w.free-is ∙ sym before.0)
    ]
