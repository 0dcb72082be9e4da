use Rattle.std.proofs.Common.{◌≡◌, rules, sym, ◌∙◌, ap}
use Rattle.std.specs.FinMap.{insert, remove}
use Rattle.dir_calls.specs.NameTable.{after_change, puts}
use Rattle.memory_dirs.specs.Entries.{names_in, change_of}
use Rattle.dir_calls.proofs.Pairs.{insert-remove}
use Rattle.memory_dirs.proofs.Results.{if_ok_then}
use Rattle.memory_dirs.proofs.entries.after_edit.Goals as goal

pub returns-in-Put : goal.returns-in-Put
returns-in-Put c =
    let change : change_of c.args.edit.now ≡ puts c.in-Put.name.items c.in-Put.number = ap change_of c.in-Put.is in
    let from : c.deref-in-Put.result.now ≡ c.in-Put.name.items = search rules in
    let to : c.deref-in-Put-2.result.now ≡ c.in-Put.name.items = search rules in
    if_ok_then c.with_name.result _ _
    (λ left is. is ∙ (λ i. insert (remove (names_in c.args.names.now) (from i)) (to i) c.in-Put.number) ∙ insert-remove (names_in c.args.names.now) c.in-Put.name.items c.in-Put.number ∙ sym (ap (after_change (names_in c.args.names.now)) change))
    c.with_name.ensures
