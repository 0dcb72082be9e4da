use Rattle.std.proofs.Common.{rules, ◌≡◌, List, [], ◌∷◌, ◌++◌, sym, ◌∙◌, ap, arith}
use Rattle.std.proofs.lemmas.List.{length-map, map-append}
use Rattle.std.specs.Prelude.{map}
use Rattle.dir_calls.specs.NameTable.{NameChange, moves}
use Rattle.dir_calls.specs.Calls.{with_names}
use Rattle.memory_dirs.specs.Entries.{names_in, change_of}
use Rattle.memory_dirs.specs.Folder.{directory_of, table_of}
use Rattle.memory_dirs.proofs.InMemory.{same_found, renamed_same, renamed_other, table_of-push}
use Rattle.memory_dirs.proofs.folder.Folder.rename.Goals as goal

pub returns-then-eq-clause-ok : goal.returns-then-eq-clause-ok
returns-then-eq-clause-ok c = renamed_same (directory_of c.args.self.now) c.args.from.now c.args.to.now c.args.number c.requires (same_found c.number.result _ c.args.number c.number.ensures (sym c.eq.ensures ∙ c.if-eq.true))

pub returns-clause-ok : goal.returns-clause-ok
returns-clause-ok c =
    let f = c.args.self.now in
    let changes : List NameChange = map change_of f.edits.items in
    let same_from : c.in_ok-to_vec.field-0.items ≡ c.args.from.now = search rules in
    let same_to : c.in_ok-to_vec-2.field-0.items ≡ c.args.to.now = search rules in
    let pushed : map change_of c.push.new.self.items ≡ changes ++ moves c.args.from.now c.args.to.now c.args.number ∷ [] =
    ap (map change_of) c.in_ok-push.ensures.items ∙ map-append change_of f.edits.items _ ∙ (λ i. changes ++ moves (same_from i) (same_to i) c.args.number ∷ []) in
    ap (with_names (directory_of f)) (ap (table_of (names_in f.origin.items) f.settled) pushed
    ∙ table_of-push (names_in f.origin.items) f.settled changes (moves c.args.from.now c.args.to.now c.args.number) (omega (arith, f.settled_fits, length-map f.edits.items change_of)))
    ∙ renamed_other (directory_of f) c.args.from.now c.args.to.now c.args.number c.requires (same_found c.number.result _ c.args.number c.number.ensures (sym c.eq.ensures ∙ c.if-eq.false))
