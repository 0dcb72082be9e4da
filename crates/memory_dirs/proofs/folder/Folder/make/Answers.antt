use Rattle.std.proofs.Common.{rules, ◌≡◌, List, [], ◌∷◌, ◌++◌, length, sym, ◌∙◌, ap, arith}
use Rattle.std.proofs.lemmas.List.{length-map, map-append}
use Rattle.std.specs.FinMap.{insert, remove}
use Rattle.std.specs.Prelude.{map, option_to_list, Some, false}
use Rattle.dir_calls.specs.Calls.{without}
use Rattle.dir_calls.specs.NameTable.{Names, NameChange, puts, push, after_changes}
use Rattle.dir_calls.specs.Directory.{number_of}
use Rattle.memory_dirs.specs.Entries.{names_in, change_of}
use Rattle.memory_dirs.specs.Folder.{directory_of, table_of}
use Rattle.memory_dirs.specs.Stored.{file_of}
use Rattle.memory_dirs.proofs.InMemory.{putting, table_of-putting, after_changes-putting}
use Rattle.memory_dirs.proofs.folder.Folder.make.Goals as goal

pub invariant_of-self-2-clause-standing : goal.invariant_of-self-2-clause-standing
invariant_of-self-2-clause-standing c =
    let f = c.args.self.now in
    let name = c.args.name.now in
    let origin : Names = names_in f.origin.items in
    let changes : List NameChange = map change_of f.edits.items in
    let same : c.in_ok-to_vec.field-0.items ≡ name = search rules in
    let kept : map change_of c.keep_both.new.edits.items ≡ changes ++ putting name c.len-number.result (number_of (directory_of f) name) =
    c.keep_both.ensures ∙ (λ i. map change_of (c.in_ok-try_reserve.ensures.items i) ++ (option_to_list (c.in_ok-taken.ensures i) ++ puts (same i) c.len-number.result ∷ [])) in
    let old : c.deref.result.now ≡ f.names.items = search rules in
    c.in_ok-names.ensures ∙ ap (λ (names : Names). insert (remove names name) name c.len-number.result) (ap names_in old ∙ f.standing)
    ∙ sym (ap (after_changes origin) kept ∙ after_changes-putting origin changes name c.len-number.result (number_of (directory_of f) name))

pub returns-clause-ok : goal.returns-clause-ok
returns-clause-ok c =
    let f = c.args.self.now in
    let name = c.args.name.now in
    let number = c.len-number.result in
    let origin : Names = names_in f.origin.items in
    let changes : List NameChange = map change_of f.edits.items in
    let same : c.in_ok-to_vec.field-0.items ≡ name = search rules in
    let kept : map change_of c.keep_both.new.edits.items ≡ changes ++ putting name number (number_of (directory_of f) name) =
    c.keep_both.ensures ∙ (λ i. map change_of (c.in_ok-try_reserve.ensures.items i) ++ (option_to_list (c.in_ok-taken.ensures i) ++ puts (same i) number ∷ [])) in
    let counted : number ≡ length f.files.items = search rules in
    let count : number ≡ length (map file_of f.files.items) = counted ∙ sym (length-map f.files.items file_of) in
    let names : table_of origin f.settled (map change_of c.keep_both.new.edits.items) ≡ push (without (directory_of f) name).names (puts name (length (map file_of f.files.items))) =
    ap (table_of origin f.settled) kept ∙ table_of-putting origin f.settled changes name number (number_of (directory_of f) name) (omega (arith, f.settled_fits, length-map f.edits.items change_of))
    ∙ ap (λ n. push (without (directory_of f) name).names (puts name n)) count in
    let empty : c.new.result.items ≡ [] = search rules in
    let files : map file_of c.push_reserved.new.self.items ≡ map file_of f.files.items ++ record { bytes = []; synced = false } ∷ [] =
    ap (map file_of) c.push_reserved.ensures.items ∙ map-append file_of _ _
    ∙ (λ i. map file_of (c.in_ok-try_reserve-2.ensures.items i) ++ record { bytes = empty i; synced = false } ∷ []) in
    λ i. record { names = names i; files = files i; scratch = Some (count i) }
