use Rattle.std.proofs.Common.{rules, ◌≡◌, length, sym, ◌∙◌, ap}
use Rattle.std.proofs.lemmas.List.{length-map}
use Rattle.std.specs.Prelude.{map}
use Rattle.dir_calls.specs.Calls.{with_names}
use Rattle.memory_dirs.specs.Entries.{names_in, change_of}
use Rattle.memory_dirs.specs.Folder.{directory_of}
use Rattle.memory_dirs.proofs.InMemory.{table_of-all}
use Rattle.memory_dirs.proofs.folder.Folder.settle.Goals as goal

pub returns : goal.returns
returns c =
    let f = c.args.self.now in
    let count : c.len-self.result ≡ length f.edits.items = search rules in
    ap (with_names (directory_of f)) (table_of-all (names_in f.origin.items) f.settled c.len-self.result (map change_of f.edits.items) (count ∙ sym (length-map f.edits.items change_of)))
