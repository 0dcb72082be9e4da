use Rattle.std.proofs.Common.{rules, ◌≡◌, sym, ◌∙◌, ap}
use Rattle.std.specs.Prelude.{map}
use Rattle.std.specs.FinMap.{get}
use Rattle.dir_calls.specs.NameTable.{Names}
use Rattle.memory_dirs.specs.Entries.{names_in, change_of}
use Rattle.memory_dirs.proofs.InMemory.{current-table_of}
use Rattle.memory_dirs.proofs.folder.Folder.number.Goals as goal

pub returns : goal.returns
returns c =
    let f = c.args.self.now in
    let found : c.number_at.result ≡ get (names_in f.names.items) c.args.name.now = search rules in
    found ∙ ap (λ (names : Names). get names c.args.name.now) (f.standing ∙ sym (current-table_of (names_in f.origin.items) f.settled (map change_of f.edits.items)))
