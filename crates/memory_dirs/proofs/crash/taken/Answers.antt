use Rattle.std.proofs.Common.{◌≡◌, ◌+◌, ◌-◌, length, List, sym, ◌∙◌, ap, arith}
use Rattle.std.proofs.lemmas.List.{length-map}
use Rattle.std.specs.Prelude.{map, drop}
use Rattle.dir_calls.specs.NameTable.{NameChange}
use Rattle.memory_dirs.specs.Entries.{change_of}
use Rattle.dir_calls.specs.Stop.{chosen_changes}
use Rattle.dir_calls.proofs.Stops.{chosen_junk}
use Rattle.memory_dirs.proofs.crash.taken.Goals as goal

pub returns-in-Junk-clause-chosen : goal.returns-in-Junk-clause-chosen
returns-in-Junk-clause-chosen c =
    let f = c.args.folder.now in
    let changes : List NameChange = map change_of f.edits.items in
    let count : c.max.result ≡ f.settled + (length changes - f.settled - 1) = omega (arith, f.settled_fits, f.edits.ok.0, c.len-count.ensures, length-map f.edits.items change_of) in
    chosen_junk changes f.settled c.max.result count ∙ ap (λ choice. chosen_changes choice (drop f.settled changes)) (sym c.in-Junk.is)
