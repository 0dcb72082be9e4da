use Rattle.std.proofs.Common.{rules, ◌≡◌, List, take, drop, sym, ◌∙◌, ap}
use Rattle.std.proofs.lemmas.List.{take-map}
use Rattle.std.specs.Prelude.{map}
use Rattle.dir_calls.specs.NameTable.{Names, NameChange, after_changes}
use Rattle.memory_dirs.specs.Entries.{names_in, change_of}
use Rattle.memory_dirs.specs.Folder.{settled_directory}
use Rattle.memory_dirs.specs.Stored.{file_of}
use Rattle.dir_calls.specs.Stop.{chosen_changes, stopped_file}
use Rattle.memory_dirs.proofs.Results.{if_ok_then}
use Rattle.dir_calls.proofs.Stops.{chosen_names}
use Rattle.memory_dirs.proofs.crash.stopped_folder.Goals as goal

pub returns : goal.returns
returns c =
    let f = c.args.folder.now in
    let origin : Names = names_in f.origin.items in
    let changes : List NameChange = map change_of f.edits.items in
    let chosen : List NameChange = chosen_changes c.args.choice (drop f.settled changes) in
    let edited : names_in c.in_ok-names.names.items ≡ after_changes origin (map change_of (take c.taken-count.result f.edits.items)) = search rules in
    let files : map file_of c.in_ok-files.files.items ≡ map (stopped_file c.args.choice) (map file_of f.files.items) = search rules in
    let names : names_in c.in_ok-names.names.items ≡ after_changes (after_changes origin (take f.settled changes)) chosen =
    edited ∙ ap (after_changes origin) (sym (take-map change_of c.taken-count.result f.edits.items))
    ∙ chosen_names origin f.settled c.taken-count.result changes chosen c.taken-count.ensures.not_settled c.taken-count.ensures.chosen in
    if_ok_then c.settled_folder.result _ _ (λ left is. is ∙ (λ i. settled_directory (names i) (files i))) c.settled_folder.ensures
