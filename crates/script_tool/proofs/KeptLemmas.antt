-- What is kept of a run of `rulesim`.
use Rattle.std.proofs.Common.{◌≡◌, None, refl}
use Rattle.std.specs.Cmp.Lexicographic.{slice_cmp}
use Rattle.std.specs.FinMap.{get-empty}
use Rattle.std.specs.Ordering.{nat_cmp}
use Rattle.std.specs.Str.{chars, is_utf8}
use lib.Utf8.{encode}
use Rattle.dir_calls.specs.declared.choice.Choice.{Choice}
use Rattle.dir_calls.specs.declared.choice.Choice.TheVariants.{Kept, Empty, Junk}
use Rattle.memory_dirs.specs.Folder.{empty_directory}
use Rattle.dir_calls.specs.NameTable.{after_changes}
use Rattle.dir_calls.specs.Names.{name_fault}
use Rattle.dir_calls.specs.Stop.{chosen_changes}
use Rattle.script_tool.specs.Kept.{HasTexts, Shows, sim_names}
use Rattle.script_tool.specs.Texts.{left_by, no_texts}

-- the names of the rules file and of the scratch file are names
pub cdb_is_name : name_fault (sim_names.cdb) ≡ None
unfolding chars encode is_utf8
cdb_is_name = refl

pub tmp_is_name : name_fault (sim_names.tmp) ≡ None
unfolding chars encode is_utf8
tmp_is_name = refl

-- nothing stands in an empty directory, and stops leave nothing
abbrev ShowsLeft : Choice → Type 0
ShowsLeft choice = Shows (after_changes (empty_directory.names.settled) (chosen_changes choice (empty_directory.names.pending))) (empty_directory.files) (left_by choice no_texts)

nothing_left : (choice : Choice) → ShowsLeft choice
nothing_left Kept = get-empty (slice_cmp nat_cmp) (sim_names.cdb)
nothing_left Empty = get-empty (slice_cmp nat_cmp) (sim_names.cdb)
nothing_left Junk = get-empty (slice_cmp nat_cmp) (sim_names.cdb)

pub HasTexts-empty : HasTexts empty_directory no_texts
HasTexts-empty = record { standing = get-empty (slice_cmp nat_cmp) (sim_names.cdb); left = nothing_left }
