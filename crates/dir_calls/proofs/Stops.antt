-- What a stop leaves by a choice.
use Rattle.std.proofs.Common.{◌≡◌, ℕ, ◌+◌, ◌-◌, ◌≤◌, List, ◌++◌, length, take, drop, refl, sym, ◌∙◌, ap, arith}
use Rattle.std.proofs.lemmas.List.{take_all, drop-take, length-drop, length-map}
use Rattle.std.proofs.lemmas.List.Sums.{fold-append}
use Rattle.std.proofs.lemmas.Option.{slice_get-map}
use Rattle.std.proofs.Math.Seq.{take-add}
use Rattle.std.specs.Prelude.{if◌then◌else◌}
use Rattle.std.specs.Option.{option_map}
use Rattle.dir_calls.specs.declared.choice.Choice.{Choice}
use Rattle.dir_calls.specs.declared.choice.Choice.TheVariants.{Kept, Empty, Junk}
use Rattle.dir_calls.specs.NameTable.{Names, NameTable, NameChange, CanBeLeft, after_change, after_changes}
use Rattle.dir_calls.specs.Directory.{Directory, FileState}
use Rattle.dir_calls.specs.Images.{IsLeftOf, IsImage}
use Rattle.dir_calls.specs.Stop.{chosen_bytes, chosen_changes, stopped_file, stopped}

-- all changes but the last
pub chosen_junk : (changes : List NameChange) (settled count : ℕ) → count ≡ settled + (length changes - settled - 1) → drop settled (take count changes) ≡ chosen_changes Junk (drop settled changes)
chosen_junk changes settled count is = ap (λ n. drop settled (take n changes)) fits ∙ drop-take settled (length (drop settled changes) - 1) changes
  where
    fits : count ≡ settled + (length (drop settled changes) - 1)
    fits = omega (arith, is, length-drop settled changes)

-- the names after the settled changes and those that are taken
pub chosen_names : (origin : Names) (settled count : ℕ) (changes chosen : List NameChange) → settled ≤ count → drop settled (take count changes) ≡ chosen → after_changes origin (take count changes) ≡ after_changes (after_changes origin (take settled changes)) chosen
chosen_names origin settled count changes chosen le is = ap (after_changes origin) parts ∙ fold-append after_change origin (take settled changes) chosen
  where
    more : count ≡ settled + (count - settled)
    more = omega arith

    parts : take count changes ≡ take settled changes ++ chosen
    parts = ap (λ n. take n changes) more ∙ take-add settled (count - settled) changes
        ∙ ap (λ (l : List NameChange). take settled changes ++ l) (sym (ap (λ n. drop settled (take n changes)) more ∙ drop-take settled (count - settled) changes) ∙ is)

-- Whatever is chosen, a stop may leave it.
chosen_left : (choice : Choice) (table : NameTable) → CanBeLeft table (after_changes table.settled (chosen_changes choice table.pending))
chosen_left Kept table = record { count = length table.pending; are = ap (after_changes table.settled) (sym (take_all (length table.pending) table.pending (omega arith))) }
chosen_left Empty table = record { count = 0; are = refl }
chosen_left Junk table = record { count = length table.pending - 1; are = refl }

pub file_left : (table : NameTable) (number : ℕ) (choice : Choice) (file : FileState) → IsLeftOf table number file (stopped_file choice file)
file_left table number choice file = record { bytes = λ named synced. ap (λ s. if s then file.bytes else chosen_bytes choice file.bytes) synced; synced = refl }

pub stopped_is : (choice : Choice) (d : Directory) → IsImage d (stopped choice d)
stopped_is choice d = record {
  names = record { each = λ name. (after_changes d.names.settled (chosen_changes choice d.names.pending), chosen_left choice d.names, refl) };
  none_pending = refl;
  count = length-map d.files (stopped_file choice);
  files = λ number file there. (stopped_file choice file, slice_get-map (stopped_file choice) d.files number ∙ ap (option_map (stopped_file choice)) there, file_left d.names number choice file);
  no_scratch = refl;
}
