-- How the state of a run of `rulesim` is kept: in a directory in memory, and in files that are compiled of the texts.
use Rattle.std.specs.Prelude.{◌≡◌, ◌≢◌, ℕ, ◌+◌, ◌-◌, ◌<◌, true, false, List, Option, Some, None, codes}
use Rattle.std.specs.FinMap.{get}
use Rattle.std.specs.BTreeMap.{get_by_text}
use Rattle.dir_calls.specs.declared.choice.Choice.{Choice}
use Rattle.dir_calls.specs.Directory.{Directory, FileState, names_of}
use Rattle.memory_dirs.specs.MemDir.{mem_state}
use Rattle.dir_calls.specs.NameTable.{Names, after_changes}
use Rattle.dir_calls.specs.Stop.{chosen_changes}
use Rattle.cdb_files.specs.Compiled.{Compiled}
use Rattle.rule_lines.specs.Faults.{IsAccepted}
use Rattle.rule_lookup.specs.Pairs.{pairs_of}
use Rattle.rules_install.specs.Filled.{fillings_left}
use Rattle.rules_install.specs.Installing.{Installing, Fits, file_among, next_phase}
use Rattle.rules_install.specs.Installs.{installing}
use Rattle.rules_install.specs.NamePair.{NamePair}
use Rattle.dir_calls.specs.declared.phase.Phase.{Phase}
use Rattle.script_tool.specs.declared.simulation.Simulation.{Simulation}
use Rattle.script_tool.specs.declared.simulation.Progress.{Progress}
use Rattle.rules_tools.specs.Reviews.{profile}
use Rattle.script_tool.specs.Sim.{BegunInstall, State, begun_to}
use Rattle.script_tool.specs.Texts.{Texts, at_phases, later_of, left_by, position_reached}

-- the names of the rules file and of the scratch file
abbrev pub sim_names : NamePair
sim_names = record { cdb = codes "rules"; tmp = codes "rules.tmp" }

-- a file is compiled of an accepted text
pub record IsFileOf (text file : List ℕ) : Type 0 where
  pub compiled : Compiled file text
  pub accepted : IsAccepted profile text

-- if these are the names, a synced file of this text stands under the rules name, and not under the scratch name; or
-- nothing stands there
abbrev pub Shows : Names → List FileState → Option (List ℕ) → Type 0
Shows names files None = get names (sim_names.cdb) ≡ None
Shows names files (Some text) =
    (file : List ℕ) × (file_among names files (sim_names.cdb) ≡ Some (record { bytes = file; synced = true })) × IsFileOf text file
    × (get names (sim_names.cdb) ≢ get names (sim_names.tmp))

-- a directory has the text that stands, and those that stops leave
pub record HasTexts (d : Directory) (t : Texts) : Type 0 where
  pub standing : Shows (names_of d) d.files t.standing
  pub left : (choice : Choice) → Shows (after_changes d.names.settled (chosen_changes choice d.names.pending)) d.files (left_by choice t)

-- an installation under way is the one that was begun
pub record IsInstalling (d : Directory) (p : Progress) (b : BegunInstall) : Type 0 where
  pub reached : p.reached ≡ b.reached
  pub phase : (installing p.install).reached ≡ b.reached
  pub rules : (installing p.install).rules ≡ pairs_of b.text
  pub names : (installing p.install).names ≡ sim_names
  pub goes_on : (installing p.install).over ≡ false
  -- before it fills the scratch file, the pointers are not in place
  pub blank : position_reached b.reached < 2 → (installing p.install).patched ≡ false
  pub fits : Fits (installing p.install) d
  pub accepted : IsAccepted profile b.text

-- how many steps are left at most: one for each byte of the scratch file, for its pointers and for each phase
abbrev pub steps_left : Installing → ℕ
steps_left s = fillings_left s.rules s.filled s.patched + (5 - position_reached s.reached)

-- an installation that was begun goes on to a phase, or is at a later one; it tells the phase, which the texts follow
abbrev pub GoesOn : Phase → BegunInstall → Texts → Directory → Progress → Phase → Type 0
GoesOn target b t d now phase =
    (phase ≡ later_of b.reached target) × IsInstalling d now (begun_to target b)
    × HasTexts d (at_phases b.text b.reached target t)

-- an installation that was begun reaches its next phase and tells it
abbrev pub Steps : Installing → BegunInstall → Directory → Progress → Phase → Type 0
Steps before b d now phase =
    (phase ≡ next_phase before) × IsInstalling d now (record b { reached = Some phase })

abbrev pub MayBeInstalling : Directory → Option Progress → Option BegunInstall → Type 0
MayBeInstalling d None None = Unit {0}
MayBeInstalling d (Some p) (Some b) = IsInstalling d p b
MayBeInstalling d p b = ⊥

-- a file that was opened is of a reader's text, or there is no reader
abbrev pub Reads : Option (List ℕ) → Option (List ℕ) → Type 0
Reads None None = Unit {0}
Reads (Some file) (Some text) = IsFileOf text file
Reads file text = ⊥

-- what is kept is the state
pub record IsAt (kept : Simulation) (state : State) : Type 0 where
  pub pending : kept.pending.items ≡ state.pending
  pub name : kept.rules ≡ sim_names.cdb
  pub texts : HasTexts (mem_state kept.dir) state.texts
  pub begun : MayBeInstalling (mem_state kept.dir) kept.begun state.begun
  pub readers : (name : List ℕ) → Reads (get_by_text kept.readers name) (state.readers name)
  pub history : kept.history ≡ state.history
