-- What contracts say of a whole yard.
use Rattle.std.specs.Prelude.{◌≡◌, ◌<◌, ◌-◌, ◌^◌, ◌==◌, ◌⊎◌, ℕ, List, [], Option, None, Some, false, option_map, if◌then◌else◌}
use Rattle.dir_calls.specs.Directory.{Directory}
use Rattle.dir_calls.specs.Images.{IsImage}
use Rattle.dir_calls.specs.declared.dir.Dir as dir
use Rattle.dir_calls.specs.declared.rules_file.RulesFile as file
use Rattle.rule_lookup.specs.Pairs.{Rule}
use Rattle.rules_install.specs.Installing.{Installing}
use Rattle.server_events.specs.JournalParts.{books_of_journal}
use Rattle.server_events.specs.Journals.{Books}
use Rattle.server_events.specs.ServerState.{ServerState, start}
use Rattle.headline.specs.Steps.{MayLeave}
use Rattle.headline.specs.Worlds.{KeptFile, RulesName, World}
use Rattle.server_events.specs.declared.journal.Journal.{Journal}
use Rattle.server_events.specs.declared.journal.Noted.{Noted}
use Rattle.server_yard.specs.Rolls.{Roll}
use Rattle.server_yard.specs.Yards.{yard_books, yard_journal, yard_roll, yard_seat, yard_server}
use Rattle.server_yard.specs.declared.places.Places as places
use Rattle.server_yard.specs.declared.yard.Yard.{Yard}
use Rattle.whole_yard.specs.Kept.{installing_of, is_kept, lists_of, rules_of, state_of}
use Rattle.whole_yard.specs.Standing.{Matches, YardState}
use Rattle.whole_yard.specs.declared.assumptions.Assumptions as assumptions
use Rattle.whole_yard.specs.declared.yard.WholeYard.{WholeYard}

-- the rules name
abbrev pub name_of : Option RulesName → Option (List ℕ)
name_of rules = option_map (λ r. r.name) rules

-- a yard with this ledger, this directory and these files, and what their traits tell of them
module _ {L D F : Type 0} {p : assumptions.Ghosts L} {l : places.Ghosts L} {d : dir.Ghosts D F} {f : file.Ghosts F} where
  -- what a yard has of a world
  abbrev pub whole_state : WholeYard L D F p l d f → YardState
  whole_state y = state_of (yard_server y.yard) (d.state y.dir) y.rules y.installation

  -- what its events change
  abbrev pub whole_roll : WholeYard L D F p l d f → Roll
  whole_roll y = yard_roll y.yard

  -- its connections
  abbrev pub whole_connections : WholeYard L D F p l d f → Yard L l
  whole_connections y = y.yard

  -- what its journal tells, and the state that the events led to
  abbrev pub whole_books : WholeYard L D F p l d f → Books
  whole_books y = yard_books y.yard

  abbrev pub whole_server : WholeYard L D F p l d f → ServerState
  whole_server y = yard_server y.yard

  -- the rules of the installations that made their first step, in order; if its journal stores events
  abbrev pub whole_lists : WholeYard L D F p l d f → Option (List (List Rule))
  whole_lists y = lists_of y.lists

  -- the serial that the place of an index was last given to
  abbrev pub whole_seat : WholeYard L D F p l d f → ℕ → Option ℕ
  whole_seat y index = yard_seat y.yard index

  -- its directory
  abbrev pub whole_directory : WholeYard L D F p l d f → D
  whole_directory y = y.dir

  -- its rules name, with what is decided if no file stands there
  abbrev pub whole_rules : WholeYard L D F p l d f → Option RulesName
  whole_rules y = rules_of y.rules

  -- the number of the last installation, and that of the one that is kept: under way, or done
  abbrev pub last_begun : WholeYard L D F p l d f → ℕ
  last_begun y = y.begun

  abbrev pub kept_number : WholeYard L D F p l d f → Option ℕ
  kept_number y = if is_kept y.installation then Some y.begun else None

  abbrev pub whole_installing : WholeYard L D F p l d f → Option Installing
  whole_installing y = installing_of y.installation

  -- A stop at any moment since left what a stop may leave of a world that was the yard's before the call, or an image
  -- of the directory after it.
  abbrev pub LeavesNothingElse : (old new : WholeYard L D F p l d f) → Type 0
  LeavesNothingElse old new =
      (files : List KeptFile) (w : World) (image : Directory) → Matches (whole_state old) files w
      → d.left_since (whole_directory new) (d.moment (whole_directory old)) image → MayLeave w image ⊎ IsImage (whole_state new).directory image

  -- a yard is as before, but for what its events change and where they are noted
  pub record IsSameBesides (old new : WholeYard L D F p l d f) : Type 0 where
    pub directory : whole_directory new ≡ whole_directory old
    pub rules : whole_rules new ≡ whole_rules old
    pub installing : whole_installing new ≡ whole_installing old
    pub kept : kept_number new ≡ kept_number old
    pub begun : last_begun new ≡ last_begun old
    pub lists_same : whole_lists new ≡ whole_lists old

  -- an installation may begin: none of its steps was made, it is for the rules name, and a number is left
  pub record MayBegin (y : WholeYard L D F p l d f) (s : Installing) : Type 0 where
    pub unbegun : s.reached ≡ None
    pub is_open : s.over ≡ false
    pub for_rules : name_of (whole_rules y) ≡ Some s.names.cdb
    pub numbers_left : last_begun y < 2 ^ 64 - 1

  -- a yard that was just made of these
  pub record IsMadeWhole (directory : D) (rules : Option RulesName) (limit per_address : ℕ) (journal : Journal) (y : WholeYard L D F p l d f) : Type 0 where
    pub has_limit : 0 < limit
    pub empty : whole_server y ≡ start limit per_address
    pub has_journal : yard_journal y.yard ≡ journal
    pub nobody_speaks : (whole_roll y).speaker ≡ 0
    pub has_directory : whole_directory y ≡ directory
    pub has_rules : whole_rules y ≡ rules
    pub idle : whole_installing y ≡ None
    pub none_kept : kept_number y ≡ None
    pub none_begun : last_begun y ≡ 0
    pub no_rules : whole_lists y ≡ option_map (λ (notes : List Noted). []) (books_of_journal journal).notes

  -- a yard is as before, but for what its events change and its directory
  pub record IsSameButDirectory (old new : WholeYard L D F p l d f) : Type 0 where
    pub rules : whole_rules new ≡ whole_rules old
    pub installing : whole_installing new ≡ whole_installing old
    pub kept : kept_number new ≡ kept_number old
    pub begun : last_begun new ≡ last_begun old
    pub lists_same : whole_lists new ≡ whole_lists old

  -- the installation that is under way with this number
  abbrev pub kept_under : WholeYard L D F p l d f → ℕ → Option Installing
  kept_under y number = if y.begun == number then whole_installing y else None
