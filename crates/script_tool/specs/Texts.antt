-- The text that stands under the name of the rules file, what stops leave of it, and what the phases of an installation do to both.
use Rattle.std.specs.Prelude.{ℕ, ◌+◌, ◌-◌, ◌&&◌, nat_lt, List, [], ◌∷◌, ◌++◌, length, take, filter, Option, Some, None, if◌then◌else◌}
use Rattle.std.specs.List.{fold}
use Rattle.dir_calls.specs.declared.choice.Choice.{Choice}
use Rattle.dir_calls.specs.declared.choice.Choice.TheVariants.{Kept, Empty, Junk}
use Rattle.dir_calls.specs.declared.phase.Phase.{Phase}
use Rattle.dir_calls.specs.declared.phase.Phase.TheVariants.{Fresh, Filling, Synced, Named, Done}

-- a change of names: the text that it puts in place; none if it changes no text
abbrev pub Change : Type 0
Change = Option (List ℕ)

pub record Texts : Type 0 where
  -- the text that stands now, if one does
  pub standing : Option (List ℕ)
  -- the one that stood when all changes had last become lasting, and the changes since then
  pub settled : Option (List ℕ)
  pub changes : List Change

abbrev pub no_texts : Texts
no_texts = record { standing = None; settled = None; changes = [] }

-- one change more
abbrev pub changed : Change → Texts → Texts
changed change t = record t { changes = t.changes ++ change ∷ [] }

-- the texts after a phase of the installation of this one
abbrev pub at_phase : List ℕ → Texts → Phase → Texts
at_phase text t Fresh = changed None t
at_phase text t Filling = t
at_phase text t Synced = t
at_phase text t Named = record { standing = Some text; settled = t.settled; changes = t.changes ++ Some text ∷ [] }
at_phase text t Done = record { standing = t.standing; settled = t.standing; changes = [] }

-- the phases in their order, and the position of each
abbrev pub phases : List Phase
phases = Fresh ∷ Filling ∷ Synced ∷ Named ∷ Done ∷ []

abbrev pub position_of : Phase → ℕ
position_of Fresh = 1
position_of Filling = 2
position_of Synced = 3
position_of Named = 4
position_of Done = 5

abbrev pub position_reached : Option Phase → ℕ
position_reached None = 0
position_reached (Some phase) = position_of phase

-- the phases after the one that was reached, up to another
abbrev pub phases_to : Option Phase → Phase → List Phase
phases_to reached target =
    filter (λ phase. nat_lt (position_reached reached) (position_of phase) && nat_lt (position_of phase) (position_of target + 1)) phases

-- the texts after the phases up to one
abbrev pub at_phases : List ℕ → Option Phase → Phase → Texts → Texts
at_phases text reached target t = fold (at_phase text) t (phases_to reached target)

-- the phase reached then; one that is passed already stays
abbrev pub later_of : Option Phase → Phase → Phase
later_of None target = target
later_of (Some reached) target = if nat_lt (position_of reached) (position_of target) then target else reached

-- the changes that a stop takes, by its choice
abbrev pub taken : Choice → List Change → List Change
taken Kept changes = changes
taken Junk changes = take (length changes - 1) changes
taken Empty changes = []

-- the text that stands after a change
abbrev pub after_change : Option (List ℕ) → Change → Option (List ℕ)
after_change text None = text
after_change text (Some new) = Some new

-- the text that a stop leaves, by its choice
abbrev pub left_by : Choice → Texts → Option (List ℕ)
left_by choice t = fold after_change t.settled (taken choice t.changes)

-- the texts after a stop
abbrev pub stopped : Choice → Texts → Texts
stopped choice t = record { standing = left_by choice t; settled = left_by choice t; changes = [] }
