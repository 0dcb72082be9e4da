-- Whole installations, as steps of a world that has a rules name.
use Rattle.std.proofs.Common.{◌≡◌, ◌≢◌, inl, inr, true, false, ℕ, List, [], ◌∷◌, ◌++◌, length, refl, ◌∙◌, ap}
use Rattle.std.specs.Prelude.{slice_get, Option, None, Some, max, Ok, option_and_then}
use Rattle.std.specs.Option.{option_map}
use Rattle.cdb_files.specs.Compiled.{stored}
use Rattle.cdb_files.specs.Reading.{reading}
use Rattle.cdb_files.proofs.AnyKey.{reading_is}
use Rattle.cdb_files.proofs.StoredRules.{first_value-stored}
use Rattle.dir_calls.specs.Directory.{Directory, FileState, content, number_of}
use Rattle.dir_calls.specs.Calls.{makes, appends, syncs, renames, settles, after}
use Rattle.dir_calls.specs.Images.{IsImage}
use Rattle.dir_calls.specs.Lasting.{StandsFor}
use Rattle.dir_calls.specs.Replacing.{HasSynced}
use Rattle.dir_calls.proofs.Lasting.{image_has, settled_lasts}
use Rattle.dir_calls.proofs.Renames.{moved_file}
use Rattle.dir_calls.proofs.Scratches.{written}
use Rattle.dir_calls.proofs.Scratches.{appended_is}
use Rattle.rule_lookup.specs.Pairs.{Rule}
use Rattle.rule_lines.proofs.KnownLemmas.{AreRules-of_text}
use Rattle.rule_lookup.specs.Decisions.{decision_by, decision_in}
use Rattle.rule_lookup.specs.Peers.{Client}
use Rattle.rule_lookup.proofs.ListedLemmas.{decision_by-listed}
use Rattle.dir_calls.specs.declared.phase.Phase.{Phase}
use Rattle.dir_calls.specs.declared.phase.Phase.TheVariants.{Fresh, Filling, Synced, Named, Done}
use Rattle.server_events.specs.declared.event.Event.{Event}
use Rattle.server_events.specs.declared.event.Event.TheVariants.{Stepped}
use Rattle.server_events.specs.ServerState.{ServerState, phase_after}
use Rattle.headline.specs.Steps.{Legal, Step, none, more, beside}
use Rattle.headline.specs.Worlds.{Accepted, IsOf, KeptFile, RulesName, UnderWay, World}
use Rattle.server_events.proofs.Effects.{is_step}

-- one list of steps after another
pub legal_then : {u v w : World} {first second : List Event} → Legal u first v → Legal v second w → Legal u (first ++ second) w
legal_then none rest = rest
legal_then (more step steps) rest = more step (legal_then steps rest)
legal_then (beside out steps) rest = beside out (legal_then steps rest)

-- a world with a rules name
abbrev pub world_at : RulesName → Directory → ServerState → Accepted → ℕ → Option UnderWay → List KeptFile → World
world_at r d server accepted least under_way kept =
    record { directory = d; rules = Some r; server = server; accepted = accepted; acknowledged = least; under_way = under_way; kept = kept }

-- the server after a step of an installation
abbrev pub in_phase : ServerState → Phase → ServerState
in_phase server phase = record server { phase = phase_after phase }

-- the installation of a text that is accepted next
abbrev pub next_text : List Rule → Accepted → List ℕ → UnderWay
next_text rules accepted tmp = record { rules = rules; number = length accepted; tmp = tmp }

-- the directory once a file was made and filled, and was synced, and has its name
abbrev pub filled_dir : List ℕ → List ℕ → Directory → Directory
filled_dir tmp file d = after (appends file) (after (makes tmp) d)

abbrev pub synced_dir : List ℕ → List ℕ → Directory → Directory
synced_dir tmp file d = after syncs (filled_dir tmp file d)

abbrev pub named_dir : List ℕ → List ℕ → List ℕ → Directory → Directory
named_dir tmp name file d = after (renames tmp name) (synced_dir tmp file d)

module _ (r : RulesName) (tmp : List ℕ) (other : tmp ≢ r.name) where
  -- a text is installed as far as its name
  pub installs : (rules : List Rule) (file : List ℕ) → IsOf rules file → (d : Directory) (server : ServerState) (accepted : Accepted) (least : ℕ) (under_way : Option UnderWay) (kept : List KeptFile)
      → Legal (world_at r d server accepted least under_way kept) (Stepped Fresh ∷ Stepped Filling ∷ Stepped Synced ∷ Stepped Named ∷ [])
      (world_at r (named_dir tmp r.name file d) (in_phase server Named) (accepted ++ Some rules ∷ []) least (Some (next_text rules accepted tmp)) kept)
  installs rules file is d server accepted least under_way kept =
      let u : UnderWay = next_text rules accepted tmp in
      let texts : Accepted = accepted ++ Some rules ∷ [] in
      let before : World = world_at r d server accepted least under_way kept in
      let with_file : World = world_at r (after (makes tmp) d) (in_phase server Fresh) texts least (Some u) kept in
      let with_bytes : World = world_at r (filled_dir tmp file d) (in_phase server Filling) texts least (Some u) kept in
      let with_synced : World = world_at r (synced_dir tmp file d) (in_phase server Synced) texts least (Some u) kept in
      let with_name : World = world_at r (named_dir tmp r.name file d) (in_phase server Named) texts least (Some u) kept in
      let whole : FileState = record { bytes = file; synced = false } in
      let makes_it : Step before (Stepped Fresh) with_file = record { table = is_step server (Stepped Fresh) refl; moves = (rules, tmp, makes tmp, is.of_text, other, inl refl, refl) } in
      let fills_it : Step with_file (Stepped Filling) with_bytes = record { table = is_step (in_phase server Fresh) (Stepped Filling) refl; moves = (appends file, inl (file, refl), refl) } in
      let syncs_it : Step with_bytes (Stepped Synced) with_synced = record { table = is_step (in_phase server Filling) (Stepped Synced) refl; moves = (u, refl, refl, (whole, appended_is d tmp file, is), refl) } in
      let names_it : Step with_synced (Stepped Named) with_name = record { table = is_step (in_phase server Synced) (Stepped Named) refl; moves = (u, r, refl, refl, refl) } in
      more makes_it (more fills_it (more syncs_it (more names_it none)))

  -- and the rest of the way
  pub finishes : (d : Directory) (server : ServerState) (accepted : Accepted) (least : ℕ) (u : UnderWay) (kept : List KeptFile)
      → Legal (world_at r d (in_phase server Named) accepted least (Some u) kept) (Stepped Done ∷ []) (world_at r (after settles d) (in_phase server Done) accepted (max least u.number) None kept)
  finishes d server accepted least u kept =
      let before : World = world_at r d (in_phase server Named) accepted least (Some u) kept in
      let settled : World = world_at r (after settles d) (in_phase server Done) accepted (max least u.number) None kept in
      let settles_it : Step before (Stepped Done) settled = record { table = is_step (in_phase server Named) (Stepped Done) refl; moves = (u, refl, refl, refl) } in
      more settles_it none

-- ---- what stands under the name then

-- a synced file that is moved onto a name stands there
pub moved_synced : (from to bytes : List ℕ) (d : Directory) → HasSynced from bytes d → HasSynced to bytes (after (renames from to) d)
moved_synced from to bytes d has = by (number_of d from) refl has
  where
    by : (number : Option ℕ) → number_of d from ≡ number → option_and_then (λ n. slice_get d.files n) number ≡ Some (record { bytes = bytes; synced = true }) → HasSynced to bytes (after (renames from to) d)
    by None is there = absurd (cc)
    by (Some n) is there = moved_file d from to n is ∙ there

pub named_synced : (tmp name file : List ℕ) (d : Directory) → HasSynced name file (named_dir tmp name file d)
named_synced tmp name file d = moved_synced tmp name file (synced_dir tmp file d) (written d tmp file)

pub content_synced : (name bytes : List ℕ) (d : Directory) → HasSynced name bytes d → content d name ≡ Some bytes
content_synced name bytes d has = ap (option_map (λ (file : FileState). file.bytes)) has

-- a stop after the names were settled leaves it there
pub content_left : (name bytes : List ℕ) (d image : Directory) → HasSynced name bytes d → IsImage (after settles d) image → content image name ≡ Some bytes
content_left name bytes d image has is =
    elim (image_has (after settles d) image name (Some bytes ∷ []) (settled_lasts d name (Some bytes ∷ []) (by (number_of d name) has)) is) [
      | inl here ↦ here
      | inr never ↦ absurd never
    ]
  where
    by : (number : Option ℕ) → option_and_then (λ n. slice_get d.files n) number ≡ Some (record { bytes = bytes; synced = true }) → StandsFor d.files (Some bytes ∷ []) number
    by None there = absurd (cc)
    by (Some n) there = (bytes, inl refl, there)

-- ---- what a compiled file decides

pub decided_by_file : (rules : List Rule) (file : List ℕ) (peer : Client) → IsOf rules file → decision_by (reading file) peer ≡ Ok (decision_in rules peer)
decided_by_file rules file peer is =
    ap (λ finds. decision_by finds peer) (λ i address. (reading_is file (stored rules) is.compiled address ∙ first_value-stored rules address) i)
    ∙ decision_by-listed rules peer (AreRules-of_text rules is.of_text)
