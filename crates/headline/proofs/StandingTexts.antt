-- One accepted text stands under a name, whatever names a stop leaves.
use Rattle.std.proofs.Common.{◌≡◌, ◌≤◌, true, ℕ, zero, suc, List, [], ◌∷◌, ◌++◌, refl, sym, ◌∙◌, ap, subst}
use Rattle.std.specs.Prelude.{slice_get, Option, None, Some, option_and_then}
use Rattle.std.specs.Option.{option_map}
use Rattle.std.specs.FinMap.{get}
use Rattle.rule_lookup.specs.Pairs.{Rule}
use Rattle.dir_calls.specs.NameTable.{Names, NameTable, CanBeLeft, current, all_settled}
use Rattle.dir_calls.specs.Directory.{Directory, FileState, KeepsSynced, content, names_of, number_of}
use Rattle.dir_calls.specs.Images.{IsImage, MayHaveName}
use Rattle.dir_calls.specs.Calls.{Call}
use Rattle.dir_calls.specs.Outcomes.{Passes, Fails}
use Rattle.dir_calls.proofs.NameTables.{left_current, left_settled}
use Rattle.headline.specs.Worlds.{Accepted, BeginsWith, HoldsRules, IsAccepted, StandsAt, StandsFor, World}
use Rattle.headline.proofs.LeftNames.{EachLeft, PutsOnly, left_failed, left_now, left_within, within_keeps}

-- one accepted text, no older than a number, stands there
pub record IsText (accepted : Accepted) (least : ℕ) (files : List FileState) (number : Option ℕ) : Type 0 where
  pub position : ℕ
  pub text : Option (List Rule)
  pub accepted_as : slice_get accepted position ≡ Some text
  pub recent : least ≤ position
  pub stands : StandsAt files text number

-- the same under a name, whatever names a stop leaves
abbrev pub Lasts : Accepted → ℕ → List ℕ → Directory → Type 0
Lasts accepted least name d = EachLeft d.names name (IsText accepted least d.files)

-- ---- other files, and more texts

holds_stays : (files later : List FileState) (rules : List Rule) (number : ℕ) → KeepsSynced files later → HoldsRules files rules number → HoldsRules later rules number
holds_stays files later rules number keeps holds = record { file = holds.file; there = keeps.each number _ holds.there refl; compiled = holds.compiled }

stands_stays : (files later : List FileState) (text : Option (List Rule)) (number : Option ℕ) → KeepsSynced files later → StandsAt files text number → StandsAt later text number
stands_stays files later None number keeps stands = stands
stands_stays files later (Some rules) number keeps stands = (stands.0, stands.1, holds_stays files later rules stands.0 keeps stands.2)

pub text_stays : (accepted : Accepted) (least : ℕ) (files later : List FileState) (number : Option ℕ) → KeepsSynced files later → IsText accepted least files number → IsText accepted least later number
text_stays accepted least files later number keeps is = record {
  position = is.position;
  text = is.text;
  accepted_as = is.accepted_as;
  recent = is.recent;
  stands = stands_stays files later is.text number keeps is.stands;
}

-- a text of a list has its position in a longer one
pub accepted-push : (accepted : Accepted) (new text : Option (List Rule)) (position : ℕ) → slice_get accepted position ≡ Some text → slice_get (accepted ++ new ∷ []) position ≡ Some text
accepted-push [] new text position is = absurd (cc)
accepted-push (t ∷ accepted) new text zero is = is
accepted-push (t ∷ accepted) new text (suc position) is = accepted-push accepted new text position is

pub text_more : (accepted : Accepted) (least : ℕ) (new : Option (List Rule)) (files : List FileState) (number : Option ℕ) → IsText accepted least files number → IsText (accepted ++ new ∷ []) least files number
text_more accepted least new files number is = record {
  position = is.position;
  text = is.text;
  accepted_as = accepted-push accepted new is.text is.position is.accepted_as;
  recent = is.recent;
  stands = is.stands;
}

pub lasts_more : (accepted : Accepted) (least : ℕ) (new : Option (List Rule)) (name : List ℕ) (d : Directory) → Lasts accepted least name d → Lasts (accepted ++ new ∷ []) least name d
lasts_more accepted least new name d lasts names left = text_more accepted least new d.files _ (lasts names left)

-- ---- while calls are made

module _ (accepted : Accepted) (least : ℕ) (name : List ℕ) (d : Directory) (lasts : Lasts accepted least name d) where
  pub lasts_within : (call : Call) (state : Directory) → PutsOnly call d name (IsText accepted least d.files) → Passes call d state → Lasts accepted least name state
  lasts_within call state puts passes names left =
      text_stays accepted least d.files state.files _ (within_keeps call d state passes)
      (left_within d name (IsText accepted least d.files) lasts call state puts passes names left)

  pub lasts_failed : (call : Call) (e : Directory) → PutsOnly call d name (IsText accepted least d.files) → Fails call d e → Lasts accepted least name e
  lasts_failed call e puts fails names left =
      text_stays accepted least d.files e.files _ fails.files
      (left_failed d e name (IsText accepted least d.files) call lasts puts fails names left)

-- ---- where no change of names is pending

-- what a stop leaves is what is there now
pub left_settled_names : (table : NameTable) → table.pending ≡ [] → (names : Names) → CanBeLeft table names → names ≡ current table
left_settled_names table none names left =
    left_settled table names (subst (λ (t : NameTable). CanBeLeft t names) same left)
  where
    same : table ≡ all_settled table
    same i = record { settled = ap (λ changes. current (record { settled = table.settled; pending = changes })) (sym none) i; pending = none i }

-- so it lasts
pub lasts_settled : (accepted : Accepted) (least : ℕ) (name : List ℕ) (d : Directory) → d.names.pending ≡ [] → IsText accepted least d.files (number_of d name) → Lasts accepted least name d
lasts_settled accepted least name d none is names left =
    subst (λ (m : Names). IsText accepted least d.files (get m name)) (sym (left_settled_names d.names none names left)) is

-- one text stands there, which a directory begins with then
pub begins_alone : (name : List ℕ) (d : Directory) (text : Option (List Rule)) → d.names.pending ≡ [] → StandsAt d.files text (number_of d name) → BeginsWith d name (text ∷ [])
begins_alone name d text none stands = record { each = each; only = only }
  where
    each : (names : Names) → CanBeLeft d.names names → (number : ℕ) × (t : Option (List Rule)) × (slice_get (text ∷ []) number ≡ Some t) × StandsAt d.files t (get names name)
    each names left = (0, text, refl, subst (λ (m : Names). StandsAt d.files text (get m name)) (sym (left_settled_names d.names none names left)) stands)

    only : (number : ℕ) (t : Option (List Rule)) → slice_get (text ∷ []) number ≡ Some t → (names : Names) × CanBeLeft d.names names × StandsAt d.files t (get names name)
    only zero t is = let same : text ≡ t = cc in (names_of d, left_current d.names, subst (λ (u : Option (List Rule)). StandsAt d.files u (number_of d name)) same stands)
    only (suc number) t is = absurd (cc)

-- ---- after a stop

-- what is left of a synced file that may have a name is the same file
image_keeps : (d image : Directory) (number : ℕ) (file : FileState) → IsImage d image → MayHaveName d.names number → slice_get d.files number ≡ Some file → file.synced ≡ true → slice_get image.files number ≡ Some file
image_keeps d image number file is named there synced =
    let left = is.files number file there in
    let same : left.0 ≡ file = λ i. record { bytes = left.2.bytes named synced i; synced = (left.2.synced ∙ sym synced) i } in
    left.1 ∙ ap Some same

-- so the text that stood under a name is left there
image_stands : (d image : Directory) (name : List ℕ) (names : Names) (text : Option (List Rule)) → IsImage d image → CanBeLeft d.names names → StandsAt d.files text (get names name) → StandsAt image.files text (get names name)
image_stands d image name names None is can stands = stands
image_stands d image name names (Some rules) is can stands =
    let named : MayHaveName d.names stands.0 = record { name = name; names = names; left = can; stands = stands.1 } in
    (stands.0, stands.1, record { file = stands.2.file; there = image_keeps d image stands.0 _ is named stands.2.there refl; compiled = stands.2.compiled })

image_text : (accepted : Accepted) (least : ℕ) (d image : Directory) (name : List ℕ) (names : Names) → IsImage d image → CanBeLeft d.names names → IsText accepted least d.files (get names name) → IsText accepted least image.files (get names name)
image_text accepted least d image name names is can text = record {
  position = text.position;
  text = text.text;
  accepted_as = text.accepted_as;
  recent = text.recent;
  stands = image_stands d image name names text.text is can text.stands;
}

pub image_lasts : (accepted : Accepted) (least : ℕ) (name : List ℕ) (d image : Directory) → Lasts accepted least name d → IsImage d image → Lasts accepted least name image
image_lasts accepted least name d image lasts is =
    let left = is.names.each name in
    lasts_settled accepted least name image is.none_pending
    (subst (IsText accepted least image.files) (sym left.2) (image_text accepted least d image name left.0 is left.1 (lasts left.0 left.1)))

-- ---- what a reader finds

pub content_stands : (files : List FileState) (text : Option (List Rule)) (number : Option ℕ) → StandsAt files text number → StandsFor text (option_map (λ (file : FileState). file.bytes) (option_and_then (λ n. slice_get files n) number))
content_stands files None number stands = ap (λ (o : Option ℕ). option_map (λ (file : FileState). file.bytes) (option_and_then (λ n. slice_get files n) o)) stands
content_stands files (Some rules) number stands = (
  stands.2.file,
  ap (λ (o : Option ℕ). option_map (λ (file : FileState). file.bytes) (option_and_then (λ n. slice_get files n) o)) stands.1
      ∙ ap (option_map (λ (file : FileState). file.bytes)) stands.2.there,
  stands.2.compiled,
)

-- under the name stands one whole accepted text
pub lasts_accepted : (w : World) (name : List ℕ) (d : Directory) → Lasts w.accepted w.acknowledged name d → IsAccepted w (content d name)
lasts_accepted w name d lasts =
    let is = left_now d.names name (IsText w.accepted w.acknowledged d.files) lasts in
    record { number = is.position; text = is.text; accepted = is.accepted_as; recent = is.recent; stands = content_stands d.files is.text (number_of d name) is.stands }

-- where nothing is found there is no file
nothing_stands : (files : List FileState) (text : Option (List Rule)) (number : Option ℕ) → StandsAt files text number → option_map (λ (file : FileState). file.bytes) (option_and_then (λ n. slice_get files n) number) ≡ None → number ≡ None
nothing_stands files None number stands nothing = stands
nothing_stands files (Some rules) number stands nothing =
    let found = (content_stands files (Some rules) number stands).1 in
    absurd (cc)

-- and the name is missing
pub lasts_missing : (accepted : Accepted) (least : ℕ) (name : List ℕ) (d : Directory) → Lasts accepted least name d → content d name ≡ None → number_of d name ≡ None
lasts_missing accepted least name d lasts nothing =
    let is = left_now d.names name (IsText accepted least d.files) lasts in
    nothing_stands d.files is.text (number_of d name) is.stands nothing
