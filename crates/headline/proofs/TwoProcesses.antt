-- The history of two processes happens.
use Rattle.std.proofs.Common.{◌≡◌, ◌≢◌, inl, inr, true, false, ℕ, List, [], ◌∷◌, ◌++◌, refl, sym, ◌∙◌, ap, subst}
use Rattle.std.specs.Prelude.{Option, None, Some, is_some}
use Rattle.std.specs.Cmp.Lexicographic.{slice_cmp}
use Rattle.std.specs.FinMap.{get-empty}
use Rattle.std.specs.Ordering.{nat_cmp}
use Rattle.dir_calls.specs.Directory.{Directory, FileState, content}
use Rattle.dir_calls.specs.Calls.{Call, makes, appends, renames, settles, after}
use Rattle.dir_calls.specs.Outcomes.{Fails}
use Rattle.dir_calls.proofs.Lasting.{after_keeps}
use Rattle.rule_lookup.specs.declared.instr.Verdict.TheVariants.{Allow, Deny}
use Rattle.dir_calls.specs.declared.phase.Phase.TheVariants.{Fresh, Filling, Synced, Named}
use Rattle.server_events.specs.declared.event.Event.TheVariants.{Admitted, Opened, Decided, Stepped, StepFailed}
use Rattle.server_events.specs.ServerState.{ServerState, start, after as after_event}
use Rattle.headline.specs.Steps.{Legal, Outside, Step, none, more}
use Rattle.headline.specs.Taken.{IsOthers, with_others}
use Rattle.headline.specs.Witness.{WovenAround, behind_the_kill, for_everybody, somebody, texts_of_both, until_the_kill}
use Rattle.headline.specs.Worlds.{IsOf, IsStart, KeptFile, RulesName, UnderWay, World}
use Rattle.headline.proofs.Everybody.{for_allow, for_deny}
use Rattle.headline.proofs.InstalledRuns.{content_synced, filled_dir, finishes, in_phase, installs, legal_then, named_dir, named_synced, next_text, synced_dir, world_at}
use Rattle.headline.proofs.Others.{made_others, standing_on}
use Rattle.headline.proofs.StandingTexts.{begins_alone}
use Rattle.server_events.proofs.Effects.{is_step}
use Rattle.headline.proofs.TwoTexts.{decides_kept, decides_somebody, everybody, no_files, other_name, texts_0, texts_1, the_rules, the_scratch}
use Rattle.headline.proofs.WovenSteps.{its_parts}
use Rattle.dir_calls.proofs.Scratches.{appended_is}

-- ---- the states of the server, and what others make

abbrev at_start : ServerState
at_start = start 2 2

abbrev admitted_1 : ServerState
admitted_1 = after_event at_start (Admitted 1 somebody)

abbrev opened_1 : ServerState
opened_1 = after_event admitted_1 (Opened 1 true)

abbrev killed : ServerState
killed = after_event (in_phase opened_1 Synced) (StepFailed Named)

abbrev decided_1 : ServerState
decided_1 = after_event killed (Decided 1 (everybody Deny))

abbrev admitted_2 : ServerState
admitted_2 = after_event decided_1 (Admitted 2 somebody)

abbrev opened_2 : ServerState
opened_2 = after_event admitted_2 (Opened 2 true)

abbrev decided_2 : ServerState
decided_2 = after_event opened_2 (Decided 2 (everybody Allow))

abbrev name_of_others : List ℕ
name_of_others = 99 ∷ 98 ∷ []

abbrev file_of_others : FileState
file_of_others = record { bytes = []; synced = false }

abbrev the_next : UnderWay
the_next = next_text (for_everybody Allow) texts_1 the_scratch

-- a world of this history, once the first text is acknowledged
abbrev world : Directory → ServerState → List KeptFile → World
world d server kept = world_at the_rules d server texts_of_both 1 None kept

not_the_rules : (r : RulesName) → Some the_rules ≡ Some r → r.name ≢ name_of_others
not_the_rules r is same = cc

-- ---- the killed installer

-- it makes its scratch file, fills and syncs it
prepares : (file : List ℕ) → IsOf (for_everybody Allow) file → (d : Directory) (kept : List KeptFile)
    → Legal (world_at the_rules d opened_1 texts_1 1 None kept) (Stepped Fresh ∷ Stepped Filling ∷ Stepped Synced ∷ [])
    (world_at the_rules (synced_dir the_scratch file d) (in_phase opened_1 Synced) texts_of_both 1 (Some the_next) kept)
prepares file is d kept =
    let before : World = world_at the_rules d opened_1 texts_1 1 None kept in
    let with_file : World = world_at the_rules (after (makes the_scratch) d) (in_phase opened_1 Fresh) texts_of_both 1 (Some the_next) kept in
    let with_bytes : World = world_at the_rules (filled_dir the_scratch file d) (in_phase opened_1 Filling) texts_of_both 1 (Some the_next) kept in
    let with_synced : World = world_at the_rules (synced_dir the_scratch file d) (in_phase opened_1 Synced) texts_of_both 1 (Some the_next) kept in
    let whole : FileState = record { bytes = file; synced = false } in
    let makes_it : Step before (Stepped Fresh) with_file = record {
      table = is_step opened_1 (Stepped Fresh) refl;
      moves = (for_everybody Allow, the_scratch, makes the_scratch, is.of_text, other_name, inl refl, refl);
    } in
    let fills_it : Step with_file (Stepped Filling) with_bytes = record { table = is_step (in_phase opened_1 Fresh) (Stepped Filling) refl; moves = (appends file, inl (file, refl), refl) } in
    let syncs_it : Step with_bytes (Stepped Synced) with_synced = record {
      table = is_step (in_phase opened_1 Filling) (Stepped Synced) refl;
      moves = (the_next, refl, refl, (whole, appended_is d the_scratch file, is), refl);
    } in
    more makes_it (more fills_it (more syncs_it none))

-- a rename may fail once it has moved the name
fails_moved : (call : Call) (d : Directory) → call ≡ renames the_scratch the_rules.name → Fails call d (after call d)
fails_moved call d is = subst (λ (k : Call). Fails k d (after k d)) (sym is) (record {
  names = (after (renames the_scratch the_rules.name) d, inr refl, refl);
  files = after_keeps (renames the_scratch the_rules.name) d;
})

-- it is killed within its rename, which has moved the name
is_killed : (file : List ℕ) (d : Directory) (kept : List KeptFile)
    → Legal (world_at the_rules (synced_dir the_scratch file d) (in_phase opened_1 Synced) texts_of_both 1 (Some the_next) kept) (StepFailed Named ∷ [])
    (world (named_dir the_scratch the_rules.name file d) killed kept)
is_killed file d kept =
    let call : Call = renames the_scratch the_rules.name in
    let before : World = world_at the_rules (synced_dir the_scratch file d) (in_phase opened_1 Synced) texts_of_both 1 (Some the_next) kept in
    let left : World = world (named_dir the_scratch the_rules.name file d) killed kept in
    let kills : Step before (StepFailed Named) left = record {
      table = is_step (in_phase opened_1 Synced) (StepFailed Named) refl;
      moves = (call, refl, fails_moved call (synced_dir the_scratch file d) refl, refl);
    } in
    more kills none

-- ---- the connections

-- the first one is let in, and opens the text that denies
opens_first : (d : Directory) (file : List ℕ) → content d the_rules.name ≡ Some file
    → Legal (world_at the_rules d at_start texts_1 1 None []) (Admitted 1 somebody ∷ Opened 1 true ∷ [])
    (world_at the_rules d opened_1 texts_1 1 None (record { serial = 1; bytes = content d the_rules.name } ∷ []))
opens_first d file there =
    let begins : World = world_at the_rules d at_start texts_1 1 None [] in
    let is_in : World = world_at the_rules d admitted_1 texts_1 1 None [] in
    let has_opened : World = world_at the_rules d opened_1 texts_1 1 None (record { serial = 1; bytes = content d the_rules.name } ∷ []) in
    let admits : Step begins (Admitted 1 somebody) is_in = record { table = is_step at_start (Admitted 1 somebody) refl; moves = refl } in
    let opens : Step is_in (Opened 1 true) has_opened = record { table = is_step admitted_1 (Opened 1 true) refl; moves = (ap (λ (o : Option (List ℕ)). is_some o) (sym there), refl) } in
    more admits (more opens none)

-- it is decided by the bytes that it keeps, and the second one by what stands now
decides_both : (d : Directory) (older : Option (List ℕ)) (deny allow : List ℕ) → IsOf (for_everybody Deny) deny → IsOf (for_everybody Allow) allow → older ≡ Some deny → content d the_rules.name ≡ Some allow
    → Legal (world d killed (record { serial = 1; bytes = older } ∷ [])) behind_the_kill
    (world d decided_2 (record { serial = 1; bytes = older } ∷ record { serial = 2; bytes = content d the_rules.name } ∷ []))
decides_both d older deny allow is_deny is_allow kept there =
    let first : List KeptFile = record { serial = 1; bytes = older } ∷ [] in
    let both : List KeptFile = record { serial = 1; bytes = older } ∷ record { serial = 2; bytes = content d the_rules.name } ∷ [] in
    let begins : World = world d killed first in
    let is_denied : World = world d decided_1 first in
    let is_in : World = world d admitted_2 first in
    let has_opened : World = world d opened_2 both in
    let is_allowed : World = world d decided_2 both in
    let denies : Step begins (Decided 1 (everybody Deny)) is_denied = record {
      table = is_step killed (Decided 1 (everybody Deny)) refl;
      moves = (older, somebody, refl, refl, decides_kept (for_everybody Deny) deny older (everybody Deny) is_deny kept (decides_somebody Deny), refl);
    } in
    let admits : Step is_denied (Admitted 2 somebody) is_in = record { table = is_step decided_1 (Admitted 2 somebody) refl; moves = refl } in
    let opens : Step is_in (Opened 2 true) has_opened = record { table = is_step admitted_2 (Opened 2 true) refl; moves = (ap (λ (o : Option (List ℕ)). is_some o) (sym there), refl) } in
    let allows : Step has_opened (Decided 2 (everybody Allow)) is_allowed = record {
      table = is_step opened_2 (Decided 2 (everybody Allow)) refl;
      moves = (content d the_rules.name, somebody, refl, refl, decides_kept (for_everybody Allow) allow (content d the_rules.name) (everybody Allow) is_allow there (decides_somebody Allow), refl);
    } in
    more denies (more admits (more opens (more allows none)))

-- ---- the whole history

abbrev first_world : World
first_world = world_at the_rules no_files at_start texts_0 0 None []

first_starts : IsStart first_world
first_starts = record {
  begins = begins_alone the_rules.name no_files None refl (get-empty (slice_cmp nat_cmp) the_rules.name);
  server = refl;
  acknowledged = refl;
  under_way = refl;
  kept = refl;
}

module _ (deny allow : List ℕ) (is_deny : IsOf (for_everybody Deny) deny) (is_allow : IsOf (for_everybody Allow) allow) where
  abbrev with_first : Directory
  with_first = named_dir the_scratch the_rules.name deny no_files

  abbrev with_both : Directory
  with_both = named_dir the_scratch the_rules.name allow (after settles with_first)

  abbrev with_another : Directory
  with_another = with_others with_both name_of_others file_of_others

  abbrev kept_1 : List KeptFile
  kept_1 = record { serial = 1; bytes = content (after settles with_first) the_rules.name } ∷ []

  abbrev after_kill : World
  after_kill = world with_both killed kept_1

  abbrev changed_world : World
  changed_world = world with_another killed kept_1

  first_stands : content (after settles with_first) the_rules.name ≡ Some deny
  first_stands = content_synced the_rules.name deny with_first (named_synced the_scratch the_rules.name deny no_files)

  second_stands : content with_both the_rules.name ≡ Some allow
  second_stands = content_synced the_rules.name allow with_both (named_synced the_scratch the_rules.name allow (after settles with_first))

  until_then : Legal first_world until_the_kill after_kill
  until_then =
      legal_then (installs the_rules the_scratch other_name (for_everybody Deny) deny is_deny no_files at_start texts_0 0 None [])
      (legal_then (finishes the_rules the_scratch other_name with_first at_start texts_1 0 (next_text (for_everybody Deny) texts_0 the_scratch) [])
      (legal_then (opens_first (after settles with_first) deny first_stands)
      (legal_then (prepares allow is_allow (after settles with_first) kept_1)
      (is_killed allow (after settles with_first) kept_1))))

  -- somebody makes a file
  of_others : IsOthers after_kill name_of_others
  of_others = record { not_rules = λ r is same. not_the_rules r is same; not_scratch = λ u is. absurd (cc) }

  others_make : Outside after_kill changed_world
  others_make =
      let made = made_others after_kill name_of_others file_of_others of_others in
      subst (λ (x : World). Outside after_kill x) (made.1.moves ∙ ap (λ (d : Directory). record after_kill { directory = d }) made.2) made.1

  still_stands : content with_another the_rules.name ≡ Some allow
  still_stands = standing_on after_kill changed_world allow others_make second_stands

  differs : with_another ≢ with_both
  differs same = longer with_both.files (ap (λ (d : Directory). d.files) same)
    where
      longer : (files : List FileState) → files ++ file_of_others ∷ [] ≡ files → ⊥
      longer [] is = cc
      longer (f ∷ files) is = longer files (cc)

  is_woven : WovenAround until_the_kill behind_the_kill texts_of_both 1
  is_woven = record {
    begin = first_world;
    starts = first_starts;
    u = after_kill;
    woven = its_parts until_then;
    v = changed_world;
    outside = others_make;
    changed = differs;
    w = world with_another decided_2 (record { serial = 1; bytes = content (after settles with_first) the_rules.name } ∷ record { serial = 2; bytes = content with_another the_rules.name } ∷ []);
    on = its_parts (decides_both with_another (content (after settles with_first) the_rules.name) deny allow is_deny is_allow first_stands still_stands);
    accepts = refl;
    acknowledges = refl;
  }

-- There are such worlds.
pub woven_around : WovenAround until_the_kill behind_the_kill texts_of_both 1
woven_around = is_woven for_deny.0 for_allow.0 for_deny.1 for_allow.1
