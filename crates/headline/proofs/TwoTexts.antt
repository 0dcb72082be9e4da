-- The history of two texts happens.
use Rattle.std.proofs.Common.{◌≡◌, ◌≢◌, inr, true, ℕ, List, [], ◌∷◌, length, refl, sym, ◌∙◌, ap}
use Rattle.std.specs.Prelude.{Option, None, Some, Ok, is_some, option_map}
use Rattle.std.specs.Cmp.Lexicographic.{slice_cmp}
use Rattle.std.specs.FinMap.{empty, get-empty}
use Rattle.std.specs.Fmt.{digits}
use Rattle.std.specs.Ordering.{nat_cmp}
use Rattle.cdb_files.specs.Reading.{reading}
use Rattle.dir_calls.specs.declared.choice.Choice.TheVariants.{Kept as AllKept}
use Rattle.dir_calls.specs.Directory.{Directory, content}
use Rattle.dir_calls.specs.Calls.{settles, after}
use Rattle.dir_calls.specs.Stop.{stopped}
use Rattle.dir_calls.proofs.Stops.{stopped_is}
use Rattle.rule_lookup.specs.Pairs.{Rule}
use Rattle.rule_lookup.specs.declared.instr.Verdict.{Verdict}
use Rattle.rule_lookup.specs.declared.instr.Verdict.TheVariants.{Allow, Deny}
use Rattle.rule_lookup.specs.Decisions.{by_rule, decision_from, decision_in}
use Rattle.rule_lookup.specs.declared.decision.Decision.{Decision}
use Rattle.rule_lookup.specs.declared.decision.WhenMissing.TheVariants.{Deny as DenyMissing}
use Rattle.child_jobs.specs.declared.outcome.DropCause.TheVariants.{Denied}
use Rattle.dir_calls.specs.declared.phase.Phase.TheVariants.{Named, Done}
use Rattle.server_events.specs.declared.event.Event.TheVariants.{Admitted, Opened, Decided, Started, Retired, Dropped, Stop}
use Rattle.headline.specs.Headline.{Reaches}
use Rattle.server_events.specs.Live.{retired_of}
use Rattle.server_events.specs.ServerState.{ServerState, start, after as after_event, done}
use Rattle.headline.specs.Steps.{Legal, Step, none, more}
use Rattle.headline.specs.Witness.{for_everybody, somebody, texts_of_it, two_texts}
use Rattle.headline.specs.Worlds.{Accepted, IsOf, IsStart, KeptFile, RulesName, UnderWay, World}
use Rattle.headline.proofs.Everybody.{for_allow, for_deny}
use Rattle.headline.proofs.InstalledRuns.{content_left, content_synced, decided_by_file, finishes, in_phase, installs, legal_then, named_dir, named_synced, next_text, world_at}
use Rattle.headline.proofs.StandingTexts.{begins_alone}
use Rattle.server_events.proofs.Effects.{is_step}

-- ---- the names, the decisions, and the states of the server

abbrev pub the_rules : RulesName
the_rules = record { name = 99 ∷ []; missing = DenyMissing }

abbrev pub the_scratch : List ℕ
the_scratch = 99 ∷ 116 ∷ []

pub other_name : the_scratch ≢ the_rules.name
other_name is = cc

abbrev pub everybody : Verdict → Decision
everybody verdict = by_rule [] (record { verdict = verdict; settings = [] })

abbrev at_start : ServerState
at_start = start 1 1

abbrev admitted_1 : ServerState
admitted_1 = after_event at_start (Admitted 1 somebody)

abbrev opened_1 : ServerState
opened_1 = after_event admitted_1 (Opened 1 true)

abbrev decided_1 : ServerState
decided_1 = after_event opened_1 (Decided 1 (everybody Deny))

abbrev dropped_1 : ServerState
dropped_1 = after_event decided_1 (Dropped 1 Denied)

abbrev stopped_2 : ServerState
stopped_2 = after_event (in_phase dropped_1 Named) Stop

abbrev admitted_2 : ServerState
admitted_2 = after_event stopped_2 (Admitted 2 somebody)

abbrev opened_2 : ServerState
opened_2 = after_event admitted_2 (Opened 2 true)

abbrev decided_2 : ServerState
decided_2 = after_event opened_2 (Decided 2 (everybody Allow))

abbrev started_2 : ServerState
started_2 = after_event decided_2 (Started 2)

abbrev retired_2 : ServerState
retired_2 = after_event started_2 (Retired 2)

abbrev pub texts_0 : Accepted
texts_0 = None ∷ []

abbrev pub texts_1 : Accepted
texts_1 = None ∷ Some (for_everybody Deny) ∷ []

abbrev pub texts_2 : Accepted
texts_2 = None ∷ Some (for_everybody Deny) ∷ Some (for_everybody Allow) ∷ []

-- ---- a connection

-- the rule for everybody decides this peer
pub decides_somebody : (verdict : Verdict) → decision_in (for_everybody verdict) somebody ≡ everybody verdict
unfolding digits
decides_somebody verdict = refl

-- what a connection keeps decides it
pub decides_kept : (rules : List Rule) (file : List ℕ) (bytes : Option (List ℕ)) (decision : Decision) → IsOf rules file → bytes ≡ Some file → decision_in rules somebody ≡ decision
    → decision_from (option_map reading bytes) DenyMissing somebody ≡ Ok decision
decides_kept rules file bytes decision is there told =
    ap (λ (o : Option (List ℕ)). decision_from (option_map reading o) DenyMissing somebody) there ∙ decided_by_file rules file somebody is ∙ ap (λ (d : Decision). Ok d) told

-- the first connection is denied
denied : (d : Directory) (file : List ℕ) → IsOf (for_everybody Deny) file → content d the_rules.name ≡ Some file
    → Legal (world_at the_rules d at_start texts_1 1 None []) (Admitted 1 somebody ∷ Opened 1 true ∷ Decided 1 (everybody Deny) ∷ Dropped 1 Denied ∷ [])
    (world_at the_rules d dropped_1 texts_1 1 None (record { serial = 1; bytes = content d the_rules.name } ∷ []))
denied d file is there =
    let kept : List KeptFile = record { serial = 1; bytes = content d the_rules.name } ∷ [] in
    let begins : World = world_at the_rules d at_start texts_1 1 None [] in
    let is_in : World = world_at the_rules d admitted_1 texts_1 1 None [] in
    let has_opened : World = world_at the_rules d opened_1 texts_1 1 None kept in
    let is_told : World = world_at the_rules d decided_1 texts_1 1 None kept in
    let is_gone : World = world_at the_rules d dropped_1 texts_1 1 None kept in
    let admits : Step begins (Admitted 1 somebody) is_in = record { table = is_step at_start (Admitted 1 somebody) refl; moves = refl } in
    let opens : Step is_in (Opened 1 true) has_opened = record { table = is_step admitted_1 (Opened 1 true) refl; moves = (ap (λ (o : Option (List ℕ)). is_some o) (sym there), refl) } in
    let decides : Step has_opened (Decided 1 (everybody Deny)) is_told = record {
      table = is_step opened_1 (Decided 1 (everybody Deny)) refl;
      moves = (content d the_rules.name, somebody, refl, refl, decides_kept (for_everybody Deny) file (content d the_rules.name) (everybody Deny) is there (decides_somebody Deny), refl);
    } in
    let drops : Step is_told (Dropped 1 Denied) is_gone = record { table = is_step decided_1 (Dropped 1 Denied) refl; moves = refl } in
    more admits (more opens (more decides (more drops none)))

-- the second connection is allowed, and its child is retired
allowed : (d : Directory) (file : List ℕ) → IsOf (for_everybody Allow) file → content d the_rules.name ≡ Some file
    → Legal (world_at the_rules d stopped_2 texts_2 1 None []) (Admitted 2 somebody ∷ Opened 2 true ∷ Decided 2 (everybody Allow) ∷ Started 2 ∷ Retired 2 ∷ [])
    (world_at the_rules d retired_2 texts_2 1 None (record { serial = 2; bytes = content d the_rules.name } ∷ []))
allowed d file is there =
    let kept : List KeptFile = record { serial = 2; bytes = content d the_rules.name } ∷ [] in
    let begins : World = world_at the_rules d stopped_2 texts_2 1 None [] in
    let is_in : World = world_at the_rules d admitted_2 texts_2 1 None [] in
    let has_opened : World = world_at the_rules d opened_2 texts_2 1 None kept in
    let is_told : World = world_at the_rules d decided_2 texts_2 1 None kept in
    let runs : World = world_at the_rules d started_2 texts_2 1 None kept in
    let is_retired : World = world_at the_rules d retired_2 texts_2 1 None kept in
    let admits : Step begins (Admitted 2 somebody) is_in = record { table = is_step stopped_2 (Admitted 2 somebody) refl; moves = refl } in
    let opens : Step is_in (Opened 2 true) has_opened = record { table = is_step admitted_2 (Opened 2 true) refl; moves = (ap (λ (o : Option (List ℕ)). is_some o) (sym there), refl) } in
    let decides : Step has_opened (Decided 2 (everybody Allow)) is_told = record {
      table = is_step opened_2 (Decided 2 (everybody Allow)) refl;
      moves = (content d the_rules.name, somebody, refl, refl, decides_kept (for_everybody Allow) file (content d the_rules.name) (everybody Allow) is there (decides_somebody Allow), refl);
    } in
    let starts : Step is_told (Started 2) runs = record { table = is_step decided_2 (Started 2) refl; moves = refl } in
    let retires : Step runs (Retired 2) is_retired = record { table = is_step started_2 (Retired 2) refl; moves = refl } in
    more admits (more opens (more decides (more starts (more retires none))))

-- ---- the stop

-- the machine stops within the call that makes the name of the second text lasting
stops : (d : Directory) (kept : List KeptFile)
    → Legal (world_at the_rules d (in_phase dropped_1 Named) texts_2 1 (Some (next_text (for_everybody Allow) texts_1 the_scratch)) kept) (Stop ∷ [])
    (world_at the_rules (stopped AllKept (after settles d)) stopped_2 texts_2 1 None [])
stops d kept =
    let u : UnderWay = next_text (for_everybody Allow) texts_1 the_scratch in
    let before : World = world_at the_rules d (in_phase dropped_1 Named) texts_2 1 (Some u) kept in
    let left : World = world_at the_rules (stopped AllKept (after settles d)) stopped_2 texts_2 1 None [] in
    let within : Step before Stop left = record {
      table = is_step (in_phase dropped_1 Named) Stop refl;
      moves = ((after settles d, inr (Done, settles, done, refl, inr refl), stopped_is AllKept (after settles d)), refl);
    } in
    more within none

-- ---- the whole history

abbrev pub no_files : Directory
no_files = record { names = record { settled = empty; pending = [] }; files = []; scratch = None }

abbrev first_world : World
first_world = world_at the_rules no_files at_start texts_0 0 None []

first_starts : IsStart first_world
first_starts = record {
  begins = begins_alone the_rules.name no_files None refl (get-empty (slice_cmp nat_cmp) the_rules.name);
  server = refl;
  acknowledged = refl;
  under_way = refl;
  kept = refl;
}

module _ (deny allow : List ℕ) (is_deny : IsOf (for_everybody Deny) deny) (is_allow : IsOf (for_everybody Allow) allow) where
  abbrev with_first : Directory
  with_first = named_dir the_scratch the_rules.name deny no_files

  abbrev with_second : Directory
  with_second = named_dir the_scratch the_rules.name allow (after settles with_first)

  abbrev after_stop : Directory
  after_stop = stopped AllKept (after settles with_second)

  abbrev with_third : Directory
  with_third = named_dir the_scratch the_rules.name deny after_stop

  abbrev kept_1 : List KeptFile
  kept_1 = record { serial = 1; bytes = content (after settles with_first) the_rules.name } ∷ []

  abbrev kept_2 : List KeptFile
  kept_2 = record { serial = 2; bytes = content after_stop the_rules.name } ∷ []

  abbrev last_world : World
  last_world = world_at the_rules (after settles with_third) (in_phase retired_2 Done) texts_of_it 3 None kept_2

  first_stands : content (after settles with_first) the_rules.name ≡ Some deny
  first_stands = content_synced the_rules.name deny with_first (named_synced the_scratch the_rules.name deny no_files)

  second_stands : content after_stop the_rules.name ≡ Some allow
  second_stands =
      content_left the_rules.name allow with_second after_stop
      (named_synced the_scratch the_rules.name allow (after settles with_first)) (stopped_is AllKept (after settles with_second))

  two_texts_happen : Legal first_world two_texts last_world
  two_texts_happen =
      legal_then (installs the_rules the_scratch other_name (for_everybody Deny) deny is_deny no_files at_start texts_0 0 None [])
      (legal_then (finishes the_rules the_scratch other_name with_first at_start texts_1 0 (next_text (for_everybody Deny) texts_0 the_scratch) [])
      (legal_then (denied (after settles with_first) deny is_deny first_stands)
      (legal_then (installs the_rules the_scratch other_name (for_everybody Allow) allow is_allow (after settles with_first) dropped_1 texts_1 1 None kept_1)
      (legal_then (stops with_second kept_1)
      (legal_then (allowed after_stop allow is_allow second_stands)
      (legal_then (installs the_rules the_scratch other_name (for_everybody Deny) deny is_deny after_stop retired_2 texts_2 1 None kept_2)
      (finishes the_rules the_scratch other_name with_third retired_2 texts_of_it 1 (next_text (for_everybody Deny) texts_2 the_scratch) kept_2)))))))

  pub happens : (w : World) × Reaches two_texts w × (w.accepted ≡ texts_of_it) × (w.acknowledged ≡ 3) × (length (retired_of two_texts) ≡ 1)
  happens = (last_world, record { begin = first_world; starts = first_starts; legal = two_texts_happen }, refl, refl, refl)

-- There is a world that it leads to.
pub two_texts_lead : (w : World) × Reaches two_texts w × (w.accepted ≡ texts_of_it) × (w.acknowledged ≡ 3) × (length (retired_of two_texts) ≡ 1)
two_texts_lead = happens for_deny.0 for_allow.0 for_deny.1 for_allow.1
