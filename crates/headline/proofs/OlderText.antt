-- The history of an older text happens.
use Rattle.std.proofs.Common.{◌≡◌, ◌≢◌, inl, Bool, true, false, ℕ, List, [], ◌∷◌, refl, sym, ◌∙◌, ap}
use Rattle.std.proofs.lemmas.Option.{slice_get-map}
use Rattle.std.specs.Prelude.{slice_get, Option, None, Some, Ok, is_some, option_and_then, if◌then◌else◌}
use Rattle.std.specs.Option.{option_map}
use Rattle.std.specs.FinMap.{empty, get, insert}
use Rattle.std.specs.Fmt.{digits}
use Rattle.cdb_files.specs.Reading.{reading}
use Rattle.dir_calls.specs.declared.choice.Choice.TheVariants.{Empty}
use Rattle.dir_calls.specs.NameTable.{Names, moves, push}
use Rattle.dir_calls.specs.Directory.{Directory, FileState, KeepsSynced, content, number_of}
use Rattle.dir_calls.specs.Calls.{Call, makes, appends, syncs, renames, settles, after, longer, lasting, moved, taken_from, with_names, with_scratch}
use Rattle.dir_calls.specs.Outcomes.{Fails}
use Rattle.dir_calls.specs.Stop.{stopped, stopped_file}
use Rattle.dir_calls.proofs.Lasting.{after_keeps}
use Rattle.dir_calls.proofs.NamesOf.{get-insert_same}
use Rattle.dir_calls.proofs.Stops.{stopped_is}
use Rattle.rule_lookup.specs.declared.instr.Verdict.{Verdict}
use Rattle.rule_lookup.specs.declared.instr.Verdict.TheVariants.{Allow, Deny}
use Rattle.rule_lookup.specs.Decisions.{by_rule, decision_from, decision_in}
use Rattle.rule_lookup.specs.declared.decision.Decision.{Decision}
use Rattle.rule_lookup.specs.declared.decision.WhenMissing.TheVariants.{Deny as DenyMissing}
use Rattle.child_jobs.specs.declared.outcome.DropCause.TheVariants.{Denied}
use Rattle.dir_calls.specs.declared.phase.Phase.TheVariants.{Fresh, Filling, Named, Done}
use Rattle.server_events.specs.declared.event.Event.TheVariants.{Admitted, Opened, Decided, Started, Dropped, Stepped, StepFailed, Stop}
use Rattle.headline.specs.Headline.{Reaches}
use Rattle.server_events.specs.ServerState.{ServerState, start, after as after_event}
use Rattle.headline.specs.Steps.{Legal, Step, none, more}
use Rattle.headline.specs.Witness.{an_older_text, for_everybody, somebody, texts_of_that}
use Rattle.headline.specs.Worlds.{Accepted, IsOf, IsStart, KeptFile, RulesName, UnderWay, World}
use Rattle.headline.proofs.Everybody.{for_allow, for_deny}
use Rattle.headline.proofs.InstalledRuns.{content_synced, decided_by_file, filled_dir, in_phase, installs, legal_then, named_dir, named_synced, next_text, world_at}
use Rattle.headline.proofs.StandingTexts.{begins_alone}
use Rattle.server_events.proofs.Effects.{is_step}

-- ---- what was settled stays so

-- The calls of an installation, before the last, leave the settled names as they are.
settled_makes : (d : Directory) (name : List ℕ) → (after (makes name) d).names.settled ≡ d.names.settled
settled_makes d name = by (number_of d name)
  where
    by : (number : Option ℕ) → (taken_from d.names name number).settled ≡ d.names.settled
    by None = refl
    by (Some n) = refl

settled_scratch : (change : FileState → FileState) (d : Directory) (scratch : Option ℕ) → (with_scratch change scratch d).names.settled ≡ d.names.settled
settled_scratch change d None = refl
settled_scratch change d (Some n) = refl

settled_renames : (d : Directory) (from to : List ℕ) → (after (renames from to) d).names.settled ≡ d.names.settled
settled_renames d from to = by (number_of d from)
  where
    chosen : (same : Bool) (n : ℕ) → (if same then d else with_names d (push d.names (moves from to n))).names.settled ≡ d.names.settled
    chosen true n = refl
    chosen false n = refl

    by : (number : Option ℕ) → (moved d from to number).names.settled ≡ d.names.settled
    by None = refl
    by (Some n) = chosen _ n

-- They are the same once a file was made and filled, and once it has its name.
settled_filled : (tmp file : List ℕ) (d : Directory) → (filled_dir tmp file d).names.settled ≡ d.names.settled
settled_filled tmp file d = settled_scratch (longer file) (after (makes tmp) d) (after (makes tmp) d).scratch ∙ settled_makes d tmp

settled_named : (tmp name file : List ℕ) (d : Directory) → (named_dir tmp name file d).names.settled ≡ d.names.settled
settled_named tmp name file d =
    settled_renames (after syncs (filled_dir tmp file d)) tmp name
    ∙ settled_scratch lasting (filled_dir tmp file d) (filled_dir tmp file d).scratch
    ∙ settled_filled tmp file d

-- Synced files that stay twice stay.
keeps_both : (first second third : List FileState) → KeepsSynced first second → KeepsSynced second third → KeepsSynced first third
keeps_both first second third one two = record { each = λ n file there synced. two.each n file (one.each n file there synced) synced }

-- Each call lets them be, and so do the calls of an installation.
keeps_call : (old : List FileState) (call : Call) (d : Directory) → KeepsSynced old d.files → KeepsSynced old (after call d).files
keeps_call old call d keeps = keeps_both old d.files (after call d).files keeps (after_keeps call d)

keeps_filled : (old : List FileState) (tmp file : List ℕ) (d : Directory) → KeepsSynced old d.files → KeepsSynced old (filled_dir tmp file d).files
keeps_filled old tmp file d keeps = keeps_call old (appends file) (after (makes tmp) d) (keeps_call old (makes tmp) d keeps)

keeps_named : (old : List FileState) (tmp name file : List ℕ) (d : Directory) → KeepsSynced old d.files → KeepsSynced old (named_dir tmp name file d).files
keeps_named old tmp name file d keeps =
    keeps_call old (renames tmp name) (after syncs (filled_dir tmp file d)) (keeps_call old syncs (filled_dir tmp file d) (keeps_filled old tmp file d keeps))

-- A settling that fails may leave the whole directory as it is.
settles_nothing : (d : Directory) → Fails settles d d
settles_nothing d = record { names = record { count = 0; settled = refl; pending = refl }; files = record { each = λ n file there synced. there } }

-- A stop that takes back each pending change leaves the synced file that the settled names have.
content_older : (d : Directory) (name bytes : List ℕ) (n : ℕ) → get d.names.settled name ≡ Some n → slice_get d.files n ≡ Some (record { bytes = bytes; synced = true }) → content (stopped Empty d) name ≡ Some bytes
content_older d name bytes n number there =
    ap (λ (o : Option ℕ). option_map (λ (file : FileState). file.bytes) (option_and_then (λ (k : ℕ). slice_get (stopped Empty d).files k) o)) number
    ∙ ap (option_map (λ (file : FileState). file.bytes)) (slice_get-map (stopped_file Empty) d.files n ∙ ap (option_map (stopped_file Empty)) there)

-- ---- the names, the decisions, and the states of the server

abbrev the_rules : RulesName
the_rules = record { name = 99 ∷ []; missing = DenyMissing }

abbrev the_scratch : List ℕ
the_scratch = 99 ∷ 116 ∷ []

other_name : the_scratch ≢ the_rules.name
other_name is = cc

abbrev everybody : Verdict → Decision
everybody verdict = by_rule [] (record { verdict = verdict; settings = [] })

abbrev at_start : ServerState
at_start = start 1 1

abbrev admitted_1 : ServerState
admitted_1 = after_event at_start (Admitted 1 somebody)

abbrev opened_1 : ServerState
opened_1 = after_event admitted_1 (Opened 1 true)

abbrev decided_1 : ServerState
decided_1 = after_event opened_1 (Decided 1 (everybody Deny))

abbrev dropped_1 : ServerState
dropped_1 = after_event decided_1 (Dropped 1 Denied)

abbrev stopped_2 : ServerState
stopped_2 = after_event dropped_1 Stop

abbrev admitted_2 : ServerState
admitted_2 = after_event stopped_2 (Admitted 2 somebody)

abbrev opened_2 : ServerState
opened_2 = after_event admitted_2 (Opened 2 true)

abbrev decided_2 : ServerState
decided_2 = after_event opened_2 (Decided 2 (everybody Allow))

abbrev started_2 : ServerState
started_2 = after_event decided_2 (Started 2)

abbrev stopped_3 : ServerState
stopped_3 = after_event started_2 Stop

-- the texts that are accepted: at the start, with the installation that is given up, and with the other one
abbrev texts_0 : Accepted
texts_0 = Some (for_everybody Allow) ∷ []

abbrev texts_1 : Accepted
texts_1 = Some (for_everybody Allow) ∷ Some (for_everybody Deny) ∷ []

-- a world of this history
abbrev world : Directory → ServerState → Accepted → Option UnderWay → List KeptFile → World
world d server accepted under_way kept = world_at the_rules d server accepted 0 under_way kept

-- ---- the installations

-- One is begun and filled, and no more.
begins_one : (file : List ℕ) → IsOf (for_everybody Deny) file → (d : Directory)
    → Legal (world d at_start texts_0 None []) (Stepped Fresh ∷ Stepped Filling ∷ [])
    (world (filled_dir the_scratch file d) (in_phase at_start Filling) texts_1 (Some (next_text (for_everybody Deny) texts_0 the_scratch)) [])
begins_one file is d =
    let u : UnderWay = next_text (for_everybody Deny) texts_0 the_scratch in
    let before : World = world d at_start texts_0 None [] in
    let with_file : World = world (after (makes the_scratch) d) (in_phase at_start Fresh) texts_1 (Some u) [] in
    let with_bytes : World = world (filled_dir the_scratch file d) (in_phase at_start Filling) texts_1 (Some u) [] in
    let makes_it : Step before (Stepped Fresh) with_file = record { table = is_step at_start (Stepped Fresh) refl; moves = (for_everybody Deny, the_scratch, makes the_scratch, is.of_text, other_name, inl refl, refl) } in
    let fills_it : Step with_file (Stepped Filling) with_bytes = record { table = is_step (in_phase at_start Fresh) (Stepped Filling) refl; moves = (appends file, inl (file, refl), refl) } in
    more makes_it (more fills_it none)

-- The call that should make the name of the other one lasting fails, and makes no change of names lasting.
fails_last : (d : Directory) → Legal (world d (in_phase at_start Named) texts_of_that (Some (next_text (for_everybody Deny) texts_1 the_scratch)) []) (StepFailed Done ∷ []) (world d at_start texts_of_that None [])
fails_last d =
    let u : UnderWay = next_text (for_everybody Deny) texts_1 the_scratch in
    let before : World = world d (in_phase at_start Named) texts_of_that (Some u) [] in
    let failed : World = world d at_start texts_of_that None [] in
    let fails : Step before (StepFailed Done) failed = record { table = is_step (in_phase at_start Named) (StepFailed Done) refl; moves = (settles, refl, settles_nothing d, refl) } in
    more fails none

-- ---- the connections

-- the rule for everybody decides this peer
decides_somebody : (verdict : Verdict) → decision_in (for_everybody verdict) somebody ≡ everybody verdict
unfolding digits
decides_somebody verdict = refl

-- what a connection keeps decides it
decides_kept : (verdict : Verdict) (file : List ℕ) (bytes : Option (List ℕ)) → IsOf (for_everybody verdict) file → bytes ≡ Some file → decision_from (option_map reading bytes) DenyMissing somebody ≡ Ok (everybody verdict)
decides_kept verdict file bytes is there =
    ap (λ (o : Option (List ℕ)). decision_from (option_map reading o) DenyMissing somebody) there
    ∙ decided_by_file (for_everybody verdict) file somebody is
    ∙ ap (λ (d : Decision). Ok d) (decides_somebody verdict)

-- The first connection is denied.
denied : (d : Directory) (file : List ℕ) → IsOf (for_everybody Deny) file → content d the_rules.name ≡ Some file
    → Legal (world d at_start texts_of_that None []) (Admitted 1 somebody ∷ Opened 1 true ∷ Decided 1 (everybody Deny) ∷ Dropped 1 Denied ∷ [])
    (world d dropped_1 texts_of_that None (record { serial = 1; bytes = content d the_rules.name } ∷ []))
denied d file is there =
    let kept : List KeptFile = record { serial = 1; bytes = content d the_rules.name } ∷ [] in
    let begins : World = world d at_start texts_of_that None [] in
    let is_in : World = world d admitted_1 texts_of_that None [] in
    let has_opened : World = world d opened_1 texts_of_that None kept in
    let is_told : World = world d decided_1 texts_of_that None kept in
    let is_gone : World = world d dropped_1 texts_of_that None kept in
    let admits : Step begins (Admitted 1 somebody) is_in = record { table = is_step at_start (Admitted 1 somebody) refl; moves = refl } in
    let opens : Step is_in (Opened 1 true) has_opened = record { table = is_step admitted_1 (Opened 1 true) refl; moves = (ap (λ (o : Option (List ℕ)). is_some o) (sym there), refl) } in
    let decides : Step has_opened (Decided 1 (everybody Deny)) is_told = record {
      table = is_step opened_1 (Decided 1 (everybody Deny)) refl;
      moves = (content d the_rules.name, somebody, refl, refl, decides_kept Deny file (content d the_rules.name) is there, refl);
    } in
    let drops : Step is_told (Dropped 1 Denied) is_gone = record { table = is_step decided_1 (Dropped 1 Denied) refl; moves = refl } in
    more admits (more opens (more decides (more drops none)))

-- The second connection is allowed, and its child is started.
allowed : (d : Directory) (file : List ℕ) → IsOf (for_everybody Allow) file → content d the_rules.name ≡ Some file
    → Legal (world d stopped_2 texts_of_that None []) (Admitted 2 somebody ∷ Opened 2 true ∷ Decided 2 (everybody Allow) ∷ Started 2 ∷ [])
    (world d started_2 texts_of_that None (record { serial = 2; bytes = content d the_rules.name } ∷ []))
allowed d file is there =
    let kept : List KeptFile = record { serial = 2; bytes = content d the_rules.name } ∷ [] in
    let begins : World = world d stopped_2 texts_of_that None [] in
    let is_in : World = world d admitted_2 texts_of_that None [] in
    let has_opened : World = world d opened_2 texts_of_that None kept in
    let is_told : World = world d decided_2 texts_of_that None kept in
    let runs : World = world d started_2 texts_of_that None kept in
    let admits : Step begins (Admitted 2 somebody) is_in = record { table = is_step stopped_2 (Admitted 2 somebody) refl; moves = refl } in
    let opens : Step is_in (Opened 2 true) has_opened = record { table = is_step admitted_2 (Opened 2 true) refl; moves = (ap (λ (o : Option (List ℕ)). is_some o) (sym there), refl) } in
    let decides : Step has_opened (Decided 2 (everybody Allow)) is_told = record {
      table = is_step opened_2 (Decided 2 (everybody Allow)) refl;
      moves = (content d the_rules.name, somebody, refl, refl, decides_kept Allow file (content d the_rules.name) is there, refl);
    } in
    let starts : Step is_told (Started 2) runs = record { table = is_step decided_2 (Started 2) refl; moves = refl } in
    more admits (more opens (more decides (more starts none)))

-- ---- the stops

-- The machine stops between two calls, and takes back each change of names that is pending.
stops : (d : Directory) (server : ServerState) (kept : List KeptFile) → Legal (world d server texts_of_that None kept) (Stop ∷ []) (world (stopped Empty d) (after_event server Stop) texts_of_that None [])
stops d server kept =
    let before : World = world d server texts_of_that None kept in
    let left : World = world (stopped Empty d) (after_event server Stop) texts_of_that None [] in
    let at_once : Step before Stop left = record { table = is_step server Stop refl; moves = ((d, inl refl, stopped_is Empty d), refl) } in
    more at_once none

-- ---- the whole history

module _ (deny allow : List ℕ) (is_deny : IsOf (for_everybody Deny) deny) (is_allow : IsOf (for_everybody Allow) allow) where
  abbrev older : FileState
  older = record { bytes = allow; synced = true }

  abbrev names_first : Names
  names_first = insert empty the_rules.name 0

  abbrev first_dir : Directory
  first_dir = record { names = record { settled = names_first; pending = [] }; files = older ∷ []; scratch = None }

  abbrev given_up : Directory
  given_up = filled_dir the_scratch deny first_dir

  abbrev with_name : Directory
  with_name = named_dir the_scratch the_rules.name deny given_up

  abbrev after_stop : Directory
  after_stop = stopped Empty with_name

  abbrev kept_1 : List KeptFile
  kept_1 = record { serial = 1; bytes = content with_name the_rules.name } ∷ []

  abbrev kept_2 : List KeptFile
  kept_2 = record { serial = 2; bytes = content after_stop the_rules.name } ∷ []

  abbrev first_world : World
  first_world = world first_dir at_start texts_0 None []

  abbrev last_world : World
  last_world = world (stopped Empty after_stop) stopped_3 texts_of_that None []

  first_starts : IsStart first_world
  first_starts = record {
    begins = begins_alone the_rules.name first_dir (Some (for_everybody Allow)) refl (0, get-insert_same empty the_rules.name 0, record { file = allow; there = refl; compiled = is_allow });
    server = refl;
    acknowledged = refl;
    under_way = refl;
    kept = refl;
  }

  new_stands : content with_name the_rules.name ≡ Some deny
  new_stands = content_synced the_rules.name deny with_name (named_synced the_scratch the_rules.name deny given_up)

  still_settled : get with_name.names.settled the_rules.name ≡ Some 0
  still_settled =
      ap (λ (names : Names). get names the_rules.name) (settled_named the_scratch the_rules.name deny given_up ∙ settled_filled the_scratch deny first_dir)
      ∙ get-insert_same empty the_rules.name 0

  still_there : slice_get with_name.files 0 ≡ Some older
  still_there =
      (keeps_named first_dir.files the_scratch the_rules.name deny given_up
      (keeps_filled first_dir.files the_scratch deny first_dir (record { each = λ n file there synced. there }))).each 0 older refl refl

  older_stands : content after_stop the_rules.name ≡ Some allow
  older_stands = content_older with_name the_rules.name allow 0 still_settled still_there

  older_happens : Legal first_world an_older_text last_world
  older_happens =
      legal_then (begins_one deny is_deny first_dir)
      (legal_then (installs the_rules the_scratch other_name (for_everybody Deny) deny is_deny given_up (in_phase at_start Filling) texts_1 0 (Some (next_text (for_everybody Deny) texts_0 the_scratch)) [])
      (legal_then (fails_last with_name)
      (legal_then (denied with_name deny is_deny new_stands)
      (legal_then (stops with_name dropped_1 kept_1)
      (legal_then (allowed after_stop allow is_allow older_stands)
      (stops after_stop started_2 kept_2))))))

  happens : (w : World) × Reaches an_older_text w × (w.accepted ≡ texts_of_that) × (w.acknowledged ≡ 0)
  happens = (last_world, record { begin = first_world; starts = first_starts; legal = older_happens }, refl, refl)

-- There is a world that it leads to.
pub older_text_leads : (w : World) × Reaches an_older_text w × (w.accepted ≡ texts_of_that) × (w.acknowledged ≡ 0)
older_text_leads = happens for_deny.0 for_allow.0 for_deny.1 for_allow.1
