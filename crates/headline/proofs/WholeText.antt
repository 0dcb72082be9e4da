-- In each world that is reached one whole accepted text stands under the rules name, whatever a stop leaves.
use Rattle.std.proofs.Common.{◌≡◌, ◌≢◌, ◌≤◌, ◌<◌, ◌+◌, inl, inr, ⊎_elim, true, ℕ, zero, suc, List, [], ◌∷◌, ◌++◌, length, refl, sym, ◌∙◌, ap, subst, arith}
use Rattle.std.specs.Prelude.{slice_get, Option, None, Some, is_some, max, option_and_then}
use Rattle.std.specs.FinMap.{get}
use Rattle.std.proofs.lemmas.List.{length_push}
use Rattle.rule_lookup.specs.Pairs.{Rule}
use Rattle.dir_calls.specs.declared.phase.Phase.{Phase}
use Rattle.dir_calls.specs.declared.phase.Phase.TheVariants.{Fresh, Filling, Synced, Named, Done}
use Rattle.dir_calls.specs.NameTable.{Names, NameTable, puts, current}
use Rattle.dir_calls.specs.Directory.{Directory, FileState, content, number_of}
use Rattle.dir_calls.specs.Calls.{Call, makes, syncs, renames, settles, after, longer, patched, lasting, with_file, with_scratch, without, cleared}
use Rattle.dir_calls.specs.Outcomes.{Fails}
use Rattle.dir_calls.proofs.NamesOf.{get-insert_same}
use Rattle.dir_calls.proofs.NameTables.{current-push}
use Rattle.dir_calls.proofs.Passing.{passes_end}
use Rattle.dir_calls.proofs.Renames.{moved_files, moved_number}
use Rattle.server_events.specs.declared.event.Event.{Event}
use Rattle.server_events.specs.ServerState.{ServerState, phase_after, Effect, lets_in, opens, decides, brings, lets_go, comes_to, fails_at, ends_all, effect, may_have, with_effect, Follows, fresh, filling, filling_on, synced, named, done}
use Rattle.headline.specs.Steps.{Advances, FailsTo, IsCallTo, IsScratchName, IsWhole, LeavesAlone, LeavesRules, LeavesScratch, MakesScratch, Legal, MayBeAt, MayLeave, Moves, Outside, Step, none, more, beside, MovesBy}
use Rattle.headline.specs.Worlds.{Accepted, HoldsRules, IsAccepted, IsStart, RulesName, StartsWith, UnderWay, World, standing}
use Rattle.headline.specs.Headline.{HasWholeText, Reaches}
use Rattle.headline.proofs.LeftNames.{PutsOnly, left_now, names-with_scratch, scratch-with_scratch}
use Rattle.headline.proofs.Others.{file_on, lasts_on}
use Rattle.headline.proofs.StandingTexts.{IsText, Lasts, image_lasts, lasts_accepted, lasts_failed, lasts_missing, lasts_more, lasts_settled, lasts_within}
use Rattle.server_events.proofs.Effects.{may_come_follows, step_is}

-- ---- what holds in each world

-- a file that is compiled of rules stands under a name
abbrev pub HasFile : Directory → List ℕ → List Rule → Type 0
HasFile d name rules = (n : ℕ) × (number_of d name ≡ Some n) × HoldsRules d.files rules n

-- the directory is as the steps of an installation up to this phase left it
abbrev pub IsAt : Directory → List ℕ → UnderWay → Phase → Type 0
IsAt d name u Fresh = number_of d u.tmp ≡ d.scratch
IsAt d name u Filling = number_of d u.tmp ≡ d.scratch
IsAt d name u Synced = HasFile d u.tmp u.rules
IsAt d name u Named = HasFile d name u.rules
IsAt d name u Done = ⊥

-- the installation has another name for its scratch file, and the number of its text, which is the last one accepted and no older than
-- the last acknowledged
pub record Proceeds (accepted : Accepted) (least : ℕ) (name : List ℕ) (d : Directory) (u : UnderWay) (phase : Phase) : Type 0 where
  pub other : u.tmp ≢ name
  pub its : slice_get accepted u.number ≡ Some (Some u.rules)
  pub last : u.number + 1 ≡ length accepted
  pub recent : least ≤ u.number
  pub at : IsAt d name u phase

-- an installation is under way exactly where there is a phase
abbrev pub Agree : Accepted → ℕ → List ℕ → Directory → Option Phase → Option UnderWay → Type 0
Agree accepted least name d None None = Unit {0}
Agree accepted least name d None (Some u) = ⊥
Agree accepted least name d (Some phase) None = ⊥
Agree accepted least name d (Some phase) (Some u) = Proceeds accepted least name d u phase

pub record Holds (accepted : Accepted) (least : ℕ) (name : List ℕ) (d : Directory) (phase : Option Phase) (under_way : Option UnderWay) : Type 0 where
  pub lasts : Lasts accepted least name d
  pub agree : Agree accepted least name d phase under_way

-- without a rules name nothing is ever accepted
abbrev pub HoldsBy : Option RulesName → Accepted → ℕ → Directory → Option Phase → Option UnderWay → Type 0
HoldsBy None accepted least d phase under_way = (accepted ≡ None ∷ []) × (least ≡ 0)
HoldsBy (Some r) accepted least d phase under_way = Holds accepted least r.name d phase under_way

abbrev pub Good : World → Type 0
Good w = HoldsBy w.rules w.accepted w.acknowledged w.directory w.server.phase w.under_way

-- ---- calls that may come next

text_under_way : (accepted : Accepted) (least : ℕ) (name : List ℕ) (d : Directory) (u : UnderWay) (phase : Phase) (number : Option ℕ) (n : ℕ)
    → Proceeds accepted least name d u phase → number ≡ Some n → HoldsRules d.files u.rules n → IsText accepted least d.files number
text_under_way accepted least name d u phase number n goes is holds = record {
  position = u.number;
  text = Some u.rules;
  accepted_as = goes.its;
  recent = goes.recent;
  stands = (n, is, holds);
}

-- a call on the way to a phase that may come next puts nothing else under the rules name than an accepted text
call_puts : (accepted : Accepted) (least : ℕ) (d : Directory) (r : RulesName) (phase : Option Phase) (next : Phase) (under_way : Option UnderWay) (call : Call)
    → Follows phase next → IsCallTo next under_way (Some r) call → Agree accepted least r.name d phase under_way → PutsOnly call d r.name (IsText accepted least d.files)
call_puts accepted least d r phase Fresh under_way call follows to agree =
    ⊎_elim (λ makes_it. subst (λ (c : Call). PutsOnly c d r.name (IsText accepted least d.files)) (sym makes_it) (λ same. to.1 (sym same)))
    (λ renews_it. subst (λ (c : Call). PutsOnly c d r.name (IsText accepted least d.files)) (sym renews_it) (λ same. to.1 (sym same))) to.2
call_puts accepted least d r phase Filling None call follows to agree = absurd to
call_puts accepted least d r phase Filling (Some u) call follows (inl to) agree =
    subst (λ (c : Call). PutsOnly c d r.name (IsText accepted least d.files)) (sym to.1) tt
call_puts accepted least d r phase Filling (Some u) call follows (inr to) agree =
    subst (λ (c : Call). PutsOnly c d r.name (IsText accepted least d.files)) (sym to.2) tt
call_puts accepted least d r phase Synced None call follows to agree = absurd to
call_puts accepted least d r phase Synced (Some u) call follows to agree =
    subst (λ (c : Call). PutsOnly c d r.name (IsText accepted least d.files)) (sym to) tt
call_puts accepted least d r phase Named None call follows to agree = absurd to
call_puts accepted least d r phase Named (Some u) call named to agree =
    subst (λ (c : Call). PutsOnly c d r.name (IsText accepted least d.files)) (sym to)
    (refl, λ number is. text_under_way accepted least r.name d u Synced (Some number) agree.at.0 agree (sym is ∙ agree.at.1) agree.at.2)
call_puts accepted least d r phase Done None call follows to agree = absurd to
call_puts accepted least d r phase Done (Some u) call follows to agree =
    subst (λ (c : Call). PutsOnly c d r.name (IsText accepted least d.files)) (sym to) tt

-- after a call that did all of its work
call_lasts : (accepted : Accepted) (least : ℕ) (d : Directory) (r : RulesName) (phase : Option Phase) (next : Phase) (under_way : Option UnderWay) (call : Call)
    → Follows phase next → IsCallTo next under_way (Some r) call → Holds accepted least r.name d phase under_way → Lasts accepted least r.name (after call d)
call_lasts accepted least d r phase next under_way call follows to holds =
    lasts_within accepted least r.name d holds.lasts call (after call d) (call_puts accepted least d r phase next under_way call follows to holds.agree) (passes_end call d)

-- ---- the steps of an installation

pub position_below : (accepted : Accepted) (position : ℕ) (text : Option (List Rule)) → slice_get accepted position ≡ Some text → position < length accepted
position_below [] position text is = absurd (cc)
position_below (t ∷ accepted) zero text is = omega arith
position_below (t ∷ accepted) (suc position) text is = let below = position_below accepted position text is in omega arith

last_accepted : (accepted : Accepted) (text : Option (List Rule)) → slice_get (accepted ++ text ∷ []) (length accepted) ≡ Some text
last_accepted [] text = refl
last_accepted (t ∷ accepted) text = last_accepted accepted text

-- the number of the file that is made
made_number : (d : Directory) (tmp : List ℕ) → number_of (after (makes tmp) d) tmp ≡ Some (length d.files)
made_number d tmp =
    ap (λ (m : Names). get m tmp) (current-push (without d tmp).names (puts tmp (length d.files))) ∙ get-insert_same (current (without d tmp).names) tmp (length d.files)

-- it is the scratch file
made_at : (d : Directory) (tmp : List ℕ) (call : Call) → MakesScratch tmp call → number_of (after call d) tmp ≡ (after call d).scratch
made_at d tmp call (inl makes_it) = subst (λ (c : Call). number_of (after c d) tmp ≡ (after c d).scratch) (sym makes_it) (made_number d tmp)
made_at d tmp call (inr renews_it) = subst (λ (c : Call). number_of (after c d) tmp ≡ (after c d).scratch) (sym renews_it) (made_number (cleared d tmp) tmp)

fresh_holds : (rules : Option RulesName) (accepted : Accepted) (least : ℕ) (d : Directory) (phase : Option Phase) (under_way : Option UnderWay) (text : List Rule) (tmp : List ℕ) (call : Call)
    → IsScratchName rules tmp → MakesScratch tmp call → HoldsBy rules accepted least d phase under_way
    → HoldsBy rules (accepted ++ Some text ∷ []) least (after call d) (Some Fresh) (Some (record { rules = text; number = length accepted; tmp = tmp }))
fresh_holds None accepted least d phase under_way text tmp call other is holds = absurd other
fresh_holds (Some r) accepted least d phase under_way text tmp call other is holds =
    let now = left_now d.names r.name (IsText accepted least d.files) holds.lasts in
    let below = position_below accepted now.position now.text now.accepted_as in
    let here = now.recent in
    record {
      lasts = lasts_more accepted least (Some text) r.name (after call d) (call_lasts accepted least d r phase Fresh under_way call fresh (tmp, other, is) holds);
      agree = record { other = other; its = last_accepted accepted (Some text); last = sym (length_push accepted (Some text)); recent = omega arith; at = made_at d tmp call is };
    }

-- bytes in the scratch file leave the names
filled_at : (change : FileState → FileState) (d : Directory) (tmp : List ℕ) → number_of d tmp ≡ d.scratch → number_of (with_scratch change d.scratch d) tmp ≡ (with_scratch change d.scratch d).scratch
filled_at change d tmp is =
    ap (λ (names : NameTable). get (current names) tmp) (names-with_scratch change d d.scratch) ∙ is ∙ sym (scratch-with_scratch change d d.scratch)

called_at : (call : Call) (d : Directory) (u : UnderWay) (r : RulesName) → IsCallTo Filling (Some u) (Some r) call → number_of d u.tmp ≡ d.scratch → number_of (after call d) u.tmp ≡ (after call d).scratch
called_at call d u r (inl to) is =
    subst (λ (c : Call). number_of (after c d) u.tmp ≡ (after c d).scratch) (sym to.1) (filled_at (longer to.0) d u.tmp is)
called_at call d u r (inr to) is =
    subst (λ (c : Call). number_of (after c d) u.tmp ≡ (after c d).scratch) (sym to.2) (filled_at (patched to.0 to.1) d u.tmp is)

-- the same installation in another phase
proceeds_to : (accepted : Accepted) (least : ℕ) (name : List ℕ) (d e : Directory) (u : UnderWay) (phase next : Phase) → Proceeds accepted least name d u phase → IsAt e name u next → Proceeds accepted least name e u next
proceeds_to accepted least name d e u phase next goes at = record { other = goes.other; its = goes.its; last = goes.last; recent = goes.recent; at = at }

filling_holds : (rules : Option RulesName) (accepted : Accepted) (least : ℕ) (d : Directory) (phase : Option Phase) (under_way : Option UnderWay) (call : Call)
    → Follows phase Filling → IsCallTo Filling under_way rules call → HoldsBy rules accepted least d phase under_way → HoldsBy rules accepted least (after call d) (Some Filling) under_way
filling_holds None accepted least d phase None call follows to holds = absurd to
filling_holds None accepted least d phase (Some u) call follows to holds = absurd to
filling_holds (Some r) accepted least d phase None call follows to holds = absurd to
filling_holds (Some r) accepted least d phase (Some u) call filling to holds = record {
  lasts = call_lasts accepted least d r (Some Fresh) Filling (Some u) call filling to holds;
  agree = proceeds_to accepted least r.name d (after call d) u Fresh Filling holds.agree (called_at call d u r to holds.agree.at);
}
filling_holds (Some r) accepted least d phase (Some u) call filling_on to holds = record {
  lasts = call_lasts accepted least d r (Some Filling) Filling (Some u) call filling_on to holds;
  agree = proceeds_to accepted least r.name d (after call d) u Filling Filling holds.agree (called_at call d u r to holds.agree.at);
}

file-with_file : (change : FileState → FileState) (files : List FileState) (n : ℕ) (file : FileState) → slice_get files n ≡ Some file → slice_get (with_file change n files) n ≡ Some (change file)
file-with_file change [] n file is = absurd (cc)
file-with_file change (x ∷ files) zero file is = let same : x ≡ file = cc in ap (λ (f : FileState). Some (change f)) same
file-with_file change (x ∷ files) (suc n) file is = file-with_file change files n file is

-- a whole scratch file that is synced stands under its name
synced_file : (d : Directory) (u : UnderWay) → IsWhole d u → number_of d u.tmp ≡ d.scratch → HasFile (after syncs d) u.tmp u.rules
synced_file d u whole is = by d.scratch refl whole.1
  where
    by : (number : Option ℕ) → d.scratch ≡ number → option_and_then (λ n. slice_get d.files n) number ≡ Some whole.0 → HasFile (after syncs d) u.tmp u.rules
    by None here there = absurd (cc)
    by (Some n) here there = (
      n,
      ap (λ (names : NameTable). get (current names) u.tmp) (names-with_scratch lasting d d.scratch) ∙ is ∙ here,
      record {
        file = whole.0.bytes;
        there = ap (λ (number : Option ℕ). slice_get (with_scratch lasting number d).files n) here ∙ file-with_file lasting d.files n whole.0 there;
        compiled = whole.2;
      },
    )

synced_holds : (rules : Option RulesName) (accepted : Accepted) (least : ℕ) (d : Directory) (phase : Option Phase) (u : UnderWay)
    → Follows phase Synced → is_some rules ≡ true → IsWhole d u → HoldsBy rules accepted least d phase (Some u) → HoldsBy rules accepted least (after syncs d) (Some Synced) (Some u)
synced_holds None accepted least d phase u follows there whole holds = absurd (cc)
synced_holds (Some r) accepted least d phase u synced there whole holds = record {
  lasts = call_lasts accepted least d r (Some Filling) Synced (Some u) syncs synced refl holds;
  agree = proceeds_to accepted least r.name d (after syncs d) u Filling Synced holds.agree (synced_file d u whole holds.agree.at);
}

-- the file is moved onto the name
named_file : (d : Directory) (name : List ℕ) (u : UnderWay) → HasFile d u.tmp u.rules → HasFile (after (renames u.tmp name) d) name u.rules
named_file d name u has = (
  has.0,
  moved_number d u.tmp name has.0 has.1,
  subst (λ (files : List FileState). HoldsRules files u.rules has.0) (sym (moved_files d u.tmp name (number_of d u.tmp))) has.2,
)

named_holds : (r : RulesName) (accepted : Accepted) (least : ℕ) (d : Directory) (phase : Option Phase) (u : UnderWay)
    → Follows phase Named → Holds accepted least r.name d phase (Some u) → Holds accepted least r.name (after (renames u.tmp r.name) d) (Some Named) (Some u)
named_holds r accepted least d phase u named holds = record {
  lasts = call_lasts accepted least d r (Some Synced) Named (Some u) (renames u.tmp r.name) named refl holds;
  agree = proceeds_to accepted least r.name d (after (renames u.tmp r.name) d) u Synced Named holds.agree (named_file d r.name u holds.agree.at);
}

done_holds : (rules : Option RulesName) (accepted : Accepted) (least : ℕ) (d : Directory) (phase : Option Phase) (u : UnderWay)
    → Follows phase Done → is_some rules ≡ true → HoldsBy rules accepted least d phase (Some u) → HoldsBy rules accepted (max least u.number) (after settles d) None None
done_holds None accepted least d phase u follows there holds = absurd (cc)
done_holds (Some r) accepted least d phase u done there holds =
    let here = holds.agree.recent in
    let last : IsText accepted (max least u.number) d.files (number_of d r.name) = record {
      position = u.number;
      text = Some u.rules;
      accepted_as = holds.agree.its;
      recent = omega arith;
      stands = holds.agree.at;
    } in
    record { lasts = lasts_settled accepted (max least u.number) r.name (after settles d) refl last; agree = tt }

-- a step that failed
failed_holds : (rules : Option RulesName) (accepted : Accepted) (least : ℕ) (d e : Directory) (phase : Option Phase) (next : Phase) (under_way : Option UnderWay) (call : Call)
    → Follows phase next → IsCallTo next under_way rules call → Fails call d e → HoldsBy rules accepted least d phase under_way → HoldsBy rules accepted least e None None
failed_holds None accepted least d e phase next under_way call follows to fails holds = holds
failed_holds (Some r) accepted least d e phase next under_way call follows to fails holds = record {
  lasts = lasts_failed accepted least r.name d holds.lasts call e (call_puts accepted least d r phase next under_way call follows to holds.agree) fails;
  agree = tt;
}

-- ---- a stop

-- with a rules name
pub good_rules : (w : World) (r : RulesName) → w.rules ≡ Some r → Good w → Holds w.accepted w.acknowledged r.name w.directory w.server.phase w.under_way
good_rules w r is good = subst (λ (o : Option RulesName). HoldsBy o w.accepted w.acknowledged w.directory w.server.phase w.under_way) is good

-- at each moment before, within and after a call that may come next
moment_lasts : (w : World) (r : RulesName) (state : Directory) → w.rules ≡ Some r → Good w → MayBeAt w state → Lasts w.accepted w.acknowledged r.name state
moment_lasts w r state is good (inl now) = subst (λ (d : Directory). Lasts w.accepted w.acknowledged r.name d) (sym now) (good_rules w r is good).lasts
moment_lasts w r state is good (inr within) =
    let holds = good_rules w r is good in
    let to = subst (λ (o : Option RulesName). IsCallTo within.0 w.under_way o within.1) is within.3 in
    lasts_within w.accepted w.acknowledged r.name w.directory holds.lasts within.1 state
    (call_puts w.accepted w.acknowledged w.directory r w.server.phase within.0 w.under_way within.1 within.2 to holds.agree) within.4

left_lasts : (w : World) (r : RulesName) (image : Directory) → w.rules ≡ Some r → Good w → MayLeave w image → Lasts w.accepted w.acknowledged r.name image
left_lasts w r image is good leaves =
    image_lasts w.accepted w.acknowledged r.name leaves.0 image (moment_lasts w r leaves.0 is good leaves.1) leaves.2

stopped_holds : (w : World) (image : Directory) → Good w → MayLeave w image → HoldsBy w.rules w.accepted w.acknowledged image None None
stopped_holds w image good leaves = by w.rules refl good
  where
    by : (rules : Option RulesName) → w.rules ≡ rules → HoldsBy rules w.accepted w.acknowledged w.directory w.server.phase w.under_way → HoldsBy rules w.accepted w.acknowledged image None None
    by None is holds = holds
    by (Some r) is holds = record { lasts = left_lasts w r image is good leaves; agree = tt }

-- ---- each event

same_parts : (rules : Option RulesName) (accepted : Accepted) (least : ℕ) (d : Directory) (phase next : Option Phase) (under_way later : Option UnderWay)
    → next ≡ phase → later ≡ under_way → HoldsBy rules accepted least d phase under_way → HoldsBy rules accepted least d next later
same_parts rules accepted least d phase next under_way later is same holds =
    subst (λ (p : Option Phase). HoldsBy rules accepted least d p later) (sym is)
    (subst (λ (u : Option UnderWay). HoldsBy rules accepted least d phase u) (sym same) holds)

good_advance : (phase : Phase) (w v : World) → Advances phase w v → Follows w.server.phase phase → v.server.phase ≡ phase_after phase → Good w → Good v
good_advance Fresh w v steps follows is good =
    let u : UnderWay = record { rules = steps.0; number = length w.accepted; tmp = steps.1 } in
    let more = w.accepted ++ Some steps.0 ∷ [] in
    let d = after steps.2 w.directory in
    subst (λ (x : World). Good x) (sym steps.6)
    (same_parts w.rules more w.acknowledged d (Some Fresh) v.server.phase (Some u) (Some u) is refl
    (fresh_holds w.rules w.accepted w.acknowledged w.directory w.server.phase w.under_way steps.0 steps.1 steps.2 steps.4 steps.5 good))
good_advance Filling w v steps follows is good =
    let d = after steps.0 w.directory in
    subst (λ (x : World). Good x) (sym steps.2)
    (same_parts w.rules w.accepted w.acknowledged d (Some Filling) v.server.phase w.under_way w.under_way is refl
    (filling_holds w.rules w.accepted w.acknowledged w.directory w.server.phase w.under_way steps.0 follows steps.1 good))
good_advance Synced w v steps follows is good =
    let u = steps.0 in
    let d = after syncs w.directory in
    let here = same_parts w.rules w.accepted w.acknowledged w.directory w.server.phase w.server.phase w.under_way (Some u) refl (sym steps.1) good in
    subst (λ (x : World). Good x) (sym steps.4)
    (same_parts w.rules w.accepted w.acknowledged d (Some Synced) v.server.phase (Some u) w.under_way is steps.1
    (synced_holds w.rules w.accepted w.acknowledged w.directory w.server.phase u follows steps.2 steps.3 here))
good_advance Named w v steps follows is good =
    let u = steps.0 in
    let r = steps.1 in
    let d = after (renames u.tmp r.name) w.directory in
    let here = same_parts w.rules w.accepted w.acknowledged w.directory w.server.phase w.server.phase w.under_way (Some u) refl (sym steps.2) good in
    let by_name = subst (λ (o : Option RulesName). HoldsBy o w.accepted w.acknowledged w.directory w.server.phase (Some u)) steps.3 here in
    let named_now = named_holds r w.accepted w.acknowledged w.directory w.server.phase u follows by_name in
    subst (λ (x : World). Good x) (sym steps.4)
    (same_parts w.rules w.accepted w.acknowledged d (Some Named) v.server.phase (Some u) w.under_way is steps.2
    (subst (λ (o : Option RulesName). HoldsBy o w.accepted w.acknowledged d (Some Named) (Some u)) (sym steps.3) named_now))
good_advance Done w v steps follows is good =
    let u = steps.0 in
    let d = after settles w.directory in
    let here = same_parts w.rules w.accepted w.acknowledged w.directory w.server.phase w.server.phase w.under_way (Some u) refl (sym steps.1) good in
    subst (λ (x : World). Good x) (sym steps.3)
    (same_parts w.rules w.accepted (max w.acknowledged u.number) d None v.server.phase None None is refl
    (done_holds w.rules w.accepted w.acknowledged w.directory w.server.phase u follows steps.2 here))

good_failure : (phase : Phase) (w v : World) → FailsTo phase w v → Follows w.server.phase phase → v.server.phase ≡ None → Good w → Good v
good_failure phase w v steps follows is good =
    subst (λ (x : World). Good x) (sym steps.3)
    (same_parts w.rules w.accepted w.acknowledged v.directory None v.server.phase None None is refl
    (failed_holds w.rules w.accepted w.acknowledged w.directory v.directory w.server.phase phase w.under_way steps.0 follows steps.1 steps.2 good))

-- an event that touches no installation
good_aside : (w : World) (server : ServerState) → server.phase ≡ w.server.phase → Good w → HoldsBy w.rules w.accepted w.acknowledged w.directory server.phase w.under_way
good_aside w server is good = same_parts w.rules w.accepted w.acknowledged w.directory w.server.phase server.phase w.under_way w.under_way is refl good

good_by : (x : Effect) (w v : World) → may_have w.server x ≡ true → v.server ≡ with_effect w.server x → MovesBy x w v → Good w → Good v
good_by (lets_in n peer) w v may is what good = subst (λ (x : World). Good x) (sym what) (good_aside w v.server (ap (λ s. s.phase) is) good)
good_by (opens n there) w v may is what good = subst (λ (x : World). Good x) (sym what.1) (good_aside w v.server (ap (λ s. s.phase) is) good)
good_by (decides n decision) w v may is what good = subst (λ (x : World). Good x) (sym what.5) (good_aside w v.server (ap (λ s. s.phase) is) good)
good_by (brings n from to) w v may is what good = subst (λ (x : World). Good x) (sym what) (good_aside w v.server (ap (λ s. s.phase) is) good)
good_by (lets_go n from) w v may is what good = subst (λ (x : World). Good x) (sym what) (good_aside w v.server (ap (λ s. s.phase) is) good)
good_by (comes_to phase) w v may is what good = good_advance phase w v what (may_come_follows w.server.phase phase may) (ap (λ s. s.phase) is) good
good_by (fails_at phase) w v may is what good = good_failure phase w v what (may_come_follows w.server.phase phase may) (ap (λ s. s.phase) is) good
good_by ends_all w v may is what good =
    subst (λ (x : World). Good x) (sym what.1)
    (same_parts w.rules w.accepted w.acknowledged v.directory None v.server.phase None None (ap (λ s. s.phase) is) refl (stopped_holds w v.directory good what.0))

pub good_moves : (event : Event) (w v : World) → Step w event v → Moves event w v → Good w → Good v
good_moves event w v step what good = (let happened = step_is step.table in good_by (effect event) w v happened.0 happened.1 what good)

-- ---- steps of others

at_on : (d e : Directory) (name : List ℕ) (u : UnderWay) (phase : Phase) → LeavesAlone name d e → LeavesAlone u.tmp d e → e.scratch ≡ d.scratch → IsAt d name u phase → IsAt e name u phase
at_on d e name u Fresh rules tmp scratch at = tmp.now ∙ at ∙ sym scratch
at_on d e name u Filling rules tmp scratch at = tmp.now ∙ at ∙ sym scratch
at_on d e name u Synced rules tmp scratch at = file_on u.tmp d e u.rules tmp at
at_on d e name u Named rules tmp scratch at = file_on name d e u.rules rules at
at_on d e name u Done rules tmp scratch at = at

agree_on : (accepted : Accepted) (least : ℕ) (name : List ℕ) (d e : Directory) (phase : Option Phase) (under_way : Option UnderWay) → LeavesAlone name d e → LeavesScratch under_way d e → Agree accepted least name d phase under_way → Agree accepted least name e phase under_way
agree_on accepted least name d e None None rules scratch agree = agree
agree_on accepted least name d e None (Some u) rules scratch agree = agree
agree_on accepted least name d e (Some phase) None rules scratch agree = agree
agree_on accepted least name d e (Some phase) (Some u) rules scratch agree =
    proceeds_to accepted least name d e u phase phase agree (at_on d e name u phase rules scratch.0 scratch.1 agree.at)

outside_holds : (rules : Option RulesName) (accepted : Accepted) (least : ℕ) (d e : Directory) (phase : Option Phase) (under_way : Option UnderWay)
    → LeavesRules rules d e → LeavesScratch under_way d e → HoldsBy rules accepted least d phase under_way → HoldsBy rules accepted least e phase under_way
outside_holds None accepted least d e phase under_way alone scratch holds = holds
outside_holds (Some r) accepted least d e phase under_way alone scratch holds = record {
  lasts = lasts_on accepted least r.name d e alone holds.lasts;
  agree = agree_on accepted least r.name d e phase under_way alone scratch holds.agree;
}

good_outside : (w v : World) → Outside w v → Good w → Good v
good_outside w v out good =
    subst (λ (x : World). Good x) (sym out.moves)
    (outside_holds w.rules w.accepted w.acknowledged w.directory v.directory w.server.phase w.under_way out.rules_alone out.scratch_alone good)

good_run : {w v : World} {history : List Event} → Legal w history v → Good w → Good v
good_run none good = good
good_run (more {u} {v} {w} {event} {events} step rest) good = good_run rest (good_moves event u v step step.moves good)
good_run (beside {u} {v} out rest) good = good_run rest (good_outside u v out good)

-- ---- the start

start_holds : (rules : Option RulesName) (d : Directory) (texts : Accepted) → StartsWith d rules texts → HoldsBy rules texts 0 d None None
start_holds None d texts begins = (begins, refl)
start_holds (Some r) d texts begins = record { lasts = lasts; agree = tt }
  where
    lasts : Lasts texts 0 r.name d
    lasts names left =
        let one = begins.each names left in
        record { position = one.0; text = one.1; accepted_as = one.2; recent = omega arith; stands = one.3 }

good_start : (w : World) → IsStart w → Good w
good_start w is =
    let holds = start_holds w.rules w.directory w.accepted is.begins in
    let least = subst (λ (n : ℕ). HoldsBy w.rules w.accepted n w.directory None None) (sym is.acknowledged) holds in
    same_parts w.rules w.accepted w.acknowledged w.directory None w.server.phase None w.under_way (ap (λ s. s.phase) is.server) is.under_way least

pub good_reached : (history : List Event) (w : World) → Reaches history w → Good w
good_reached history w reaches = good_run reaches.legal (good_start reaches.begin reaches.starts)

-- ---- what is said of each world that is reached

-- One whole accepted text stands under the rules name, now and after a stop.
pub reached_whole : (history : List Event) (w : World) (r : RulesName) → Reaches history w → w.rules ≡ Some r → HasWholeText w r
reached_whole history w r reaches is =
    let good = good_reached history w reaches in
    record {
      now = lasts_accepted w r.name w.directory (good_rules w r is good).lasts;
      after_a_stop = λ image leaves. lasts_accepted w r.name image (left_lasts w r image is good leaves);
      missing = λ image leaves nothing. lasts_missing w.accepted w.acknowledged r.name image (left_lasts w r image is good leaves) nothing;
    }

-- With or without a rules name, what stands there is accepted.
pub reached_standing : (history : List Event) (w : World) → Reaches history w → IsAccepted w (standing w)
reached_standing history w reaches = by w.rules (good_reached history w reaches)
  where
    by : (rules : Option RulesName) → HoldsBy rules w.accepted w.acknowledged w.directory w.server.phase w.under_way → IsAccepted w (option_and_then (λ (r : RulesName). content w.directory r.name) rules)
    by None holds = record { number = 0; text = None; accepted = ap (λ (a : Accepted). slice_get a 0) holds.0; recent = omega (arith, holds.1); stands = refl }
    by (Some r) holds = lasts_accepted w r.name w.directory holds.lasts
