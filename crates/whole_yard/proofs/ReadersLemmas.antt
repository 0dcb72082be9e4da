-- What a reader finds under the rules name of a yard, from what its installations left.
use Rattle.std.proofs.Common.{◌≡◌, ◌≤◌, ◌<◌, ◌+◌, inl, inr, ℕ, zero, suc, true, false, cond, List, [], ◌∷◌, ◌++◌, length, map, refl, ap, subst, ◌∙◌, arith, length-append}
use Rattle.std.specs.Prelude.{◌⊎◌, Option, None, Some, IfSome, max, is_some, slice_get}
use Rattle.std.specs.FinMap.{get}
use Rattle.std.proofs.lemmas.List.{length_push}
use Rattle.std.proofs.lemmas.List.Sums.{sum_by-cons}
use mathlib.Core.Logic.{∥∥₁_map}
use Rattle.dir_calls.specs.Directory.{Directory}
use Rattle.dir_calls.specs.NameTable.{CanBeLeft, Names}
use Rattle.server_events.specs.Journals.{Books}
use Rattle.rule_lookup.specs.Pairs.{Rule}
use Rattle.dir_calls.specs.declared.phase.Phase.{Phase}
use Rattle.dir_calls.specs.declared.phase.Phase.TheVariants.{Fresh, Filling, Synced, Named, Done}
use Rattle.headline.specs.Headline.{Reaches}
use Rattle.server_events.specs.ServerState.{Effect, lets_in, opens, decides, brings, lets_go, comes_to, fails_at, ends_all, effect, Follows, done, is_installations, of_installations}
use Rattle.headline.specs.Steps.{Advances, Legal, MovesBy, Step, none, more, beside}
use Rattle.headline.specs.Worlds.{Accepted, RulesName, StandsAt, UnderWay, World}
use Rattle.server_events.specs.declared.event.Event.{Event}
use Rattle.server_events.specs.declared.event.Event.TheVariants.{Stepped}
use Rattle.headline.proofs.StandingTexts.{IsText}
use Rattle.server_events.proofs.Effects.{may_come_follows, step_is}
use Rattle.headline.proofs.WholeText.{Agree, good_reached, good_rules}
use Rattle.whole_yard.proofs.Installs.{reached_by}
use Rattle.whole_yard.specs.Installed.{KeepsHistory, installs_of}
use Rattle.whole_yard.specs.Readers.{IsAbsentOrCompiled, KeptYard, NamesCompiled, NamesStored, NamesStoredSinceDone, ReadersFind, begins_by, begun_in, is_first}
use Rattle.whole_yard.specs.Standing.{YardState}

-- ---- how many texts were accepted

-- one for each first step behind those of the start, and nothing is under way where there was none
record Counted (begun : ℕ) (w : World) (n : ℕ) : Type 0 where
  texts : length w.accepted ≡ n + begun
  idle : n ≡ 0 → w.under_way ≡ None

abbrev one_by : Effect → ℕ
one_by x = cond (begins_by x) 1 0

abbrev one_of : Event → ℕ
one_of event = one_by (effect event)

-- a step that accepts nothing, and begins nothing
counted_same : (m : ℕ) (w v : World) (n : ℕ) → v.accepted ≡ w.accepted → (w.under_way ≡ None → v.under_way ≡ None) → Counted m w n
    → Counted m v (n + 0)
counted_same m w v n same idle c =
    let texts : length v.accepted ≡ length w.accepted = ap (λ (a : Accepted). length a) same in
    let was = c.texts in
    record { texts = omega (arith, texts, was); idle = λ none. idle (c.idle (omega (arith, none))) }

counted_advance : (m : ℕ) (phase : Phase) (w v : World) (n : ℕ) → Advances phase w v → Counted m w n → Counted m v (n + one_of (Stepped phase))
counted_advance m Fresh w v n a c =
    let texts : length v.accepted ≡ length w.accepted + 1 = ap (λ (x : World). length x.accepted) a.6 ∙ length_push w.accepted (Some a.0) in
    let was = c.texts in
    record { texts = omega (arith, texts, was); idle = λ none. absurd (omega (arith, none)) }
counted_advance m Filling w v n a c = counted_same m w v n (ap (λ (x : World). x.accepted) a.2) (λ is. ap (λ (x : World). x.under_way) a.2 ∙ is) c
counted_advance m Synced w v n a c = counted_same m w v n (ap (λ (x : World). x.accepted) a.4) (λ is. ap (λ (x : World). x.under_way) a.4 ∙ is) c
counted_advance m Named w v n a c = counted_same m w v n (ap (λ (x : World). x.accepted) a.4) (λ is. ap (λ (x : World). x.under_way) a.4 ∙ is) c
counted_advance m Done w v n a c = counted_same m w v n (ap (λ (x : World). x.accepted) a.3) (λ is. ap (λ (x : World). x.under_way) a.3) c

counted_moves : (m : ℕ) (x : Effect) (w v : World) (n : ℕ) → MovesBy x w v → Counted m w n → Counted m v (n + one_by x)
counted_moves m (lets_in k peer) w v n a c = counted_same m w v n (ap (λ (x : World). x.accepted) a) (λ is. ap (λ (x : World). x.under_way) a ∙ is) c
counted_moves m (opens k there) w v n a c =
    counted_same m w v n (ap (λ (x : World). x.accepted) a.1) (λ is. ap (λ (x : World). x.under_way) a.1 ∙ is) c
counted_moves m (decides k decision) w v n a c =
    counted_same m w v n (ap (λ (x : World). x.accepted) a.5) (λ is. ap (λ (x : World). x.under_way) a.5 ∙ is) c
counted_moves m (brings k from to) w v n a c = counted_same m w v n (ap (λ (x : World). x.accepted) a) (λ is. ap (λ (x : World). x.under_way) a ∙ is) c
counted_moves m (lets_go k from) w v n a c =
    counted_same m w v n (ap (λ (x : World). x.accepted) a) (λ is. ap (λ (x : World). x.under_way) a ∙ is) c
counted_moves m (comes_to phase) w v n a c = counted_advance m phase w v n a c
counted_moves m (fails_at phase) w v n a c = counted_same m w v n (ap (λ (x : World). x.accepted) a.3) (λ is. ap (λ (x : World). x.under_way) a.3) c
counted_moves m ends_all w v n a c = counted_same m w v n (ap (λ (x : World). x.accepted) a.1) (λ is. ap (λ (x : World). x.under_way) a.1) c

begun-cons : (e : Event) (es : List Event) → begun_in (e ∷ es) ≡ one_of e + begun_in es
begun-cons e es = sum_by-cons (λ (x : Event). cond (is_first x) 1 0) e es

counted_run : {v w : World} {h : List Event} → (m n : ℕ) → Legal v h w → Counted m v n → Counted m w (n + begun_in h)
counted_run m n (none {w}) c =
    let same : n ≡ n + begun_in [] = omega arith in
    subst (λ (k : ℕ). Counted m w k) same c
counted_run m n (more {u} {v} {w} {event} {events} step rest) c =
    let first = begun-cons event events in
    let same : (n + one_of event) + begun_in events ≡ n + begun_in (event ∷ events) = omega (arith, first) in
    subst (λ (k : ℕ). Counted m w k) same (counted_run m (n + one_of event) rest (counted_moves m (effect event) u v n step.moves c))
counted_run m n (beside {u} {v} out rest) c = counted_run m n rest (record {
  texts = ap (λ (x : World). length x.accepted) out.moves ∙ c.texts;
  idle = λ none. ap (λ (x : World). x.under_way) out.moves ∙ c.idle none;
})

counted_reached : (h : List Event) (w : World) → (reaches : Reaches h w) → Counted (length reaches.begin.accepted) w (begun_in h)
counted_reached h w reaches =
    let m = length reaches.begin.accepted in
    let c = counted_run m 0 reaches.legal (record { texts = omega arith; idle = λ none. reaches.starts.under_way }) in
    let same : 0 + begun_in h ≡ begun_in h = omega arith in
    subst (λ (k : ℕ). Counted m w k) same c

-- ---- what was acknowledged stays

same_le : (w v : World) → v.acknowledged ≡ w.acknowledged → w.acknowledged ≤ v.acknowledged
same_le w v same = omega (arith, same)

rises_advance : (phase : Phase) (w v : World) → Advances phase w v → w.acknowledged ≤ v.acknowledged
rises_advance Fresh w v a = same_le w v (ap (λ (x : World). x.acknowledged) a.6)
rises_advance Filling w v a = same_le w v (ap (λ (x : World). x.acknowledged) a.2)
rises_advance Synced w v a = same_le w v (ap (λ (x : World). x.acknowledged) a.4)
rises_advance Named w v a = same_le w v (ap (λ (x : World). x.acknowledged) a.4)
rises_advance Done w v a = let is = ap (λ (x : World). x.acknowledged) a.3 in omega (arith, is)

rises_moves : (x : Effect) (w v : World) → MovesBy x w v → w.acknowledged ≤ v.acknowledged
rises_moves (lets_in m peer) w v a = same_le w v (ap (λ (x : World). x.acknowledged) a)
rises_moves (opens m there) w v a = same_le w v (ap (λ (x : World). x.acknowledged) a.1)
rises_moves (decides m decision) w v a = same_le w v (ap (λ (x : World). x.acknowledged) a.5)
rises_moves (brings m from to) w v a = same_le w v (ap (λ (x : World). x.acknowledged) a)
rises_moves (lets_go m from) w v a = same_le w v (ap (λ (x : World). x.acknowledged) a)
rises_moves (comes_to phase) w v a = rises_advance phase w v a
rises_moves (fails_at phase) w v a = same_le w v (ap (λ (x : World). x.acknowledged) a.3)
rises_moves ends_all w v a = same_le w v (ap (λ (x : World). x.acknowledged) a.1)

rises_run : {v w : World} {h : List Event} → Legal v h w → v.acknowledged ≤ w.acknowledged
rises_run (none {w}) = omega arith
rises_run (more {u} {v} {w} {event} {events} step rest) =
    let here = rises_moves (effect event) u v step.moves in
    let later = rises_run rest in
    omega (arith, here, later)
rises_run (beside {u} {v} out rest) =
    let same : v.acknowledged ≡ u.acknowledged = ap (λ (x : World). x.acknowledged) out.moves in
    let later = rises_run rest in
    omega (arith, same, later)

-- ---- the number of one that was done

-- a list of steps, up to one of them and from it on
record Parts (v w : World) (before : List Event) (e : Event) (later : List Event) : Type 0 where
  x : World
  y : World
  first : Legal v before x
  step : Step x e y
  rest : Legal y later w

no_event : (before : List Event) (e : Event) (later : List Event) → ◌≡◌ {A = List Event} [] (before ++ e ∷ later) → ⊥
no_event [] e later is = cc
no_event (b ∷ bs) e later is = cc

parts_of : {v w : World} {h : List Event} → Legal v h w → (before : List Event) (e : Event) (later : List Event) → h ≡ before ++ e ∷ later
    → Parts v w before e later
parts_of none before e later is = absurd (no_event before e later is)
parts_of (more {u} {v} {w} {event} {events} step rest) [] e later is =
    let same : event ≡ e = cc in
    let others : events ≡ later = cc in
    record {
      x = u;
      y = v;
      first = none;
      step = subst (λ (f : Event). Step u f v) same step;
      rest = subst (λ (es : List Event). Legal v es w) others rest;
    }
parts_of (more {u} {v} {w} {event} {events} step rest) (b ∷ bs) e later is =
    let same : event ≡ b = cc in
    let others : events ≡ bs ++ e ∷ later = cc in
    let parts = parts_of rest bs e later others in
    record {
      x = parts.x;
      y = parts.y;
      first = more (subst (λ (f : Event). Step u f v) same step) parts.first;
      step = parts.step;
      rest = parts.rest;
    }
parts_of (beside out rest) before e later is =
    let parts = parts_of rest before e later is in
    record { x = parts.x; y = parts.y; first = beside out parts.first; step = parts.step; rest = parts.rest }

last_of : (accepted : Accepted) (least : ℕ) (name : List ℕ) (d : Directory) (phase : Option Phase) (u : UnderWay) → Follows phase Done
    → Agree accepted least name d phase (Some u) → u.number + 1 ≡ length accepted
last_of accepted least name d phase u done goes = goes.last

rules_there : (o : Option RulesName) → is_some o ≡ true → (r : RulesName) × (o ≡ Some r)
rules_there None there = absurd (cc)
rules_there (Some r) there = (r, refl)

-- it has the number of the first steps up to it, behind the texts of the start, and there is one
number_done : (h : List Event) (x y : World) → (reaches : Reaches h x) → Step x (Stepped Done) y
    → (begun_in h + length reaches.begin.accepted ≤ y.acknowledged + 1) × (0 < begun_in h)
number_done h x y reaches step =
    let moves = step.moves in
    let u = moves.0 in
    let named = rules_there x.rules moves.2 in
    let holds = good_rules x named.0 named.1 (good_reached h x reaches) in
    let agree = subst (λ (o : Option UnderWay). Agree x.accepted x.acknowledged named.0.name x.directory x.server.phase o) moves.1 holds.agree in
    let last = last_of x.accepted x.acknowledged named.0.name x.directory x.server.phase u (may_come_follows x.server.phase Done (step_is step.table).0) agree in
    let counted = counted_reached h x reaches in
    let texts = counted.texts in
    let raised : y.acknowledged ≡ max x.acknowledged u.number = ap (λ (z : World). z.acknowledged) moves.3 in
    (omega (arith, last, texts, raised), positive (begun_in h) counted)
  where
    positive : (n : ℕ) → Counted (length reaches.begin.accepted) x n → 0 < n
    positive zero c = let none_there = c.idle refl in let there = step.moves.1 in absurd (cc)
    positive (suc n) c = omega arith

done_number : (h : List Event) (w : World) → (reaches : Reaches h w) → (before later : List Event) → h ≡ before ++ Stepped Done ∷ later
    → (begun_in before + length reaches.begin.accepted ≤ w.acknowledged + 1) × (0 < begun_in before)
done_number h w reaches before later is =
    let parts = parts_of reaches.legal before (Stepped Done) later is in
    let at = number_done before parts.x parts.y (record { begin = reaches.begin; starts = reaches.starts; legal = parts.first }) parts.step in
    let here = at.0 in
    let on = rises_run parts.rest in
    (omega (arith, here, on), at.1)

-- ---- the installations of a history

other_first : (x : Effect) → of_installations x ≡ false → one_by x ≡ 0
other_first (lets_in n peer) other = refl
other_first (opens n there) other = refl
other_first (decides n decision) other = refl
other_first (brings n from to) other = refl
other_first (lets_go n from) other = refl
other_first (comes_to phase) other = absurd (cc)
other_first (fails_at phase) other = refl
other_first ends_all other = refl

begun-installs : (h : List Event) → begun_in (installs_of h) ≡ begun_in h
begun-installs [] = refl
begun-installs (x ∷ xs) =
    let rest = begun-installs xs in
    let all = begun-cons x xs in
    elim (is_installations x) as (λ b. is_installations x ≡ b → begun_in (cond b (x ∷ installs_of xs) (installs_of xs)) ≡ begun_in (x ∷ xs)) [
      | true ↦ λ one. (let some = begun-cons x (installs_of xs) in omega (arith, rest, all, some))
      | false ↦ λ other. (let zero_here = other_first (effect x) other in omega (arith, rest, all, zero_here))
    ] refl

installs-done : (before later : List Event) → installs_of (before ++ Stepped Done ∷ later) ≡ installs_of before ++ Stepped Done ∷ installs_of later
installs-done [] later = refl
installs-done (x ∷ xs) later =
    let rest = installs-done xs later in
    elim (is_installations x) as (λ b. cond b (x ∷ installs_of (xs ++ Stepped Done ∷ later)) (installs_of (xs ++ Stepped Done ∷ later)) ≡ cond b (x ∷ installs_of xs) (installs_of xs) ++ Stepped Done ∷ installs_of later) [
      | true ↦ ap (λ (es : List Event). x ∷ es) rest
      | false ↦ rest
    ]

-- ---- what stands there

length-texts : (lists : List (List Rule)) → length (map (λ (r : List Rule). Some r) lists) ≡ length lists
length-texts [] = refl
length-texts (x ∷ xs) = let rest = length-texts xs in omega (arith, rest)

-- a text behind the first is that of a stored list
stored_text : (lists : List (List Rule)) (position : ℕ) (text : Option (List Rule))
    → slice_get (map (λ (r : List Rule). Some r) lists) position ≡ Some text → (rules : List Rule) × (slice_get lists position ≡ Some rules)
    × (text ≡ Some rules)
stored_text [] position text is = absurd (cc)
stored_text (x ∷ xs) zero text is = let same : text ≡ Some x = cc in (x, refl, same)
stored_text (x ∷ xs) (suc position) text is = stored_text xs position text is

compiled_at : (d : Directory) (names : Names) (name : List ℕ) (rules : List Rule) → StandsAt d.files (Some rules) (get names name)
    → NamesCompiled d names name rules
compiled_at d names name rules stands =
    record { number = stands.0; file = stands.2.file; named = stands.1; synced = stands.2.there; compiled = stands.2.compiled }

absent_or : (d : Directory) (names : Names) (name : List ℕ) (text : Option (List Rule)) → StandsAt d.files text (get names name)
    → (get names name ≡ None) ⊎ ((rules : List Rule) × NamesCompiled d names name rules)
absent_or d names name None stands = inl stands
absent_or d names name (Some rules) stands = inr (rules, compiled_at d names name rules stands)

-- what stands behind the first of a list
behind : (first others : Accepted) (position : ℕ) (text : Option (List Rule)) → length first ≤ position
    → slice_get (first ++ others) position ≡ Some text → (k : ℕ) × (position ≡ k + length first) × (slice_get others k ≡ Some text)
behind [] others position text le is = (position, omega arith, is)
behind (x ∷ first) others zero text le is = absurd (omega (arith, le))
behind (x ∷ first) others (suc position) text le is =
    let rest = behind first others position text (omega (arith, le)) is in
    let same = rest.1 in
    (rest.0, omega (arith, same), rest.2)

stored_at : (first : Accepted) (lists : List (List Rule)) (least : ℕ) (d : Directory) (names : Names) (name : List ℕ) (position : ℕ) (text : Option (List Rule)) → 0 < least → least + length first ≤ position + 1 → slice_get (first ++ map (λ (r : List Rule). Some r) lists) position ≡ Some text → StandsAt d.files text (get names name)
    → NamesStored lists least d names name
stored_at first lists least d names name position text some recent is stands =
    let there = behind first (map (λ (r : List Rule). Some r) lists) position text (omega (arith, some, recent)) is in
    let same = there.1 in
    let found = stored_text lists there.0 text there.2 in
    record {
      position = there.0;
      rules = found.0;
      stored = found.1;
      recent = omega (arith, same, recent);
      there = compiled_at d names name found.0 (subst (λ (t : Option (List Rule)). StandsAt d.files t (get names name)) found.2 stands);
    }

module _ (k : KeptYard) where
  text_of : (names : Names) → CanBeLeft k.state.directory.names names
      → IsText k.kept.installed.world.accepted k.kept.installed.world.acknowledged k.state.directory.files (get names k.rules.name)
  text_of names left =
      let it = k.kept.installed in
      let holds = good_rules it.world k.rules (it.has_rules ∙ k.follows) (good_reached (installs_of k.kept.history) it.world (reached_by it)) in
      subst (λ (d : Directory). (ns : Names) → CanBeLeft d.names ns → IsText it.world.accepted it.world.acknowledged d.files (get ns k.rules.name)) it.has_directory holds.lasts names left

  pub always_whole : IsAbsentOrCompiled k.state.directory k.rules.name
  always_whole names left =
      let is = text_of names left in
      absent_or k.state.directory names k.rules.name is.text is.stands

  texts_are : (lists : List (List Rule)) → k.lists ≡ Some lists
      → k.kept.installed.world.accepted ≡ k.kept.installed.first.accepted ++ map (λ (r : List Rule). Some r) lists
  texts_are lists is =
      let it = k.kept.installed in
      subst (λ (o : Option (List (List Rule))). IfSome o (λ all. it.world.accepted ≡ it.first.accepted ++ map Some all)) is it.accepted

  pub since_done : (lists : List (List Rule)) → k.lists ≡ Some lists → NamesStoredSinceDone k.kept.history lists k.state.directory k.rules.name
  since_done lists is before later split names left =
      let it = k.kept.installed in
      let at = done_number (installs_of k.kept.history) it.world (reached_by it) (installs_of before) (installs_of later) (ap installs_of split ∙ installs-done before later) in
      let same = begun-installs before in
      let text = text_of names left in
      let recent = text.recent in
      let acknowledged = at.0 in
      let some = at.1 in
      let found = subst (λ (a : Accepted). slice_get a text.position ≡ Some text.text) (texts_are lists is) text.accepted_as in
      stored_at it.first.accepted lists (begun_in before) k.state.directory names k.rules.name text.position text.text (omega (arith, some, same)) (omega (arith, acknowledged, recent, same)) found text.stands

  pub one_each : (lists : List (List Rule)) → k.lists ≡ Some lists → length lists ≡ begun_in k.kept.history
  one_each lists is =
      let it = k.kept.installed in
      let counted = counted_reached (installs_of k.kept.history) it.world (reached_by it) in
      let texts = counted.texts in
      let same = begun-installs k.kept.history in
      let all = ap (λ (a : Accepted). length a) (texts_are lists is) ∙ length-append it.first.accepted (map (λ (r : List Rule). Some r) lists) in
      let lengths = length-texts lists in
      omega (arith, texts, same, all, lengths)

  pub readers_find : ReadersFind k.books k.lists k.state k.rules
  readers_find = record { history = k.kept.history; is_history = k.kept.is_history; always = always_whole; since_done = by k.lists refl }
    where
      by : (o : Option (List (List Rule))) → k.lists ≡ o
          → IfSome o (λ all. NamesStoredSinceDone k.kept.history all k.state.directory k.rules.name)
      by None is = tt
      by (Some lists) is = since_done lists is

-- the same of a yard whose assumptions were met, with or without a rules name
pub find_whole : (books : Books) (lists : Option (List (List Rule))) (y : YardState) → ∥ KeepsHistory books lists y ∥₁
    → IfSome y.rules (λ r. ∥ ReadersFind books lists y r ∥₁)
find_whole books lists y kept = by y.rules refl where
  by : (o : Option RulesName) → y.rules ≡ o → IfSome o (λ r. ∥ ReadersFind books lists y r ∥₁)
  by None is = tt
  by (Some r) is = ∥∥₁_map kept (λ k. readers_find (record { books = books; lists = lists; state = y; rules = r; follows = is; kept = k }))
