-- Who is alive, and the connections of the state.
use Rattle.std.proofs.Common.{◌≡◌, ℕ, ◌+◌, ◌<◌, ◌≤◌, List, [], ◌∷◌, ◌++◌, length, Bool, true, false, ◌&&◌, ◌==◌, not, cond, Option, Some, None, refl, sym, ap, subst, ◌∙◌, arith, take, map, bytes_eq, append_assoc, append-nil}
use Rattle.std.specs.Prelude.{if◌then◌else◌, max}
use Rattle.std.specs.List.{AllByRecursion, count_by, filter, list_any, range_with_len}
use Rattle.std.proofs.lemmas.Bool.Decides.{nat_tests}
use Rattle.std.proofs.lemmas.List.FromFn.{map-range_with_len_more}
use Rattle.std.proofs.lemmas.List.Recursion.{is_count_by}
use Rattle.rule_lookup.specs.Peers.{Client}
use Rattle.dir_calls.specs.declared.phase.Phase.{Phase}
use Rattle.server_events.specs.declared.event.Stage.{Stage}
use Rattle.server_events.specs.declared.event.Stage.TheVariants as stage
use Rattle.server_events.specs.declared.event.Event.{Event}
use Rattle.server_events.specs.declared.event.Event.TheVariants.{Admitted, Stop}
use Rattle.server_events.specs.declared.state.Connection.{Connection}
use Rattle.server_events.specs.Live.{Life, is_stop, stops_by, since_stop, admission, admission_by, live_of, retired_of, life_of, lives_of}
use Rattle.server_events.specs.Reports.{greatest}
use Rattle.server_events.specs.ServerState.{ServerState, start, stage_of, with_stage, without, count_from, is_retired, may_happen, after, phase_after, is_legal, state_after, newcomer, Effect, lets_in, opens, decides, brings, lets_go, comes_to, fails_at, ends_all, effect, may_have, with_effect, ends, retires}
use Rattle.server_events.proofs.Alive.{alive, alive-kept, alive-ended, alive-admitted}
use Rattle.server_events.proofs.Effects.{IsEventOf, Sound, before_retired, ends_as, ends_by, is_admitted-true, is_opened-true, its_event, rank, retires_as, retires_by, sound}
use Rattle.server_events.proofs.Marks.{Marked, marked_after, marked-push, marked-without, marked-with_stage, marked-retired, marked-count}
use Rattle.server_events.proofs.History.{and_true, room_for}
use Rattle.server_events.proofs.ListLemmas.{after_last-push, list_any-push, greatest-push, or_false}
use Rattle.server_events.proofs.Serials.{Rise, Rise-push, Rise-with_stage, Rise-without, stage_of-le, lives_of-without}

pub lives_of-append : (cs ds : List Connection) → lives_of (cs ++ ds) ≡ lives_of cs ++ lives_of ds
lives_of-append [] ds = refl
lives_of-append (c ∷ cs) ds = ap (λ (xs : List Life). life_of c ∷ xs) (lives_of-append cs ds)

pub lives_of-with_stage : (n : ℕ) (s : Stage) (cs : List Connection) → lives_of (with_stage n s cs) ≡ lives_of cs
lives_of-with_stage n s [] = refl
lives_of-with_stage n s (c ∷ cs) =
    elim (c.serial == n) as (λ b. lives_of (if b then ((record c { stage = s }) ∷ cs) else (c ∷ with_stage n s cs)) ≡ lives_of (c ∷ cs)) [
      | true ↦ refl
      | false ↦ ap (λ (xs : List Life). life_of c ∷ xs) (lives_of-with_stage n s cs)
    ]

-- no event has ended or retired a serial above the last
abbrev pub Unused : List Event → ℕ → Type 0
Unused es last = (n : ℕ) → last < n → (list_any (ends n) es ≡ false) × (list_any (retires n) es ≡ false)

pub unused-push : (es : List Event) (e : Event) (last : ℕ) → Unused es last → ((n : ℕ) → last < n → (ends n e ≡ false) × (retires n e ≡ false)) → Unused (es ++ e ∷ []) last
unused-push es e last h none n l =
    let before = h n l in
    let now = none n l in (
      list_any-push (ends n) es e ∙ or_false (list_any (ends n) es) (ends n e) before.0 now.0,
      list_any-push (retires n) es e ∙ or_false (list_any (retires n) es) (retires n e) before.1 now.1,
    )

-- what the events since a stop tell of the state that they lead to
pub record Tells (es : List Event) (w : ServerState) : Type 0 where
  pub lives : alive es ≡ lives_of w.connections
  pub marks : AllByRecursion (Marked es) w.connections
  pub unused : Unused es w.last
  pub rise : Rise 0 w.connections w.last

-- another stage, neither from nor to retirement
pub tells_stage : (es : List Event) (w : ServerState) (e : Event) (n : ℕ) (s t : Stage) → is_retired s ≡ false → is_retired t ≡ false → stage_of n w.connections ≡ Some t → ((m : ℕ) → ends m e ≡ false) → ((m : ℕ) → retires m e ≡ false) → admission e ≡ None → Tells es w → Tells (es ++ e ∷ []) (record w { connections = with_stage n s w.connections })
tells_stage es w e n s t p q at none never lets_none h = record {
  lives = alive-kept es e none lets_none ∙ h.lives ∙ sym (lives_of-with_stage n s w.connections);
  marks = marked_after es e never (with_stage n s w.connections) (marked-with_stage es n s t w.connections p q at h.marks);
  unused = unused-push es e w.last h.unused (λ m l. (none m, never m));
  rise = Rise-with_stage n s 0 w.connections w.last h.rise;
}

-- a connection goes
pub tells_gone : (es : List Event) (w : ServerState) (e : Event) (n : ℕ) (t : Stage) → stage_of n w.connections ≡ Some t → ((m : ℕ) → ends m e ≡ (m == n)) → ((m : ℕ) → retires m e ≡ false) → admission e ≡ None → Tells es w → Tells (es ++ e ∷ []) (record w { connections = without n w.connections })
tells_gone es w e n t at one never lets_none h =
    let le : n ≤ w.last = stage_of-le n t 0 w.connections w.last h.rise at in
    let other : (m : ℕ) → w.last < m → (m == n) ≡ false = (λ m l. grind (arith, nat_tests, l, le)) in
    record {
      lives =
          alive-ended es e n one lets_none
          ∙ ap (filter (λ (x : Life). not (x.serial == n))) h.lives
          ∙ sym (lives_of-without n 0 w.connections w.last h.rise);
      marks = marked_after es e never (without n w.connections) (marked-without es n w.connections h.marks);
      unused = unused-push es e w.last h.unused (λ m l. (one m ∙ other m l, never m));
      rise = Rise-without n 0 w.connections w.last h.rise;
    }

-- a connection is retired
pub tells_retired : (es : List Event) (w : ServerState) (e : Event) (n : ℕ) (to t : Stage) → is_retired to ≡ true → stage_of n w.connections ≡ Some t → ((m : ℕ) → ends m e ≡ false) → ((m : ℕ) → retires m e ≡ (m == n)) → admission e ≡ None → Tells es w → Tells (es ++ e ∷ []) (record w { connections = with_stage n to w.connections })
tells_retired es w e n to t last at none one lets_none h =
    let le : n ≤ w.last = stage_of-le n t 0 w.connections w.last h.rise at in
    let other : (m : ℕ) → w.last < m → (m == n) ≡ false = (λ m l. grind (arith, nat_tests, l, le)) in
    record {
      lives = alive-kept es e none lets_none ∙ h.lives ∙ sym (lives_of-with_stage n to w.connections);
      marks = marked-retired es e n one to last 0 w.connections w.last h.rise h.marks;
      unused = unused-push es e w.last h.unused (λ m l. (none m, one m ∙ other m l));
      rise = Rise-with_stage n to 0 w.connections w.last h.rise;
    }

-- a connection is brought to another stage, or retired
tells_brought : (es : List Event) (w : ServerState) (e : Event) (n : ℕ) (from : Option Stage → Bool) (to t : Stage) → effect e ≡ brings n from to → rank to ≡ rank t + 1 → stage_of n w.connections ≡ Some t → Tells es w → Tells (es ++ e ∷ []) (record w { connections = with_stage n to w.connections })
tells_brought es w e n from to t is next at h =
    elim (is_retired to) as (λ b. is_retired to ≡ b → Tells (es ++ e ∷ []) (record w { connections = with_stage n to w.connections })) [
      | true ↦ λ last.
          tells_retired es w e n to t last at (λ m. ends_as m e ∙ ap (ends_by m) is) (λ m. retires_as m e ∙ ap (retires_by m) is ∙ ap (λ b. b && (m == n)) last) (ap admission_by is) h
      | false ↦ λ stays.
          tells_stage es w e n to t stays (before_retired t to next) at (λ m. ends_as m e ∙ ap (ends_by m) is) (λ m. retires_as m e ∙ ap (retires_by m) is ∙ ap (λ b. b && (m == n)) stays) (ap admission_by is) h
    ] refl

pub tells_admitted : (es : List Event) (w : ServerState) (n : ℕ) (p : Client) → n ≡ w.last + 1 → Tells es w → Tells (es ++ Admitted n p ∷ []) (record w { last = n; connections = w.connections ++ newcomer n p ∷ [] })
tells_admitted es w n p next h =
    let new = newcomer n p in
    let e = Admitted n p in
    let below : w.last < n = omega arith in
    let unused : Unused es n = (λ m l. h.unused m (omega arith)) in
    let cs = w.connections ++ new ∷ [] in
    record {
      lives =
          alive-admitted es n p (h.unused n below).0
          ∙ ap (λ (xs : List Life). xs ++ life_of new ∷ []) h.lives
          ∙ sym (lives_of-append w.connections (new ∷ []));
      marks = marked_after es e (λ m. refl) cs (marked-push es w.connections new h.marks (sym (h.unused n below).1));
      unused = unused-push es e n unused (λ m l. (refl, refl));
      rise = Rise-push 0 w.connections w.last new h.rise below;
    }

-- an installation goes on or fails
pub tells_phase : (es : List Event) (w : ServerState) (e : Event) (phase : Option Phase) → ((m : ℕ) → ends m e ≡ false) → ((m : ℕ) → retires m e ≡ false) → admission e ≡ None → Tells es w → Tells (es ++ e ∷ []) (record w { phase = phase })
tells_phase es w e phase none never lets_none h = record {
  lives = alive-kept es e none lets_none ∙ h.lives;
  marks = marked_after es e never w.connections h.marks;
  unused = unused-push es e w.last h.unused (λ m l. (none m, never m));
  rise = h.rise;
}

-- after a stop no event tells of anyone
tells_stop : (w : ServerState) → Tells [] (after w Stop)
tells_stop w = record { lives = refl; marks = tt; unused = λ m l. (refl, refl); rise = omega arith }

-- one event more than those since a stop, by its effect
tells_by : (es : List Event) (w : ServerState) (e : Event) (x : Effect) → effect e ≡ x → IsEventOf x e → Sound x → may_have w x ≡ true → Tells es w → Tells (cond (stops_by x) [] (es ++ e ∷ [])) (with_effect w x)
tells_by es w e (lets_in n p) is its s m h =
    subst (λ (a : Event). Tells (es ++ a ∷ []) (with_effect w (lets_in n p))) (sym its) (tells_admitted es w n p (room_for w n p m).next h)
tells_by es w e (opens n t) is its s m h = tells_stage es w e n stage.Opened stage.Admitted refl refl (is_admitted-true _ m) (λ k. ends_as k e ∙ ap (ends_by k) is) (λ k. retires_as k e ∙ ap (retires_by k) is) (ap admission_by is) h
tells_by es w e (decides n d) is its s m h = tells_stage es w e n (stage.Decided d.verdict) stage.Opened refl refl (is_opened-true _ m) (λ k. ends_as k e ∙ ap (ends_by k) is) (λ k. retires_as k e ∙ ap (retires_by k) is) (ap admission_by is) h
tells_by es w e (brings n from to) is its s m h =
    let had = s.had _ m in
    tells_brought es w e n from to had.0 is had.2 had.1 h
tells_by es w e (lets_go n from) is its s m h =
    let had = s.had _ m in
    tells_gone es w e n had.0 had.1 (λ k. ends_as k e ∙ ap (ends_by k) is) (λ k. retires_as k e ∙ ap (retires_by k) is) (ap admission_by is) h
tells_by es w e (comes_to p) is its s m h = tells_phase es w e (phase_after p) (λ k. ends_as k e ∙ ap (ends_by k) is) (λ k. retires_as k e ∙ ap (retires_by k) is) (ap admission_by is) h
tells_by es w e (fails_at p) is its s m h = tells_phase es w e None (λ k. ends_as k e ∙ ap (ends_by k) is) (λ k. retires_as k e ∙ ap (retires_by k) is) (ap admission_by is) h
tells_by es w e ends_all is its s m h = tells_stop w

tells_next : (es : List Event) (w : ServerState) (e : Event) → may_happen w e ≡ true → Tells es w → Tells (cond (is_stop e) [] (es ++ e ∷ [])) (after w e)
tells_next es w e m h = tells_by es w e (effect e) refl (its_event e) (sound e) m h

-- one event more, that may happen
pub tells_after : (history : List Event) (w : ServerState) (e : Event) → may_happen w e ≡ true → Tells (since_stop history) w → Tells (since_stop (history ++ e ∷ [])) (after w e)
tells_after history w e m h =
    let es = since_stop history in
    let now : since_stop (history ++ e ∷ []) ≡ cond (is_stop e) [] (es ++ e ∷ []) = after_last-push is_stop history e in
    subst (λ (xs : List Event). Tells xs (after w e)) (sym now) (tells_next es w e m h)

-- after a legal history the events since the last stop tell of its state
pub tells_run : (history : List Event) (w : ServerState) (es : List Event) → is_legal w es ≡ true → Tells (since_stop history) w → Tells (since_stop (history ++ es)) (state_after w es)
tells_run history w [] legal h = subst (λ (xs : List Event). Tells (since_stop xs) w) (sym (append-nil history)) h
tells_run history w (e ∷ es) legal h =
    let p = and_true _ _ legal in
    let rest = tells_run (history ++ e ∷ []) (after w e) es p.1 (tells_after history w e p.0 h) in
    subst (λ (xs : List Event). Tells (since_stop xs) (state_after (after w e) es)) (append_assoc history (e ∷ []) es) rest

pub tells : (limit per_address : ℕ) (es : List Event) → is_legal (start limit per_address) es ≡ true → Tells (since_stop es) (state_after (start limit per_address) es)
tells limit per_address es legal =
    tells_run [] (start limit per_address) es legal (record { lives = refl; marks = tt; unused = λ m l. (refl, refl); rise = omega arith })

-- those alive are the connections of the state that the events lead to
pub live_run : (limit per_address : ℕ) (es : List Event) → is_legal (start limit per_address) es ≡ true → live_of es ≡ lives_of (state_after (start limit per_address) es).connections
live_run limit per_address es legal = (tells limit per_address es legal).lives

pub length-lives_of : (cs : List Connection) → length (lives_of cs) ≡ length cs
length-lives_of [] = refl
length-lives_of (c ∷ cs) = let rest = length-lives_of cs in omega arith

pub live_at-count_from : (ip : List ℕ) (cs : List Connection) → length (filter (λ (x : Life). bytes_eq x.peer.ip ip) (lives_of cs)) ≡ count_from ip cs
live_at-count_from ip cs =
    is_count_by (λ (ds : List Connection). length (filter (λ (x : Life). bytes_eq x.peer.ip ip) (lives_of ds))) (λ (c : Connection). bytes_eq c.peer.ip ip) refl
    (λ c ds. (elim (bytes_eq c.peer.ip ip) as (λ b. length (cond b (life_of c ∷ filter (λ (x : Life). bytes_eq x.peer.ip ip) (lives_of ds)) (filter (λ (x : Life). bytes_eq x.peer.ip ip) (lives_of ds))) ≡ cond b (1 + length (filter (λ (x : Life). bytes_eq x.peer.ip ip) (lives_of ds))) (length (filter (λ (x : Life). bytes_eq x.peer.ip ip) (lives_of ds)))) [ true ↦ omega arith | false ↦ refl ])) cs

-- how many are alive
abbrev pub live_len : List Event → ℕ
live_len history = length (live_of history)

pub live_count : (limit per_address : ℕ) (es : List Event) → is_legal (start limit per_address) es ≡ true → live_len es ≡ length (state_after (start limit per_address) es).connections
live_count limit per_address es h =
    ap (λ (xs : List Life). length xs) (live_run limit per_address es h) ∙ length-lives_of (state_after (start limit per_address) es).connections

pub retired_count : (limit per_address : ℕ) (es : List Event) → is_legal (start limit per_address) es ≡ true → length (retired_of es) ≡ count_by (λ (c : Connection). is_retired c.stage) (state_after (start limit per_address) es).connections
retired_count limit per_address es h =
    let w = state_after (start limit per_address) es in
    let told = tells limit per_address es h in
    ap (λ (xs : List Life). length (filter (λ (x : Life). list_any (retires x.serial) (since_stop es)) xs)) told.lives ∙ marked-count (since_stop es) w.connections told.marks

-- the most that were alive after the first events, up to n of them
abbrev pub most_up_to : ℕ → List Event → ℕ
most_up_to n history = greatest (map (λ (k : ℕ). live_len (take k history)) (range_with_len 0 (n + 1)))

pub most_next : (n : ℕ) (history : List Event) → most_up_to (n + 1) history ≡ max (live_len (take (n + 1) history)) (most_up_to n history)
most_next n history =
    let count = λ (k : ℕ). live_len (take k history) in
    ap greatest (map-range_with_len_more count 0 (n + 1) (n + 1) (omega arith)) ∙ greatest-push (map count (range_with_len 0 (n + 1))) (count (n + 1))
