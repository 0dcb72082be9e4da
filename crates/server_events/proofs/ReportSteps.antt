-- The report of a history with one event more.
use Rattle.std.proofs.Common.{◌≡◌, ℕ, zero, suc, ◌+◌, ◌-◌, ◌<◌, ◌≤◌, ◌^◌, List, [], ◌∷◌, ◌++◌, length, take, true, false, cond, refl, sym, ap, subst, ◌∙◌, arith, take_all, length-append}
use Rattle.std.specs.Prelude.{max, is_some, if◌then◌else◌}
use Rattle.std.specs.List.{count_by}
use Rattle.std.proofs.lemmas.List.{take-append-le}
use Rattle.std.proofs.Math.Seq.{take-append_seam}
use Rattle.std.proofs.lemmas.List.Sums.{count_by-le-length}
use Rattle.rule_lookup.specs.Peers.{Client}
use Rattle.server_events.specs.declared.event.Event.{Event}
use Rattle.server_events.specs.declared.event.Event.TheVariants.{Admitted}
use Rattle.server_events.specs.declared.report.Report.{Report}
use Rattle.server_events.specs.declared.state.Connection.{Connection}
use Rattle.server_events.specs.Live.{admission_by, retired_of}
use Rattle.server_events.specs.Reports.{report_of, most_of, is_admission}
use Rattle.server_events.specs.ServerState.{ServerState, start, is_legal, state_after, after, is_retired, Effect, lets_in, opens, decides, brings, lets_go, comes_to, fails_at, ends_all, effect}
use Rattle.server_events.proofs.Effects.{IsEventOf, its_event}
use Rattle.server_events.proofs.History.{is_legal-snoc, is_legal-take, state_after-snoc, last_after, last_state_after, room_for}
use Rattle.server_events.proofs.LiveLemmas.{live_len, live_count, retired_count, most_up_to, most_next}
use Rattle.server_events.proofs.Limits.{limit_world_after, within}
use Rattle.server_events.specs.Journals.{Books, FitsBy, GoesOn, next_report, one_more, report_with}
use Rattle.server_events.proofs.Countings.{retired_in, next_live, next_retired, moves, weight}

-- two reports with the same numbers
reports : (a b : Report) → a.admitted ≡ b.admitted → a.live ≡ b.live → a.retired ≡ b.retired → a.most ≡ b.most → a ≡ b
reports a b admitted live retired most =
    ap (λ (x : ℕ). record a { admitted = x }) admitted
    ∙ ap (λ (x : ℕ). record { admitted = b.admitted; live = x; retired = a.retired; most = a.most }) live
    ∙ ap (λ (x : ℕ). record { admitted = b.admitted; live = b.live; retired = x; most = a.most }) retired
    ∙ ap (λ (x : ℕ). record { admitted = b.admitted; live = b.live; retired = b.retired; most = x }) most

-- the most that were alive up to a position within the first of two lists
most_first : (n : ℕ) (h more : List Event) → n ≤ length h → most_up_to n (h ++ more) ≡ most_up_to n h
most_first zero h more le = refl
most_first (suc n) h more le =
    let next : suc n ≡ n + 1 = omega arith in
    ap (λ (k : ℕ). most_up_to k (h ++ more)) next
    ∙ most_next n (h ++ more)
    ∙ ap (λ (k : ℕ). max k (most_up_to n (h ++ more))) (ap live_len (take-append-le (n + 1) h more (omega arith)))
    ∙ ap (max (live_len (take (n + 1) h))) (most_first n h more (omega arith))
    ∙ sym (most_next n h)
    ∙ sym (ap (λ (k : ℕ). most_up_to k h) next)

-- those alive at a position are at most the most up to there
live_most : (n : ℕ) (h : List Event) → live_len (take n h) ≤ most_up_to n h
live_most zero h = omega arith
live_most (suc n) h =
    let next : suc n ≡ n + 1 = omega arith in
    let more = ap (λ (k : ℕ). most_up_to k h) next ∙ most_next n h in
    let same = ap (λ (k : ℕ). live_len (take k h)) next in
    omega arith

-- what a history tells with one event more, by what it told before
record Next (limit : ℕ) (h : List Event) (e : Event) (x : Effect) : Type 0 where
  admitted : count_by is_admission (h ++ e ∷ []) ≡ cond (is_some (admission_by x)) 1 0 + count_by is_admission h
  live : live_len (h ++ e ∷ []) ≡ next_live (live_len h) x
  retired : length (retired_of (h ++ e ∷ [])) ≡ next_retired (length (retired_of h)) x
  most : most_of (h ++ e ∷ []) ≡ max (live_len (h ++ e ∷ [])) (most_of h)
  number : length (h ++ e ∷ []) ≡ length h + 1
  before : live_len h ≤ most_of h
  within : live_len (h ++ e ∷ []) ≤ limit
  some : length (retired_of (h ++ e ∷ [])) ≤ live_len (h ++ e ∷ [])

next : (limit per_address : ℕ) (h : List Event) (e : Event) → is_legal (start limit per_address) (h ++ e ∷ []) ≡ true → Next limit h e (effect e)
next limit per_address h e legal =
    let w = start limit per_address in
    let all = h ++ e ∷ [] in
    let legal_before : is_legal w h ≡ true = sym (ap (is_legal w) (take-append_seam h (e ∷ []))) ∙ is_legal-take w all (length h) legal in
    let may = sym (is_legal-snoc w h e legal_before) ∙ legal in
    let there = state_after w h in
    let after_it = state_after-snoc w h e in
    let moved = moves there e may in
    let last_all = last_state_after w all legal in
    let last_here = ap (λ (u : ServerState). u.last) after_it in
    let last_step = last_after there e may in
    let last_before = last_state_after w h legal_before in
    let more : length all ≡ length h + 1 = length-append h (e ∷ []) in
    let whole : take (length h + 1) all ≡ all = take_all (length h + 1) all (omega arith) in
    let live_all = live_count limit per_address all legal ∙ ap (λ (u : ServerState). length u.connections) after_it in
    let retired_all = retired_count limit per_address all legal ∙ ap (λ (u : ServerState). retired_in u.connections) after_it in
    let few = count_by-le-length (λ (c : Connection). is_retired c.stage) (after there e).connections in
    let kept = within w all (record { all = omega arith; each = λ ip. omega arith }) legal in
    record {
      admitted = omega arith;
      live = live_all ∙ moved.live ∙ ap (λ (k : ℕ). next_live k (effect e)) (sym (live_count limit per_address h legal_before));
      retired = retired_all ∙ moved.retired ∙ ap (λ (k : ℕ). next_retired k (effect e)) (sym (retired_count limit per_address h legal_before));
      most =
          ap (λ (k : ℕ). most_up_to k all) more
          ∙ most_next (length h) all
          ∙ ap (λ (k : ℕ). max k (most_up_to (length h) all)) (ap live_len whole)
          ∙ ap (max (live_len all)) (most_first (length h) h (e ∷ []) (omega arith));
      number = more;
      before = (let here = live_most (length h) h in let same = ap live_len (take_all (length h) h (omega arith)) in omega arith);
      within = (let same = live_count limit per_address all legal in let limits = limit_world_after w all in let held = kept.all in omega arith);
      some = omega arith;
    }

-- the serial of a connection that is let in is one above the number of those before it
admitted_serial : (limit per_address : ℕ) (h : List Event) (n : ℕ) (peer : Client)
    → is_legal (start limit per_address) (h ++ Admitted n peer ∷ []) ≡ true → n ≡ count_by is_admission h + 1
admitted_serial limit per_address h n peer legal =
    let w = start limit per_address in
    let legal_before : is_legal w h ≡ true = sym (ap (is_legal w) (take-append_seam h (Admitted n peer ∷ []))) ∙ is_legal-take w (h ++ Admitted n peer ∷ []) (length h) legal in
    let may = sym (is_legal-snoc w h (Admitted n peer) legal_before) ∙ legal in
    let room = room_for (state_after w h) n peer may in
    let first = room.next in
    let last = last_state_after w h legal_before in
    omega arith

-- by an event that changes no number
unchanged : (h : List Event) (e : Event) → count_by is_admission (h ++ e ∷ []) ≡ 0 + count_by is_admission h
    → live_len (h ++ e ∷ []) ≡ live_len h → length (retired_of (h ++ e ∷ [])) ≡ length (retired_of h)
    → most_of (h ++ e ∷ []) ≡ max (live_len (h ++ e ∷ [])) (most_of h) → live_len h ≤ most_of h → report_of h ≡ report_of (h ++ e ∷ [])
unchanged h e a l r m b = reports _ _ (omega arith) (sym l) (sym r) (omega arith)

-- by an event that ends a connection
fewer : (h : List Event) (e : Event) → count_by is_admission (h ++ e ∷ []) ≡ 0 + count_by is_admission h
    → live_len (h ++ e ∷ []) ≡ live_len h - 1 → length (retired_of (h ++ e ∷ [])) ≡ length (retired_of h)
    → most_of (h ++ e ∷ []) ≡ max (live_len (h ++ e ∷ [])) (most_of h) → live_len h ≤ most_of h
    → record (report_of h) { live = live_len h - 1 } ≡ report_of (h ++ e ∷ [])
fewer h e a l r m b = reports _ _ (omega arith) (sym l) (sym r) (omega arith)

-- the report of a history, by an event more
same_report : (limit per_address : ℕ) (h : List Event) (e : Event) (x : Effect) → IsEventOf x e → limit < 2 ^ 64 → FitsBy x
    → is_legal (start limit per_address) (h ++ e ∷ []) ≡ true → Next limit h e x → report_with (report_of h) x ≡ report_of (h ++ e ∷ [])
same_report limit per_address h e (lets_in n peer) is small fits legal found =
    let serial = admitted_serial limit per_address h n peer (subst (λ (a : Event). is_legal (start limit per_address) (h ++ a ∷ []) ≡ true) is legal) in
    let a = found.admitted in let l = found.live in let w = found.within in let m = found.most in
    let live : one_more (live_len h) ≡ live_len (h ++ e ∷ []) = omega arith in
    reports _ _ (omega arith) live (sym found.retired) (ap (λ (k : ℕ). max k (most_of h)) live ∙ sym m)
same_report limit per_address h e (opens n there) is small fits legal found = unchanged h e found.admitted found.live found.retired found.most found.before
same_report limit per_address h e (decides n decision) is small fits legal found = unchanged h e found.admitted found.live found.retired found.most found.before
same_report limit per_address h e (brings n from to) is small fits legal found =
    let a = found.admitted in let l = found.live in let r = found.retired in let m = found.most in let b = found.before in
    let w = found.within in let s = found.some in
    elim (is_retired to) as (λ b. is_retired to ≡ b → (if b then record (report_of h) { retired = one_more (length (retired_of h)) } else report_of h) ≡ report_of (h ++ e ∷ [])) [
      | true ↦ λ last.
          let one : weight to ≡ 1 = ap (λ b. cond b 1 0) last in
          reports _ _ (omega arith) (sym l) (omega arith) (omega arith)
      | false ↦ λ stays.
          let none : weight to ≡ 0 = ap (λ b. cond b 1 0) stays in
          unchanged h e a l (omega (arith, r, none)) m b
    ] refl
same_report limit per_address h e (lets_go n from) is small fits legal found = fewer h e found.admitted found.live found.retired found.most found.before
same_report limit per_address h e (comes_to phase) is small fits legal found = unchanged h e found.admitted found.live found.retired found.most found.before
same_report limit per_address h e (fails_at phase) is small fits legal found = unchanged h e found.admitted found.live found.retired found.most found.before
same_report limit per_address h e ends_all is small fits legal found =
    let a = found.admitted in let l = found.live in let r = found.retired in let m = found.most in
    reports _ _ (omega arith) (sym l) (sym r) (omega arith)

-- the report and the number go on by an event
pub goes_on : (books books' : Books) (e : Event) → books'.report ≡ next_report books.report e → books'.count ≡ one_more books.count
    → GoesOn books e books'
goes_on books books' e report count limit per_address h small fits tells legal =
    let found = next limit per_address h e legal in
    let n = found.number in
    let m = tells.number in
    record {
      report = report ∙ ap (λ (r : Report). next_report r e) tells.report ∙ same_report limit per_address h e (effect e) (its_event e) small fits legal found;
      number = omega (arith, count, n, m);
    }
