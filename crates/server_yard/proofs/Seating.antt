-- The seats of a yard, after an event.
use Rattle.std.proofs.Common.{◌≡◌, ℕ, ◌+◌, ◌-◌, ◌≤◌, [], ◌∷◌, ◌++◌, Bool, true, false, ◌==◌, cond, Option, None, Some, ⊎_elim, refl, sym, ap, subst, ◌∙◌, arith}
use Rattle.std.specs.Prelude.{if◌then◌else◌, is_some, option_map}
use Rattle.std.proofs.lemmas.Bool.Decides.{nat_tests}
use Rattle.std.specs.Cmp.{nat_cmp_total, unsigned_tied}
use Rattle.std.specs.FinMap as map
use Rattle.std.specs.Ordering.{eq_by_cmp, nat_cmp}
use Rattle.child_jobs.specs.PlacesOut.{PlacesOut, is_used, live_of, with_place, without_place}
use Rattle.rule_lookup.specs.Peers.{Client}
use Rattle.server_events.specs.declared.event.Event.TheVariants.{Admitted}
use Rattle.server_events.specs.declared.event.Stage.{Stage}
use Rattle.server_events.specs.ServerState.{ServerState, after, newcomer, stage_of, without, peer_of}
use Rattle.server_events.proofs.Peers.{peer_of-push_other, peer_of-without_other, stage_of-peer_of}
use Rattle.server_yard.specs.Seating.{GivesSeat, HasSeats, KeepsSeats, KeepsSerials, LosesOne}
use Rattle.server_yard.specs.Rolls.{serial_at}
use Rattle.server_yard.proofs.Histories.{Distinct, nothing}
use Rattle.server_yard.proofs.Peopled.{NobodyMoves}

-- nobody comes or goes
pub seats_stay : (seat : ℕ → Option ℕ) (table : PlacesOut) (s s' : ServerState) → NobodyMoves s s' → HasSeats seat table s → HasSeats seat table s'
seats_stay seat table s s' stays has = record {
  up_to_last = λ index serial is. subst (λ (k : ℕ). serial ≤ k) (sym stays.last) (has.up_to_last index serial is);
  is_out = λ index serial peer is its. has.is_out index serial peer is (sym (stays.peers serial) ∙ its);
}

-- other seats that tell the same
pub seats_same : (seat seat' : ℕ → Option ℕ) (table table' : PlacesOut) (s : ServerState) → KeepsSeats seat seat' → table'.places ≡ table.places
    → HasSeats seat table s → HasSeats seat' table' s
seats_same seat seat' table table' s same places has = record {
  up_to_last = λ index serial is. has.up_to_last index serial (sym (same index) ∙ is);
  is_out = λ index serial peer is its. ap (λ p. map.contains_key p index) places ∙ has.is_out index serial peer (sym (same index) ∙ is) its;
}

some_number : (x y : ℕ) → ◌≡◌ {A = Option ℕ} (Some x) (Some y) → x ≡ y
some_number x y e = cc

-- what is in use with one place more, and with one place less
used-with : (table : PlacesOut) (index j : ℕ) (b : Bool) → (j == index) ≡ b → is_used (with_place index table) j ≡ is_some (cond b (Some tt) (map.get table.places j))
used-with table index j b is =
    ap is_some (map.get-insert nat_cmp_total table.places index tt j) ∙ ap (λ (c : Bool). is_some (cond c (Some tt) (map.get table.places j))) (unsigned_tied j index ∙ is)

used-without : (table : PlacesOut) (index j : ℕ) (b : Bool) → (j == index) ≡ b → is_used (without_place index table) j ≡ is_some (cond b None (map.get table.places j))
used-without table index j b is =
    ap is_some (map.get-remove nat_cmp_total table.places index j) ∙ ap (λ (c : Bool). is_some (cond c None (map.get table.places j))) (unsigned_tied j index ∙ is)

-- how many places are out with one place more, and with one place less
pub live-with : (table : PlacesOut) (index : ℕ) → is_used table index ≡ false → live_of (with_place index table) ≡ live_of table + 1
live-with table index vacant = map.len-insert nat_cmp_total table.places index tt ∙ ap (λ (b : Bool). cond b (live_of table) (live_of table + 1)) vacant

pub live-without : (table : PlacesOut) (index : ℕ) → is_used table index ≡ true → live_of (without_place index table) ≡ live_of table - 1
live-without table index used = map.len-remove nat_cmp_total table.places index ∙ ap (λ (b : Bool). cond b (live_of table - 1) (live_of table)) used

-- one comes, and is given a seat at a place
pub seats_come : (seat seat' : ℕ → Option ℕ) (table : PlacesOut) (s : ServerState) (n index : ℕ) (peer : Client) → n ≡ s.last + 1
    → GivesSeat index n seat seat' → HasSeats seat table s → HasSeats seat' (with_place index table) (after s (Admitted n peer))
seats_come seat seat' table s n index peer next gives has = record {
  up_to_last = λ j m is. go_last j m (j == index) refl (sym (gives j) ∙ is);
  is_out = λ j m p is its. go_peer j m p (j == index) refl (sym (gives j) ∙ is) its;
}
  where
    go_last : (j m : ℕ) (b : Bool) → (j == index) ≡ b → (if (j == index) then Some n else seat j) ≡ Some m → m ≤ n
    go_last j m true here is = let same = some_number n m (ap (λ (c : Bool). if c then Some n else seat j) (sym here) ∙ is) in omega arith
    go_last j m false other is = let below = has.up_to_last j m (ap (λ (c : Bool). if c then Some n else seat j) (sym other) ∙ is) in omega arith

    go_peer : (j m : ℕ) (p : Client) (b : Bool) → (j == index) ≡ b → (if (j == index) then Some n else seat j) ≡ Some m
        → peer_of m (s.connections ++ newcomer n peer ∷ []) ≡ Some p → is_used (with_place index table) j ≡ true
    go_peer j m p true here is its = used-with table index j true here
    go_peer j m p false other is its =
        let had = ap (λ (c : Bool). if c then Some n else seat j) (sym other) ∙ is in
        let below = has.up_to_last j m had in
        let differ : (n == m) ≡ false = grind (arith, nat_tests, below, next) in
        let before = sym (peer_of-push_other m s.connections (newcomer n peer) differ) ∙ its in
        used-with table index j false other ∙ has.is_out j m p had before

-- one goes, and its place is free
pub seats_go : (seat : ℕ → Option ℕ) (table : PlacesOut) (s : ServerState) (n index : ℕ) → Distinct s → seat index ≡ Some n
    → HasSeats seat table s → HasSeats seat (without_place index table) (record s { connections = without n s.connections })
seats_go seat table s n index apart own has = record {
  up_to_last = has.up_to_last;
  is_out = λ j m p is its. go j m p (n == m) refl is its;
}
  where
    go : (j m : ℕ) (p : Client) (b : Bool) → (n == m) ≡ b → seat j ≡ Some m → peer_of m (without n s.connections) ≡ Some p
        → is_used (without_place index table) j ≡ true
    go j m p true same is its =
        let it : n ≡ m = grind (arith, nat_tests, same) in
        let there = ap is_some (ap (λ (k : ℕ). peer_of k (without n s.connections)) it ∙ its) in
        absurd (let none = apart.gone_peer n in cc)
    go j m p false other is its =
        let differs : (j == index) ≡ false = not_it j m other is in
        used-without table index j false differs
        ∙ has.is_out j m p is (sym (peer_of-without_other m n s.connections other) ∙ its)
      where
        not_it : (j m : ℕ) → (n == m) ≡ false → seat j ≡ Some m → (j == index) ≡ false
        not_it j m other is = elim (j == index) as (λ b. (j == index) ≡ b → b ≡ false) [
          | true ↦ λ here.
              let at : j ≡ index = grind (arith, nat_tests, here) in
              let same = some_number n m (sym own ∙ ap seat (sym at) ∙ is) in
              let yes : (n == m) ≡ true = grind (arith, nat_tests, same) in
              cc
          | false ↦ λ away. refl
        ] refl

-- a seat that nobody has is lost
pub seats_lost : (seat seat' : ℕ → Option ℕ) (table : PlacesOut) (s : ServerState) → LosesOne table seat seat' → HasSeats seat table s
    → HasSeats seat' table s
seats_lost seat seat' table s loses has = record {
  up_to_last = λ j m is. has.up_to_last j m (had j m is);
  is_out = λ j m p is its. has.is_out j m p (had j m is) its;
}
  where
    had : (j m : ℕ) → seat' j ≡ Some m → seat j ≡ Some m
    had j m is = ⊎_elim (λ same. sym same ∙ is) (λ none. absurd (let gone = none.0 in cc)) (loses j)

-- and so each seat tells the same connection, or none as before
pub serials_kept : (seat seat' : ℕ → Option ℕ) (table : PlacesOut) (s : ServerState) → LosesOne table seat seat' → HasSeats seat table s
    → KeepsSerials s seat seat'
serials_kept seat seat' table s loses has j = ⊎_elim (λ same. ap (λ (o : Option ℕ). serial_at o s) same) (λ none. ap (λ (o : Option ℕ). serial_at o s) none.0 ∙ sym (nobody (seat j) refl none.1)) (loses j)
  where
    by_stage : (m : ℕ) (o : Option Stage) → seat j ≡ Some m → stage_of m s.connections ≡ o → is_used table j ≡ false
        → option_map (λ (t : Stage). m) o ≡ None
    by_stage m None is at unused = refl
    by_stage m (Some t) is at unused =
        let its = stage_of-peer_of m t s.connections at in
        let placed = has.is_out j m its.0 is its.1 in
        absurd (cc)

    nobody : (o : Option ℕ) → seat j ≡ o → is_used table j ≡ false → serial_at o s ≡ None
    nobody None is unused = refl
    nobody (Some m) is unused = by_stage m (stage_of m s.connections) is refl unused

-- a place that was given and taken back
pub place_back : (table : PlacesOut) (index : ℕ) → is_used table index ≡ false → without_place index (with_place index table) ≡ table
place_back table index vacant = ap (λ p. record table { places = p }) (map.same_map nat_cmp_total map.nat_cmp-IsAntisymmetric _ _ each)
  where
    none : map.get table.places index ≡ None
    none = nothing (map.get table.places index) vacant

    by : (j : ℕ) (b : Bool) → (j == index) ≡ b → cond b None (cond b (Some tt) (map.get table.places j)) ≡ map.get table.places j
    by j true here = (let at : j ≡ index = grind (arith, nat_tests, here) in sym none ∙ ap (λ (k : ℕ). map.get table.places k) (sym at))
    by j false other = refl

    each : (j : ℕ) → map.get (map.remove (map.insert table.places index tt) index) j ≡ map.get table.places j
    each j =
        map.get-remove nat_cmp_total (map.insert table.places index tt) index j
        ∙ ap (λ (o : Option Unit). cond (eq_by_cmp nat_cmp j index) None o) (map.get-insert nat_cmp_total table.places index tt j)
        ∙ ap (λ (b : Bool). cond b None (cond b (Some tt) (map.get table.places j))) (unsigned_tied j index)
        ∙ by j (j == index) refl

-- a place that was given is in use
pub used_placed : (table : PlacesOut) (index : ℕ) → is_used (with_place index table) index ≡ true
used_placed table index = used-with table index index true (grind (arith, nat_tests))
