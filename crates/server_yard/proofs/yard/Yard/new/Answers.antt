use Rattle.server_events.specs.JournalParts.{has_room}
use Rattle.server_events.proofs.JournalRoom.{none_needed}
use Rattle.std.proofs.Common.{◌≡◌, ◌<◌, ◌^◌, ℕ, List, [], length, true, refl, sym, ap, subst, ◌∙◌}
use Rattle.std.specs.FinMap as map
use Rattle.std.specs.BTreeMap.{is_at}
use Rattle.std.specs.Map.{lookup}
use Rattle.std.specs.Ordering.{nat_cmp}
use Rattle.child_jobs.specs.PlacesOut.{PlacesOut, live_of}
use Rattle.server_events.specs.ServerState.{ServerState}
use Rattle.server_events.specs.declared.state.Connection.{Connection}
use Rattle.server_events.proofs.Countings.{retired_in}
use Rattle.server_yard.specs.Rooms.{room_needed}
use Rattle.server_yard.proofs.Histories.{has_history_same, none_yet}
use Rattle.server_yard.proofs.Running.{run_of_none}
use Rattle.server_yard.proofs.yard.Yard.new.Goals as goal

pub invariant_of-result : goal.invariant_of-result
invariant_of-result g c =
    let made = c.in_ok-table.ensures.made in
    let empty = c.new-2.ensures in
    let live = ap live_of made ∙ map.len-empty nat_cmp Unit in
    let none = ap (λ (u : ServerState). u.connections) empty in
    let begun = has_history_same refl refl refl empty ∣ ([], none_yet _ c.args.limit c.args.per_address c.requires.journal.tells c.requires.journal.stores) ∣₁ in
    record {
      history = begun;
      ran = λ serves. run_of_none _ _ begun c.requires.journal.tells.number;
      small = subst (λ (n : ℕ). n < 2 ^ 64) (sym (ap (λ (u : ServerState). u.limit) empty)) c.ranges.limit.fits;
      live = live ∙ sym (ap (λ (cs : List Connection). length cs) none);
      retired = ap (λ (x : PlacesOut). x.retired) made ∙ sym (ap retired_in none);
      limit = ap (λ (x : PlacesOut). x.limit) made ∙ sym (ap (λ (u : ServerState). u.limit) empty);
      seated = record {
        up_to_last = λ i n is. absurd (let gone = ap (λ es. lookup (is_at (nat_cmp i)) es) c.new-3.ensures.empty in cc);
        is_out = λ i n p is its. absurd (let gone = ap (λ es. lookup (is_at (nat_cmp i)) es) c.new-3.ensures.empty in cc);
      };
      room = subst (λ (n : ℕ). has_room c.args.journal n ≡ true) (sym (ap room_needed none)) (none_needed c.args.journal);
    }
