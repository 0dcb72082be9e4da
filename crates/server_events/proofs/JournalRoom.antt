-- The room of a journal for fewer events.
use Rattle.std.proofs.Common.{◌≡◌, ◌≤◌, ℕ, true, Option, None, Some, arith, refl}
use Rattle.std.proofs.lemmas.Bool.Decides.{nat_tests}
use Rattle.server_events.specs.JournalParts.{has_room, has_room_in}
use Rattle.server_events.specs.declared.journal.Journal.{Journal}
use Rattle.server_events.specs.declared.journal.Stored.{Stored}

none_needed_in : (stored : Option Stored) → has_room_in stored 0 ≡ true
none_needed_in None = refl
none_needed_in (Some stored) = grind (arith, nat_tests)

-- there is always room for no event
pub none_needed : (journal : Journal) → has_room journal 0 ≡ true
none_needed journal = none_needed_in journal.stored

less_room_in : (stored : Option Stored) (fewer events : ℕ) → fewer ≤ events → has_room_in stored events ≡ true
    → has_room_in stored fewer ≡ true
less_room_in None fewer events less room = refl
less_room_in (Some stored) fewer events less room = grind (arith, nat_tests)

-- if there is room for some events, there is room for fewer
pub less_room : (journal : Journal) (fewer events : ℕ) → fewer ≤ events → has_room journal events ≡ true
    → has_room journal fewer ≡ true
less_room journal fewer events less room = less_room_in journal.stored fewer events less room
