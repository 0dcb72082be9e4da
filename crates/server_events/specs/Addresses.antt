-- How many connections are counted at an address.
use Rattle.std.specs.Prelude.{◌≡◌, ◌+◌, ℕ, List, None, bytes_eq, if◌then◌else◌}
use Rattle.std.specs.BTreeMap.{get}
use Rattle.std.specs.Cmp.Lexicographic.{slice_cmp}
use Rattle.std.specs.Map.{count_at}
use Rattle.std.specs.Ordering.{nat_cmp}
use Rattle.server_events.specs.declared.addresses.AddressCounts.{AddressCounts}

-- the number at an address, or 0
abbrev pub count_of : AddressCounts → List ℕ → ℕ
count_of c q = count_at (get (slice_cmp nat_cmp) c.counts) q

-- one more is counted at an address, and as many as before at any other
abbrev pub CountsOneMore : List ℕ → AddressCounts → AddressCounts → Type 0
CountsOneMore ip old new = (q : List ℕ) → count_of new q ≡ count_of old q + (if bytes_eq ip q then 1 else 0)

-- nothing is kept for an address
abbrev pub IsForgotten : AddressCounts → List ℕ → Type 0
IsForgotten c q = get (slice_cmp nat_cmp) c.counts q ≡ None
