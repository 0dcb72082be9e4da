-- What a table of places holds.
use Rattle.std.specs.Prelude.{◌≡◌, ◌<◌, ℕ, Bool, refl}
use Rattle.std.specs.Ordering.{nat_cmp}
use Rattle.std.specs.FinMap as map
use Rattle.child_jobs.specs.declared.table.TableFault.{TableFault}
use Rattle.child_jobs.specs.declared.table.TableFault.TheVariants.{ZeroLimit, OutOfMemory}
use Rattle.std.specs.Coded.{Coded, code_by, coded×, coded_ℕ}
use base.Stored.{coded_unit}

-- indices, each with nothing more to tell
abbrev pub PlacesInUse : Type 0
PlacesInUse = map.FinMap nat_cmp Unit

-- the limit, how many places are retired, and the indices in use; the place of a retired child stays in use
pub record PlacesOut : Type 0 where
  pub limit : ℕ
  pub retired : ℕ
  pub places : PlacesInUse

abbrev pub places_out_code : Coded PlacesOut
places_out_code =
    code_by (ℕ × (ℕ × PlacesInUse)) (coded× coded_ℕ (coded× coded_ℕ (map.code coded_ℕ coded_unit)))
    (λ s. (s.limit, (s.retired, s.places)))
    (λ p. record { limit = p.0; retired = p.1.0; places = p.1.1 })
    (λ _. refl)

-- a table with no place out
abbrev pub none_out : ℕ → PlacesOut
none_out limit = record { limit = limit; retired = 0; places = map.empty }

-- how many places are out, retired ones too
abbrev pub live_of : PlacesOut → ℕ
live_of out = map.len out.places

-- whether an index is in use
abbrev pub is_used : PlacesOut → ℕ → Bool
is_used out index = map.contains_key out.places index

-- a table with one place more, and with one place less
abbrev pub with_place : ℕ → PlacesOut → PlacesOut
with_place index out = record out { places = map.insert out.places index tt }

abbrev pub without_place : ℕ → PlacesOut → PlacesOut
without_place index out = record out { places = map.remove out.places index }

-- why a limit is refused: it is 0; want of memory only if it is not
abbrev pub RefusesLimits : ℕ → TableFault → Type 0
RefusesLimits limit ZeroLimit = limit ≡ 0
RefusesLimits limit OutOfMemory = 0 < limit
