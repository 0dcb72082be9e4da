-- The evidence of an event that was noted.
use Rattle.std.proofs.Common.{◌≡◌, ◌∙◌, subst, sym}
use Rattle.server_events.specs.declared.event.Event.{Event}
use Rattle.server_yard.specs.Evidence.{IsLast, IsNoted, made_at, made_by, made_event}
use Rattle.server_yard.specs.Rolls.{Notes, Roll}
use Rattle.server_yard.specs.declared.evidence.Made.{Made}

-- the event was noted last
pub last_of : (event shown : Event) (old new : Roll) → Notes event old new → shown ≡ event → IsLast shown new
last_of event shown old new noted same = record { before = old; noted = subst (λ (e : Event). Notes e old new) (sym same) noted }

-- and this is its evidence
pub noted_by : (event shown : Event) (made : Made) (old new : Roll) → Notes event old new → shown ≡ event
    → made_event made ≡ shown → made_by made ≡ new.speaker → made_at made ≡ new.books.count → IsNoted event made old new
noted_by event shown made old new noted same its who at = record {
  its = its ∙ same;
  for_speaker = who ∙ noted.speaks;
  last = at;
  noted = noted;
}
