-- What a turn makes of the number of events, after its caller spoke: one more or none; and of the shares.
use Rattle.std.proofs.Common.{◌≡◌, ◌<◌, ◌+◌, ◌-◌, ◌^◌, ℕ, ap, arith, inl, inr, ◌∙◌}
use Rattle.server_events.specs.Journals.{one_more}
use Rattle.server_events.specs.declared.event.Event.{Event}
use Rattle.server_yard.specs.Rolls.{IsQuiet, Notes, Roll}
use Rattle.whole_yard.specs.Callers.{CountsAtMostOne, spoken_by}

-- an event that is noted is one more
pub next_counted : (who : ℕ) (event : Event) (old mid new : Roll)
    → mid ≡ spoken_by who old → Notes event mid new → new.books.count ≡ one_more old.books.count
next_counted who event old mid new speaks noted = noted.counts ∙ ap (λ (r : Roll). one_more r.books.count) speaks

pub one_counted : (who : ℕ) (event : Event) (old mid new : Roll)
    → mid ≡ spoken_by who old → Notes event mid new → CountsAtMostOne old.books.count new.books.count
one_counted who event old mid new speaks noted = inr (next_counted who event old mid new speaks noted)

-- to speak is none
pub none_counted : (who : ℕ) (old mid : Roll) → mid ≡ spoken_by who old → CountsAtMostOne old.books.count mid.books.count
none_counted who old mid speaks = inl (ap (λ (r : Roll). r.books.count) speaks)

-- and so is a call of which no event was noted
pub quiet_counted : (who : ℕ) (old mid new : Roll)
    → mid ≡ spoken_by who old → IsQuiet mid new → CountsAtMostOne old.books.count new.books.count
quiet_counted who old mid new speaks quiet = inl (quiet.counts ∙ ap (λ (r : Roll). r.books.count) speaks)

-- what all of them made is the number of events after a turn too
pub still_counted : (before total now n m : ℕ) → before + total ≡ n → CountsAtMostOne n m → n < 2 ^ 64 → now ≡ total + (m - n) → before + now ≡ m
still_counted before total now n m was (inl same) fits grows = omega (arith, was, same, grows)
still_counted before total now n m was (inr one) fits grows = omega (arith, was, one, fits, grows)

-- and a share has grown by as many
pub share_counted : (share now n m : ℕ) → CountsAtMostOne n m → n < 2 ^ 64 → now ≡ share + (m - n) → now + n ≡ share + m
share_counted share now n m (inl same) fits grows = omega (arith, same, grows)
share_counted share now n m (inr one) fits grows = omega (arith, one, fits, grows)
