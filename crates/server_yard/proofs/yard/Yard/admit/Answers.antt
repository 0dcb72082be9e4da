-- What is refused was refused by `next_serial`.
use Rattle.std.proofs.Common.{◌≡◌, ◌≢◌, Result, Err}
use Rattle.std.specs.Prelude.{◌↔◌}
use Rattle.server_yard.proofs.yard.Yard.admit.Goals as goal

-- two calls, neither of which met this fault
neither : {X Y E P : Type 0} {fault : E} (first : Result X E) (then : Result Y E) → first ≢ Err fault → then ≢ Err fault → ((first ≡ Err fault) ↔ P) → (then ≡ Err fault) ↔ P
neither first then went_well goes_well same = (λ is. absurd (goes_well is), λ holds. absurd (went_well (same.1 holds)))

pub returns-in-Ok-clause-spent : goal.returns-in-Ok-clause-spent
returns-in-Ok-clause-spent g c = neither _ _ (λ is. cc) (λ is. cc) c.in_ok-serial.ensures.spent

pub returns-in-Ok-clause-full : goal.returns-in-Ok-clause-full
returns-in-Ok-clause-full g c = neither _ _ (λ is. cc) (λ is. cc) c.in_ok-serial.ensures.full

pub returns-in-Ok-clause-full_for_address : goal.returns-in-Ok-clause-full_for_address
returns-in-Ok-clause-full_for_address g c = neither _ _ (λ is. cc) (λ is. cc) c.in_ok-serial.ensures.full_for_address

pub returns-in-Err-clause-spent : goal.returns-in-Err-clause-spent
returns-in-Err-clause-spent g c = neither _ _ (λ is. cc) (λ is. cc) c.in_ok-serial.ensures.spent

pub returns-in-Err-clause-full : goal.returns-in-Err-clause-full
returns-in-Err-clause-full g c = neither _ _ (λ is. cc) (λ is. cc) c.in_ok-serial.ensures.full

pub returns-in-Err-clause-full_for_address : goal.returns-in-Err-clause-full_for_address
returns-in-Err-clause-full_for_address g c = neither _ _ (λ is. cc) (λ is. cc) c.in_ok-serial.ensures.full_for_address
