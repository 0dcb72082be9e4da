-- What a turn of an installation answers, by the event that it was.
use Rattle.std.specs.Prelude.{◌≡◌, ℕ, Option, Some, None, IfSome, Result, option_map}
use Rattle.std.proofs.Common.{sym, ap, ◌∙◌}
use Rattle.std.proofs.lemmas.Option.{none-some, same_Some}
use Rattle.rules_install.specs.Installing.{Installing}
use Rattle.dir_calls.specs.declared.phase.Phase.{Phase}
use Rattle.rules_install.specs.declared.fault.InstallFault.{InstallFault}
use Rattle.server_events.specs.declared.event.Event.{Event}
use Rattle.server_yard.specs.Rolls.{NotesSome, Roll}
use Rattle.whole_yard.specs.Stepping.{event_of_step, step_event}
use Rattle.server_yard.specs.Evidence.{made_event}
use Rattle.whole_yard.specs.Receipts.{receipt_after, receipt_of}
use Rattle.whole_yard.specs.Callers.{spoken_by}
use Rattle.server_yard.specs.declared.evidence.Made.{Made}
use Rattle.whole_yard.specs.declared.receipt.Receipt.{Receipt}
use Rattle.whole_yard.specs.YardTurns.{CountsMade}

-- one more where it was an event, and else none
pub counts_made : (who n : ℕ) (made : Option Made) (event : Option Event) (old new : Roll)
    → option_map receipt_of made ≡ option_map (receipt_after n who) event → NotesSome event (spoken_by who old) new
    → CountsMade made old.books.count new.books.count
counts_made who n None None old new is noted = noted.counts
counts_made who n None (Some e) old new is noted = absurd (none-some (receipt_after n who e) is)
counts_made who n (Some m) None old new is noted = absurd (none-some (receipt_of m) (sym is))
counts_made who n (Some m) (Some e) old new is noted = noted.counts

-- the event that was made is the step's
names : (who n : ℕ) (made : Made) (event : Option Event) → Some (receipt_of made) ≡ option_map (receipt_after n who) event
    → (event ≡ Some (made_event made)) × (receipt_of made ≡ receipt_after n who (made_event made))
names who n made None is = absurd (none-some (receipt_of made) (sym is))
names who n made (Some e) is =
    let same : receipt_of made ≡ receipt_after n who e = same_Some (receipt_of made) (receipt_after n who e) is in
    let event : e ≡ made_event made = sym (ap (λ (r : Receipt). r.event) same) in
    (ap Some event, same ∙ ap (receipt_after n who) event)

pub step_made : (who n : ℕ) (kept : Option Installing) (answer : Result Phase InstallFault) (made : Option Made)
    → option_map receipt_of made ≡ option_map (receipt_after n who) (event_of_step kept answer)
    → IfSome made (λ (m : Made). (step_event answer ≡ Some (made_event m)) × (receipt_of m ≡ receipt_after n who (made_event m)))
step_made who n kept answer None is = tt
step_made who n None answer (Some m) is = absurd (none-some (receipt_of m) (sym is))
step_made who n (Some s) answer (Some m) is = names who n m (step_event answer) is
