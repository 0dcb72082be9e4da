-- What a call of a yard keeps and makes, after its caller spoke.
use Rattle.std.proofs.Common.{◌≡◌, ◌<◌, ◌-◌, ◌^◌, ◌==◌, ℕ, refl, ap, subst, sym, ◌∙◌}
use Rattle.std.specs.Prelude.{IfSome, None, Option, Result, Some, if◌then◌else◌, is_some, option_map}
use Rattle.server_events.specs.Journals.{one_more}
use Rattle.rules_install.specs.Installing.{Installing}
use Rattle.dir_calls.specs.declared.phase.Phase.{Phase}
use Rattle.rules_install.specs.declared.fault.InstallFault.{InstallFault}
use Rattle.server_events.specs.declared.event.Event.{Event}
use Rattle.server_yard.specs.Evidence.{IsLast, IsNoted}
use Rattle.server_yard.specs.Rolls.{Notes, NotesSome, Roll}
use Rattle.whole_yard.specs.Stepping.{event_of_step, step_event}
use Rattle.whole_yard.specs.WholeYards.{IsSameBesides, IsSameButDirectory, MayBegin, kept_under, last_begun, name_of, whole_roll, whole_rules, whole_state}
use Rattle.whole_yard.specs.declared.yard.WholeYard.{WholeYard}
use Rattle.whole_yard.specs.Receipts.{receipt_after, receipt_at, receipt_of}
use Rattle.server_yard.specs.declared.evidence.Made.{Made}
use Rattle.whole_yard.specs.Callers.{CountsAtMostOne, NotesBy, spoken_by}
use Rattle.whole_yard.proofs.Counts.{one_counted, quiet_counted}

-- who speaks is nothing that worlds see
pub spoken_state : {L D F : Type 0} {p : _} {q : _} {l : _} {d : _} (who : ℕ)
    (old mid : WholeYard L D F p q l d) → whole_roll mid ≡ spoken_by who (whole_roll old) → IsSameBesides old mid
    → whole_state mid ≡ whole_state old
spoken_state {l = l} who old mid speaks same =
    λ i. record { directory = l.state (same.directory i); rules = same.rules i; server = (speaks i).server; installing = same.installing i }

-- what a call keeps is as it was before its caller spoke
pub same_from : {L D F : Type 0} {p : _} {q : _} {l : _} {d : _} (old mid new : WholeYard L D F p q l d)
    → IsSameBesides old mid → IsSameButDirectory mid new → IsSameButDirectory old new
same_from old mid new spoken same = record {
  rules = same.rules ∙ spoken.rules;
  installing = same.installing ∙ spoken.installing;
  kept = same.kept ∙ spoken.kept;
  begun = same.begun ∙ spoken.begun;
  lists_same = same.lists_same ∙ spoken.lists_same;
}

-- an installation that may begin may still
pub may_begin_from : {L D F : Type 0} {p : _} {q : _} {l : _} {d : _} (y x : WholeYard L D F p q l d) (s : Installing)
    → whole_rules x ≡ whole_rules y → last_begun x ≡ last_begun y → MayBegin y s → MayBegin x s
may_begin_from y x s rules begun may = record {
  unbegun = may.unbegun;
  is_open = may.is_open;
  for_rules = ap name_of rules ∙ may.for_rules;
  numbers_left = subst (λ (n : ℕ). n < 2 ^ 64 - 1) (sym begun) may.numbers_left;
}

-- and the one that is kept is as far as it was
pub spoken_kept : {L D F : Type 0} {p : _} {q : _} {l : _} {d : _} (old mid : WholeYard L D F p q l d) (number : ℕ)
    → IsSameBesides old mid → kept_under mid number ≡ kept_under old number
spoken_kept old mid number same = λ i. if same.begun i == number then same.installing i else None

-- the receipt of an event is that of the one after those before
pub noted_receipt : (event : Option Event) (who : ℕ) (x y z : Roll)
    → y ≡ spoken_by who x → NotesSome event y z
    → option_map (receipt_at z.books.count z.speaker) event ≡ option_map (receipt_after x.books.count who) event
noted_receipt None who x y z speaks noted = refl
noted_receipt (Some e) who x y z speaks noted =
    (λ i. Some (receipt_at (noted.counts i) (noted.speaks i) e)) ∙ ap (λ (r : Roll). Some (receipt_after r.books.count r.speaker e)) speaks

-- a step is an event where the installation is under way
pub event_if : (kept : Option Installing) (answer : Result Phase InstallFault) → (if is_some kept then step_event answer else None) ≡ event_of_step kept answer
event_if None answer = refl
event_if (Some s) answer = refl

-- one event or none
pub some_counted : (who : ℕ) (event : Option Event) (old mid new : Roll)
    → mid ≡ spoken_by who old → NotesSome event mid new → CountsAtMostOne old.books.count new.books.count
some_counted who None old mid new speaks noted = quiet_counted who old mid new speaks noted
some_counted who (Some event) old mid new speaks noted = one_counted who event old mid new speaks noted

-- the event of a call is its caller's, who spoke before
pub noted_by : (who : ℕ) (event : Event) (old mid new : Roll) → mid ≡ spoken_by who old → Notes event mid new → NotesBy who event old new
noted_by who event old mid new speaks noted = subst (λ (r : Roll). Notes event r new) speaks noted

-- what its evidence says
pub answered : (who : ℕ) (event : Event) (made : Made) (old mid new : Roll) → mid ≡ spoken_by who old → IsNoted event made mid new
    → (receipt_of made ≡ receipt_after old.books.count who event) × (new.books.count ≡ one_more old.books.count)
answered who event made old mid new speaks noted =
    subst (λ (r : Roll). (receipt_of made ≡ receipt_after r.books.count r.speaker event) × (new.books.count ≡ one_more r.books.count)) speaks
    ((λ i. receipt_at ((noted.last ∙ noted.noted.counts) i) (noted.for_speaker i) (noted.its i)), noted.noted.counts)

-- the event of a call is the last one
pub last_of_some : (event : Option Event) (old new : Roll) → NotesSome event old new → IfSome event (λ (e : Event). IsLast e new)
last_of_some None old new noted = tt
last_of_some (Some event) old new noted = record { before = old; noted = noted }
