-- The lines of the event that it is, one after another.
use Rattle.std.proofs.Common.{◌≡◌, ◌++◌, Bor, List, [], ℕ, Option, refl}
use Rattle.child_jobs.specs.declared.local.Local.{Local}
use Rattle.fault_hints.specs.declared.voice.Voice.{Voice}
use Rattle.rule_lookup.specs.declared.instr.Verdict.{Verdict}
use Rattle.rule_lookup.specs.declared.peer.Peer.{Peer}
use Rattle.server_words.specs.declared.level.Level.{Level}
use Rattle.server_log.specs.declared.cause.Cause.{Cause}
use Rattle.server_log.specs.Lines.{end_lines, event_lines, progress, status_lines, verdict_text}
use Rattle.server_log.specs.declared.lines.Told.{Told}
use Rattle.server_log.proofs.LogLemmas.{holds_as}
use Rattle.server_log.proofs.lines.Lines.add_event.Goals as goal

pub returns-in-Admitted : goal.returns-in-Admitted
returns-in-Admitted c = λ none.
    rw c.in-Admitted.is (holds_as (status_lines c.args.to.level c.args.to.limit c.args.live) _ _ (rw c.pid_line.ensures refl) (c.add.ensures _ (c.add_status.ensures [] none)))

pub returns-in-Decided : goal.returns-in-Decided
returns-in-Decided c = λ none.
    let verdict = progress c.args.to.level (verdict_text c.in-Decided.verdict c.in-Decided.serial c.in-Decided.local.now c.in-Decided.peer.now) in
    rw c.in-Decided.is (c.add_cause.ensures _ (holds_as [] _ verdict (rw c.verdict_line-line.ensures refl) (c.add-in-Decided.ensures [] none)))

pub returns-in-Started : goal.returns-in-Started
returns-in-Started c = λ none. rw c.in-Started.is (c.add_runs.ensures [] none)

-- each other event is an end
is_end : (level : Level) (voice : Voice) (limit live : ℕ) (told : Told)
    → ((serial : ℕ) → (ip : List ℕ) → told ≡ Told.Admitted serial ip → ⊥)
    → ((serial : ℕ) → (verdict : Verdict) → (local : Bor Local) → (peer : Bor Peer) → (file : Option Cause) → told ≡ Told.Decided serial verdict local peer file → ⊥)
    → ((serial : ℕ) → (process : Option ℕ) → told ≡ Told.Started serial process → ⊥)
    → end_lines level voice told ++ status_lines level limit live ≡ event_lines level voice limit live told
is_end level voice limit live (Told.Admitted serial ip) admitted decided started = absurd (admitted serial ip refl)
is_end level voice limit live (Told.Decided serial verdict local peer file) admitted decided started = absurd (decided serial verdict local peer file refl)
is_end level voice limit live (Told.Started serial process) admitted decided started = absurd (started serial process refl)
is_end level voice limit live (Told.StartFailed serial fault cause) admitted decided started = refl
is_end level voice limit live (Told.Ended serial status signal) admitted decided started = refl
is_end level voice limit live (Told.Retired serial) admitted decided started = refl
is_end level voice limit live (Told.Dropped serial cause file why) admitted decided started = refl

pub returns-in_default : goal.returns-in_default
returns-in_default c = λ none.
    let other = c.in_default in
    holds_as [] _ _ (is_end _ _ _ _ c.args.told other.not-Admitted other.not-Decided other.not-Started) (c.add_status-in_default.ensures _ (c.add_end.ensures none))
