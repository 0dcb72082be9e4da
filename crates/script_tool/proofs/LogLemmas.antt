-- A log, line by line.
use Rattle.std.proofs.Common.{◌≡◌, ℕ, ◌+◌, ◌<◌, ◌≤◌, Bool, true, false, cond, List, [], ◌∷◌, ◌++◌, length, flat_map, Option, Some, None, IfSome, ◌⊎◌, inl, inr, refl, sym, ap, subst, ◌∙◌, arith}
use Rattle.std.specs.Prelude.{Result, Err, count_by}
use Rattle.std.specs.Io.BufRead.{take_through, drop_through, strip_last, DropsThrough}
use Rattle.std.specs.Io.KnownBytes.{Appends, IsAtEnd}
use Rattle.std.proofs.lemmas.Grind.{flat_map-append}
use Rattle.std.proofs.lemmas.List.{append-nil, append_assoc}
use Rattle.std.proofs.lemmas.List.Sums.{sum_by-append, sum_by-cons}
use Rattle.rule_lookup.specs.Lines.{Line, lines_of}
use Rattle.script_words.specs.declared.fault.SimFault.{SimFault}
use Rattle.script_words.specs.declared.fault.SimFault.TheVariants.{ReadFault, OutOfMemory}
use Rattle.script_tool.specs.declared.verdicts.Sums.{Sums}
use Rattle.script_tool.specs.Judging.{Judges, with_line, with_verdict}
use Rattle.script_tool.specs.Logs.{is_changed, is_told, is_told_changed, is_unread, line_printed, log_printed, printed_by, sums_of, sums_text}
use Rattle.script_tool.specs.Sim.{Run, Prints, PrintsFront}
use Rattle.script_words.specs.LogLines.{Reading, Other, Unread, Tells, reading}
use Rattle.script_tool.proofs.RunLemmas.{Appends-more, Appends-none, IsFront, Prints-after, first_line, front_of}

-- ---- the sums

count-more : (test : Line → Bool) (lines : List Line) (line : Line) → count_by test (lines ++ line ∷ []) ≡ count_by test lines + cond (test line) 1 0
count-more test lines line =
    let one : count_by test (line ∷ []) ≡ cond (test line) 1 0 = omega (arith, sum_by-cons (λ (l : Line). cond (test l) 1 0) line []) in
    omega (arith, sum_by-append (λ (l : Line). cond (test l) 1 0) lines (line ∷ []), one)

sums-are : (a b : Sums) → a.told ≡ b.told → a.changed ≡ b.changed → a.unread ≡ b.unread → a ≡ b
sums-are a b told changed unread = λ i. record { told = told i; changed = changed i; unread = unread i }

-- what a line adds to each of them
with_line-told : (text : Option (List ℕ)) (r : Reading) (sums : Sums) → (with_line text r sums).told ≡ sums.told + cond (is_told r) 1 0
with_line-told text Other sums = omega arith
with_line-told text Unread sums = omega arith
with_line-told text (Tells told) sums = by_change (is_changed text told) where
  by_change : (b : Bool) → (with_verdict b sums).told ≡ sums.told + 1
  by_change true = refl
  by_change false = refl

with_line-changed : (text : Option (List ℕ)) (r : Reading) (sums : Sums) → (with_line text r sums).changed ≡ sums.changed + cond (is_told_changed text r) 1 0
with_line-changed text Other sums = omega arith
with_line-changed text Unread sums = omega arith
with_line-changed text (Tells told) sums = by_change (is_changed text told) where
  by_change : (b : Bool) → (with_verdict b sums).changed ≡ sums.changed + cond b 1 0
  by_change true = refl
  by_change false = omega arith

with_line-unread : (text : Option (List ℕ)) (r : Reading) (sums : Sums) → (with_line text r sums).unread ≡ sums.unread + cond (is_unread r) 1 0
with_line-unread text Other sums = omega arith
with_line-unread text Unread sums = refl
with_line-unread text (Tells told) sums = by_change (is_changed text told) where
  by_change : (b : Bool) → (with_verdict b sums).unread ≡ sums.unread + 0
  by_change true = omega arith
  by_change false = omega arith

one_at_most : (b : Bool) → cond b 1 0 ≤ 1
one_at_most true = omega arith
one_at_most false = omega arith

-- the sums are at most as many as lines
pub record AreAtMost (sums : Sums) (n : ℕ) : Type 0 where
  pub told : sums.told ≤ n
  pub changed : sums.changed ≤ n
  pub unread : sums.unread ≤ n

pub AreAtMost-line : (text : Option (List ℕ)) (r : Reading) (sums now : Sums) (n : ℕ) → AreAtMost sums n → now ≡ with_line text r sums → AreAtMost now (n + 1)
AreAtMost-line text r sums now n most is =
    subst (λ (s : Sums). AreAtMost s (n + 1)) (sym is) (record {
      told = omega (arith, with_line-told text r sums, one_at_most (is_told r), most.told);
      changed = omega (arith, with_line-changed text r sums, one_at_most (is_told_changed text r), most.changed);
      unread = omega (arith, with_line-unread text r sums, one_at_most (is_unread r), most.unread);
    })

sums-more : (text : Option (List ℕ)) (lines : List Line) (line : Line) → with_line text (reading line.bytes) (sums_of text lines) ≡ sums_of text (lines ++ line ∷ [])
sums-more text lines line =
    let r = reading line.bytes in
    let sums = sums_of text lines in
    sums-are (with_line text r sums) (sums_of text (lines ++ line ∷ []))
    (with_line-told text r sums ∙ sym (count-more (λ (l : Line). is_told (reading l.bytes)) lines line))
    (with_line-changed text r sums ∙ sym (count-more (λ (l : Line). is_told_changed text (reading l.bytes)) lines line))
    (with_line-unread text r sums ∙ sym (count-more (λ (l : Line). is_unread (reading l.bytes)) lines line))

-- a line that was judged, which is this one
pub judged_as : (text : Option (List ℕ)) (line named : List ℕ) (sums now : Sums) (out : List ℕ) → line ≡ named → Judges text (reading line) sums now out → Judges text (reading named) sums now out
judged_as text line named sums now out same = subst (λ (l : List ℕ). Judges text (reading l) sums now out) same

-- ---- the run

abbrev pub log_run : Option (List ℕ) → List ℕ → Run
log_run text log = record { output = log_printed text (lines_of log); bad = None }

-- the lines so far: what they print was written, and the sums are theirs
pub record LogSoFar (text before now rest : Option (List ℕ)) (log : List ℕ) (sums : Sums) : Type 0 where
  pub passed : List Line
  pub left : List ℕ
  pub remains : rest ≡ Some left
  pub lines : passed ++ lines_of left ≡ lines_of log
  pub written : Appends before now (flat_map (printed_by text) passed)
  pub are : sums ≡ sums_of text passed

pub log_from_start : (text before rest : Option (List ℕ)) (sums : Sums) → sums.told ≡ 0 → sums.changed ≡ 0 → sums.unread ≡ 0 → IfSome rest (λ log. LogSoFar text before before rest log sums)
log_from_start text before None sums told changed unread = tt
log_from_start text before (Some log) sums told changed unread = record {
  passed = [];
  left = log;
  remains = refl;
  lines = refl;
  written = Appends-none before;
  are = sums-are sums (sums_of text []) told changed unread;
}

-- a line more
module _ (text before now rest : Option (List ℕ)) (log : List ℕ) (sums : Sums) (so_far : LogSoFar text before now rest log sums) where
  one_more : (line : List ℕ) (f : IsFront so_far.left line) (later rest_later : Option (List ℕ)) (sums_later : Sums) (out : List ℕ) → Judges text (reading (strip_last 10 line)) sums sums_later out → rest_later ≡ Some (drop_through 10 (f.x ∷ f.xs)) → Appends now later out → LogSoFar text before later rest_later log sums_later
  one_more line f later rest_later sums_later out judged remains wrote =
      let first = first_line f.x f.xs in
      let this : Line = record { bytes = strip_last 10 (take_through 10 (f.x ∷ f.xs)); ended = first.ended } in
      let rest_lines = lines_of (drop_through 10 (f.x ∷ f.xs)) in
      let read : reading (strip_last 10 line) ≡ reading this.bytes = ap (λ (l : List ℕ). reading (strip_last 10 l)) f.line_is in
      let prints : out ≡ printed_by text this = judged.prints ∙ ap (line_printed text) read in
      record {
        passed = so_far.passed ++ this ∷ [];
        left = drop_through 10 (f.x ∷ f.xs);
        remains = remains;
        lines =
            append_assoc so_far.passed (this ∷ []) rest_lines ∙ ap (λ (lines : List Line). so_far.passed ++ lines) (sym first.lines)
            ∙ ap (λ (l : List ℕ). so_far.passed ++ lines_of l) (sym f.left_is) ∙ so_far.lines;
        written =
            subst (Appends before later)
            (ap (λ (o : List ℕ). flat_map (printed_by text) so_far.passed ++ o) (prints ∙ sym (append-nil (printed_by text this))) ∙ sym (flat_map-append (printed_by text) so_far.passed (this ∷ [])))
            (Appends-more before now later (flat_map (printed_by text) so_far.passed) out so_far.written wrote);
        are =
            judged.sums ∙ ap (λ (r : Reading). with_line text r sums) read ∙ ap (with_line text (reading this.bytes)) so_far.are
            ∙ sums-more text so_far.passed this;
      }

  -- what was written is a front of what the log prints
  pub log_front : PrintsFront before now (log_run text log)
  log_front =
      let rest_lines = lines_of so_far.left in
      let sums_line = sums_text (sums_of text (lines_of log)) in
      record {
        front = flat_map (printed_by text) so_far.passed;
        rest = flat_map (printed_by text) rest_lines ++ sums_line;
        written = so_far.written;
        all =
            ap (λ (lines : List Line). flat_map (printed_by text) lines ++ sums_line) (sym so_far.lines)
            ∙ ap (λ (out : List ℕ). out ++ sums_line) (flat_map-append (printed_by text) so_far.passed rest_lines)
            ∙ append_assoc (flat_map (printed_by text) so_far.passed) (flat_map (printed_by text) rest_lines) sums_line;
      }

  -- at the end there are the sums left
  log_ends : (later : Option (List ℕ)) (result : Result (Unit {0}) SimFault) → IsAtEnd rest → Prints now later (record { output = sums_text sums; bad = None }) result → Prints before later (log_run text log) result
  log_ends later result over prints =
      let none : so_far.left ≡ [] = rw so_far.remains at over in
      let all : so_far.passed ≡ lines_of log = sym (append-nil so_far.passed) ∙ ap (λ (l : List ℕ). so_far.passed ++ lines_of l) (sym none) ∙ so_far.lines in
      let whole : flat_map (printed_by text) so_far.passed ++ sums_text sums ≡ log_printed text (lines_of log) =
      ap (λ (s : Sums). flat_map (printed_by text) so_far.passed ++ sums_text s) so_far.are ∙ ap (log_printed text) all in
      subst (λ (out : List ℕ). Prints before later (record { output = out; bad = None }) result) whole
      (Prints-after before now later (flat_map (printed_by text) so_far.passed) (record { output = sums_text sums; bad = None }) result so_far.written prints)

module _ (text before now rest : Option (List ℕ)) (sums : Sums) where
  pub log_at_fault : (script : Option (List ℕ)) (end : SimFault) → (end ≡ ReadFault) ⊎ (end ≡ OutOfMemory) → IfSome script (λ log. LogSoFar text before now rest log sums) → IfSome script (λ log. Prints before now (log_run text log) (Err end))
  log_at_fault None end is so_far = tt
  log_at_fault (Some log) end (inl is) so_far =
      subst (λ e. Prints before now (log_run text log) (Err e)) (sym is) (log_front text before now rest log sums so_far)
  log_at_fault (Some log) end (inr is) so_far =
      subst (λ e. Prints before now (log_run text log) (Err e)) (sym is) (log_front text before now rest log sums so_far)

  pub log_at_end : (script later : Option (List ℕ)) (result : Result (Unit {0}) SimFault) → IsAtEnd rest → Prints now later (record { output = sums_text sums; bad = None }) result → IfSome script (λ log. LogSoFar text before now rest log sums) → IfSome script (λ log. Prints before later (log_run text log) result)
  log_at_end None later result over prints so_far = tt
  log_at_end (Some log) later result over prints so_far =
      log_ends text before now rest log sums so_far later result over prints

  pub log_at_line : (line cleared : List ℕ) → cleared ≡ [] → IfSome rest (λ xs. line ≡ cleared ++ take_through 10 xs) → 0 < length line → (script later rest_later : Option (List ℕ)) (sums_later : Sums) (out : List ℕ) → Judges text (reading (strip_last 10 line)) sums sums_later out → DropsThrough rest rest_later 10 → Appends now later out → IfSome script (λ log. LogSoFar text before now rest log sums) → IfSome script (λ log. LogSoFar text before later rest_later log sums_later)
  log_at_line line cleared none read some None later rest_later sums_later out judged drops wrote so_far = tt
  log_at_line line cleared none read some (Some log) later rest_later sums_later out judged drops wrote so_far =
      let f = front_of so_far.left line ((rw so_far.remains at read) ∙ ap (λ (c : List ℕ). c ++ take_through 10 so_far.left) none) some in
      one_more text before now rest log sums so_far line f later rest_later sums_later out judged (rw so_far.remains at drops ∙ ap (λ (l : List ℕ). Some (drop_through 10 l)) f.left_is) wrote
