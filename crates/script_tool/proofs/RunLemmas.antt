-- A run of `rulesim`, line by line.
use Rattle.std.proofs.Common.{◌≡◌, ℕ, suc, ◌+◌, ◌-◌, ◌<◌, Bool, true, false, ◌&&◌, cond, eqb, arith, List, [], ◌∷◌, ◌++◌, length, get_or, take, Option, Some, None, IfSome, ◌⊎◌, inl, inr, refl, sym, ap, subst, ◌∙◌}
use Rattle.std.proofs.lemmas.List.{append-nil, append_assoc}
use Rattle.std.proofs.lemmas.Bool.{eqb-true, lt-ltb}
use Rattle.std.specs.Io.BufRead.{take_through, drop_through, strip_last, DropsThrough}
use Rattle.std.specs.Io.KnownBytes.{Appends, IsAtEnd}
use Rattle.rule_lookup.specs.Lines.{Line, empty_line, lines_of, onto_line}
use Rattle.std.specs.Prelude.{Result, Ok, Err}
use Rattle.script_words.specs.declared.fault.SimFault.{SimFault}
use Rattle.script_words.specs.declared.fault.SimFault.TheVariants.{BadCommand, ReadFault, WriteFault, OutOfMemory}
use Rattle.script_tool.specs.declared.sim.LineOutcome.{LineOutcome}
use Rattle.script_tool.specs.Commands.{Carries, Leads}
use Rattle.script_tool.specs.Kept.{IsAt}
use Rattle.script_tool.specs.declared.simulation.Simulation.{Simulation}
use Rattle.script_tool.specs.Sim.{State, start, after, command_at, printed, Run, printing, run_line, run_log, run_from, sim, Prints, PrintsFront}
use Rattle.script_words.specs.Scripts.{Verdicts}

-- what became of a line, in other words for it and for the line
pub leads_to : (became named : LineOutcome) → became ≡ named → (line text : List ℕ) → line ≡ text → (kept now : Simulation) → ((state : State) → IsAt kept state → Leads (strip_last 10 line) state now became) → (state : State) → IsAt kept state → Leads (strip_last 10 text) state now named
leads_to became named is line text same kept now leads state at =
    subst (λ (l : List ℕ). Leads (strip_last 10 l) state now named) same (subst (λ (o : LineOutcome). Leads (strip_last 10 line) state now o) is (leads state at))

-- a front before the last byte is no part of what is stripped
cond-onto : (x : ℕ) (b : Bool) (before all : List ℕ) → cond b (x ∷ before) (x ∷ all) ≡ x ∷ cond b before all
cond-onto x true before all = refl
cond-onto x false before all = refl

strip_last-cons : (x y : ℕ) (ys : List ℕ) → strip_last 10 (x ∷ y ∷ ys) ≡ x ∷ strip_last 10 (y ∷ ys)
strip_last-cons x y ys =
    let two : suc (suc (length ys)) - 1 ≡ suc (length ys) = omega arith in
    let one : suc (length ys) - 1 ≡ length ys = omega arith in
    ap (λ t. cond (t && eqb (get_or (x ∷ y ∷ ys) (suc (suc (length ys)) - 1) 0) 10) (take (suc (suc (length ys)) - 1) (x ∷ y ∷ ys)) (x ∷ y ∷ ys)) (lt-ltb 0 (suc (suc (length ys))) (omega arith))
    ∙ ap (λ k. cond (eqb (get_or (x ∷ y ∷ ys) k 0) 10) (take k (x ∷ y ∷ ys)) (x ∷ y ∷ ys)) two
    ∙ cond-onto x (eqb (get_or (y ∷ ys) (length ys) 0) 10) (take (length ys) (y ∷ ys)) (y ∷ ys)
    ∙ ap (λ k. x ∷ cond (eqb (get_or (y ∷ ys) k 0) 10) (take k (y ∷ ys)) (y ∷ ys)) (sym one)
    ∙ sym (ap (λ t. x ∷ cond (t && eqb (get_or (y ∷ ys) (suc (length ys) - 1) 0) 10) (take (suc (length ys) - 1) (y ∷ ys)) (y ∷ ys)) (lt-ltb 0 (suc (length ys)) (omega arith)))

-- the first line of a text: what is read through the first line feed, without it
pub record FirstLine (text : List ℕ) : Type 0 where
  pub ended : Bool
  pub lines : lines_of text ≡ record { bytes = strip_last 10 (take_through 10 text); ended = ended } ∷ lines_of (drop_through 10 text)

-- what is read through a line feed begins as the text does
pub record Begins (y : ℕ) (bytes : List ℕ) : Type 0 where
  pub more : List ℕ
  pub is : bytes ≡ y ∷ more

front : (y : ℕ) (b : Bool) (more : List ℕ) → Begins y (cond b (y ∷ []) (y ∷ more))
front y true more = record { more = []; is = refl }
front y false more = record { more = more; is = refl }

through-front : (y : ℕ) (ys : List ℕ) → Begins y (take_through 10 (y ∷ ys))
through-front y ys = front y (eqb y 10) (take_through 10 ys)

at_feed : (x : ℕ) (xs : List ℕ) → eqb x 10 ≡ true → FirstLine (x ∷ xs)
at_feed x xs feed =
    subst (λ b. FirstLine (b ∷ xs)) (sym (eqb-true x 10 feed)) (record { ended = true; lines = refl })

only : (x : ℕ) (b : Bool) → eqb x 10 ≡ b → FirstLine (x ∷ [])
only x true feed = at_feed x [] feed
only x false other =
    let through : take_through 10 (x ∷ []) ≡ x ∷ [] = ap (λ t. cond t (x ∷ []) (x ∷ [])) other in
    let stripped : strip_last 10 (x ∷ []) ≡ x ∷ [] = ap (λ t. cond t (take 0 (x ∷ [])) (x ∷ [])) other in
    let rest : drop_through 10 (x ∷ []) ≡ [] = ap (λ t. cond t [] []) other in
    record {
      ended = false;
      lines =
          ap (λ t. cond t (empty_line ∷ []) (record { bytes = x ∷ []; ended = false } ∷ [])) other
          ∙ sym (ap (λ (l : List ℕ). record { bytes = l; ended = false } ∷ lines_of (drop_through 10 (x ∷ []))) (ap (strip_last 10) through ∙ stripped) ∙ ap (λ (l : List ℕ). record { bytes = x ∷ []; ended = false } ∷ lines_of l) rest);
    }

first_byte : (x y : ℕ) (ys : List ℕ) (b : Bool) → eqb x 10 ≡ b → FirstLine (y ∷ ys) → FirstLine (x ∷ y ∷ ys)
first_byte x y ys true feed later = at_feed x (y ∷ ys) feed
first_byte x y ys false other later =
    let f = through-front y ys in
    let through : take_through 10 (x ∷ y ∷ ys) ≡ x ∷ take_through 10 (y ∷ ys) = ap (λ t. cond t (x ∷ []) (x ∷ take_through 10 (y ∷ ys))) other in
    let rest : drop_through 10 (x ∷ y ∷ ys) ≡ drop_through 10 (y ∷ ys) = ap (λ t. cond t (y ∷ ys) (drop_through 10 (y ∷ ys))) other in
    let stripped : strip_last 10 (take_through 10 (x ∷ y ∷ ys)) ≡ x ∷ strip_last 10 (take_through 10 (y ∷ ys)) =
    ap (strip_last 10) through ∙ ap (λ (t : List ℕ). strip_last 10 (x ∷ t)) f.is ∙ strip_last-cons x y f.more ∙ ap (λ (t : List ℕ). x ∷ strip_last 10 t) (sym f.is) in
    record {
      ended = later.ended;
      lines =
          ap (λ t. cond t (empty_line ∷ lines_of (y ∷ ys)) (onto_line x (lines_of (y ∷ ys)))) other ∙ ap (onto_line x) later.lines
          ∙ sym (ap (λ (l : List ℕ). record { bytes = l; ended = later.ended } ∷ lines_of (drop_through 10 (x ∷ y ∷ ys))) stripped ∙ ap (λ (l : List ℕ). record { bytes = x ∷ strip_last 10 (take_through 10 (y ∷ ys)); ended = later.ended } ∷ lines_of l) rest);
    }

pub first_line : (x : ℕ) (xs : List ℕ) → FirstLine (x ∷ xs)
first_line x [] = only x (eqb x 10) refl
first_line x (y ∷ ys) = first_byte x y ys (eqb x 10) refl (first_line y ys)

-- what was written adds up
pub Appends-more : (before now then' : Option (List ℕ)) (xs ys : List ℕ) → Appends before now xs → Appends now then' ys → Appends before then' (xs ++ ys)
Appends-more None now then' xs ys first second = tt
Appends-more (Some all) None then' xs ys first second = absurd first
Appends-more (Some all) (Some more) None xs ys first second = absurd second
Appends-more (Some all) (Some more) (Some most) xs ys first second =
    second ∙ ap (λ (zs : List ℕ). zs ++ ys) first ∙ append_assoc all xs ys

pub Appends-none : (before : Option (List ℕ)) → Appends before before []
Appends-none None = tt
Appends-none (Some all) = sym (append-nil all)

Appends-same : (before now : Option (List ℕ)) (xs ys : List ℕ) → xs ≡ ys → Appends before now xs → Appends before now ys
Appends-same before now xs ys same = subst (Appends before now) same

-- the run so far: the lines that are left, and what was written, are those of the whole script
pub record RunsOn (before now rest : Option (List ℕ)) (script : List ℕ) (n : ℕ) (kept : Simulation) : Type 0 where
  pub left : List ℕ
  pub remains : rest ≡ Some left
  pub state : State
  pub at : IsAt kept state
  pub done : List ℕ
  pub written : Appends before now done
  pub same : printing done (run_from n (lines_of left) state) ≡ sim script

pub runs_from_start : (before script : Option (List ℕ)) (kept : Simulation) → IsAt kept start → IfSome script (λ all. RunsOn before before script all 1 kept)
runs_from_start before None kept at = tt
runs_from_start before (Some all) kept at =
    record { left = all; remains = refl; state = start; at = at; done = []; written = Appends-none before; same = refl }

-- what was written so far is a front of what the script prints
front_so_far : (before now rest : Option (List ℕ)) (script : List ℕ) (n : ℕ) (kept : Simulation) → RunsOn before now rest script n kept → PrintsFront before now (sim script)
front_so_far before now rest script n kept so_far = record {
  front = so_far.done;
  rest = (run_from n (lines_of so_far.left) so_far.state).output;
  written = so_far.written;
  all = sym (ap (λ (r : Run). r.output) so_far.same);
}

module _ (before now rest : Option (List ℕ)) (n : ℕ) (kept : Simulation) where
  pub at_no_memory : (script : Option (List ℕ)) → IfSome script (λ all. RunsOn before now rest all n kept) → IfSome script (λ all. Prints before now (sim all) (Err OutOfMemory))
  at_no_memory None so_far = tt
  at_no_memory (Some all) so_far = front_so_far before now rest all n kept so_far

  pub at_fault : (script : Option (List ℕ)) (end : SimFault) → (end ≡ ReadFault) ⊎ (end ≡ OutOfMemory) → IfSome script (λ all. RunsOn before now rest all n kept) → IfSome script (λ all. Prints before now (sim all) (Err end))
  at_fault None end is so_far = tt
  at_fault (Some all) end (inl is) so_far =
      subst (λ e. Prints before now (sim all) (Err e)) (sym is) (front_so_far before now rest all n kept so_far)
  at_fault (Some all) end (inr is) so_far =
      subst (λ e. Prints before now (sim all) (Err e)) (sym is) (front_so_far before now rest all n kept so_far)

-- a fault of the writer says nothing of what was written
pub at_write_fault : (script : Option (List ℕ)) → IfSome script (λ all. Unit {0})
at_write_fault None = tt
at_write_fault (Some all) = tt

-- two texts are printed one after the other
printing-twice : (xs ys : List ℕ) (run : Run) → printing (xs ++ ys) run ≡ printing xs (printing ys run)
printing-twice xs ys run =
    ap (λ (text : List ℕ). record { output = text; bad = run.bad }) (append_assoc xs ys run.output)

-- what a run prints after what was written before
PrintsFront-after : (before now later : Option (List ℕ)) (done : List ℕ) (run : Run) → Appends before now done → PrintsFront now later run → PrintsFront before later (printing done run)
PrintsFront-after before now later done run written prints = record {
  front = done ++ prints.front;
  rest = prints.rest;
  written = Appends-more before now later done prints.front written prints.written;
  all = ap (λ (text : List ℕ). done ++ text) prints.all ∙ sym (append_assoc done prints.front prints.rest);
}

pub Prints-after : (before now later : Option (List ℕ)) (done : List ℕ) (run : Run) (result : Result (Unit {0}) SimFault) → Appends before now done → Prints now later run result → Prints before later (printing done run) result
Prints-after before now later done run (Ok end) written prints = (Appends-more before now later done run.output written prints.0, prints.1)
Prints-after before now later done run (Err (BadCommand n)) written prints = (Appends-more before now later done run.output written prints.0, prints.1)
Prints-after before now later done run (Err ReadFault) written prints = PrintsFront-after before now later done run written prints
Prints-after before now later done run (Err WriteFault) written prints = tt
Prints-after before now later done run (Err OutOfMemory) written prints = PrintsFront-after before now later done run written prints

-- without memory to begin with a log nothing of it is printed
pub no_memory_for_log : (before : Option (List ℕ)) (state : State) (rest : Option (List ℕ)) → IfSome rest (λ log. Prints before before (run_log state (lines_of log)) (Err OutOfMemory))
no_memory_for_log before state None = tt
no_memory_for_log before state (Some log) = record { front = []; rest = (run_log state (lines_of log)).output; written = Appends-none before; all = refl }

-- a line more, which was carried out
module _ (before now rest : Option (List ℕ)) (script : List ℕ) (n : ℕ) (kept : Simulation) (so_far : RunsOn before now rest script n kept) where
  pub runs_to_end : IsAtEnd rest → Prints before now (sim script) (Ok tt)
  runs_to_end over =
      let all : printing so_far.done (run_from n [] so_far.state) ≡ sim script = ap (λ (l : List ℕ). printing so_far.done (run_from n (lines_of l) so_far.state)) (sym (nothing_left over)) ∙ so_far.same in
      (Appends-same before now (so_far.done ++ []) (sim script).output (ap (λ r. r.output) all) (Appends-same before now so_far.done (so_far.done ++ []) (sym (append-nil so_far.done)) so_far.written), sym (ap (λ r. r.bad) all)) where
        nothing_left : IsAtEnd rest → so_far.left ≡ []
        nothing_left over = rw so_far.remains at over

  module _ (line : List ℕ) (x : ℕ) (xs : List ℕ) (left_is : so_far.left ≡ x ∷ xs) (line_is : line ≡ take_through 10 (x ∷ xs)) where
    abbrev pub rest_lines : List Line
    rest_lines = lines_of (drop_through 10 (x ∷ xs))

    next : run_from n (lines_of so_far.left) so_far.state ≡ run_line n (command_at so_far.state (strip_last 10 line)) so_far.state rest_lines (run_from (n + 1) rest_lines)
    next =
        ap (λ (l : List ℕ). run_from n (lines_of l) so_far.state) left_is
        ∙ ap (λ lines. run_from n lines so_far.state) (first_line x xs).lines
        ∙ ap (λ (l : List ℕ). run_line n (command_at so_far.state (strip_last 10 l)) so_far.state rest_lines (run_from (n + 1) rest_lines)) (sym line_is)

    pub runs_to_bad : command_at so_far.state (strip_last 10 line) ≡ None → Prints before now (sim script) (Err (BadCommand n))
    runs_to_bad bad =
        let all : printing so_far.done (record { output = []; bad = Some n }) ≡ sim script =
        sym (ap (printing so_far.done) (next ∙ ap (λ c. run_line n c so_far.state rest_lines (run_from (n + 1) rest_lines)) bad)) ∙ so_far.same in
        (Appends-same before now (so_far.done ++ []) (sim script).output (ap (λ r. r.output) all) (Appends-same before now so_far.done (so_far.done ++ []) (sym (append-nil so_far.done)) so_far.written), sym (ap (λ r. r.bad) all))

    pub runs_on : (later rest_later : Option (List ℕ)) (kept_later : Simulation) (out : List ℕ) → Carries (strip_last 10 line) so_far.state kept_later out → rest_later ≡ Some (drop_through 10 (x ∷ xs)) → Appends now later out → RunsOn before later rest_later script (n + 1) kept_later
    runs_on later rest_later kept_later out carried remains wrote = record {
      left = drop_through 10 (x ∷ xs);
      remains = remains;
      state = after so_far.state carried.command;
      at = carried.state_now;
      done = so_far.done ++ out;
      written = Appends-more before now later so_far.done out so_far.written wrote;
      same =
          ap (λ (o : List ℕ). printing (so_far.done ++ o) (run_from (n + 1) (lines_of (drop_through 10 (x ∷ xs))) (after so_far.state carried.command))) carried.prints
          ∙ printing-twice so_far.done (printed so_far.state carried.command) (run_from (n + 1) (lines_of (drop_through 10 (x ∷ xs))) (after so_far.state carried.command))
          ∙ ap (printing so_far.done)
          (sym (next ∙ ap (λ c. run_line n c so_far.state rest_lines (run_from (n + 1) rest_lines)) carried.read
          ∙ ap (λ b. cond b (run_log so_far.state rest_lines) (printing (printed so_far.state carried.command) (run_from (n + 1) rest_lines (after so_far.state carried.command)))) carried.goes_on))
          ∙ so_far.same;
    }

    -- the lines that are left are a log
    pub runs_log : (later : Option (List ℕ)) (result : Result (Unit {0}) SimFault) → command_at so_far.state (strip_last 10 line) ≡ Some Verdicts → Prints now later (run_log so_far.state rest_lines) result → Prints before later (sim script) result
    runs_log later result is prints =
        let all : printing so_far.done (run_log so_far.state rest_lines) ≡ sim script =
        sym (ap (printing so_far.done) (next ∙ ap (λ c. run_line n c so_far.state rest_lines (run_from (n + 1) rest_lines)) is)) ∙ so_far.same in
        subst (λ (run : Run). Prints before later run result) all (Prints-after before now later so_far.done (run_log so_far.state rest_lines) result so_far.written prints)

-- a line that was read is the front of what was left, which is not empty
pub record IsFront (left line : List ℕ) : Type 0 where
  pub x : ℕ
  pub xs : List ℕ
  pub left_is : left ≡ x ∷ xs
  pub line_is : line ≡ take_through 10 (x ∷ xs)

pub front_of : (left line : List ℕ) → line ≡ take_through 10 left → 0 < length line → IsFront left line
front_of [] line is some = absurd (omega (arith, ap length is))
front_of (x ∷ xs) line is some = record { x = x; xs = xs; left_is = refl; line_is = is }

module _ (before now rest : Option (List ℕ)) (n : ℕ) (kept : Simulation) (line cleared : List ℕ) (none : cleared ≡ []) (read : IfSome rest (λ xs. line ≡ cleared ++ take_through 10 xs)) (some : 0 < length line) where
  line_front : (script : List ℕ) (so_far : RunsOn before now rest script n kept) → IsFront so_far.left line
  line_front script so_far =
      front_of so_far.left line ((rw so_far.remains at read) ∙ ap (λ (c : List ℕ). c ++ take_through 10 so_far.left) none) some

  pub at_bad_line : (script : Option (List ℕ)) → ((state : State) → IsAt kept state → command_at state (strip_last 10 line) ≡ None) → IfSome script (λ all. RunsOn before now rest all n kept) → IfSome script (λ all. Prints before now (sim all) (Err (BadCommand n)))
  at_bad_line None bad so_far = tt
  at_bad_line (Some all) bad so_far =
      let f = line_front all so_far in
      runs_to_bad before now rest all n kept so_far line f.x f.xs f.left_is f.line_is (bad so_far.state so_far.at)

  pub at_line : (script later rest_later : Option (List ℕ)) (kept_later : Simulation) (out : List ℕ) → ((state : State) → IsAt kept state → Carries (strip_last 10 line) state kept_later out) → DropsThrough rest rest_later 10 → Appends now later out → IfSome script (λ all. RunsOn before now rest all n kept) → IfSome script (λ all. RunsOn before later rest_later all (n + 1) kept_later)
  at_line None later rest_later kept_later out carried drops wrote so_far = tt
  at_line (Some all) later rest_later kept_later out carried drops wrote so_far =
      let f = line_front all so_far in
      runs_on before now rest all n kept so_far line f.x f.xs f.left_is f.line_is later rest_later kept_later out (carried so_far.state so_far.at) (rw so_far.remains at drops ∙ ap (λ (l : List ℕ). Some (drop_through 10 l)) f.left_is) wrote

  pub at_log : (script later rest_later : Option (List ℕ)) (kept_later : Simulation) (result : Result (Unit {0}) SimFault) → ((state : State) → IsAt kept state → IsAt kept_later state × (command_at state (strip_last 10 line) ≡ Some Verdicts)) → DropsThrough rest rest_later 10 → ((state : State) → IsAt kept_later state → IfSome rest_later (λ log. Prints now later (run_log state (lines_of log)) result)) → IfSome script (λ all. RunsOn before now rest all n kept) → IfSome script (λ all. Prints before later (sim all) result)
  at_log None later rest_later kept_later result follows drops prints so_far = tt
  at_log (Some all) later rest_later kept_later result follows drops prints so_far =
      let f = line_front all so_far in
      let kept_at = follows so_far.state so_far.at in
      let left : rest_later ≡ Some (drop_through 10 (f.x ∷ f.xs)) = rw so_far.remains at drops ∙ ap (λ (l : List ℕ). Some (drop_through 10 l)) f.left_is in
      runs_log before now rest all n kept so_far line f.x f.xs f.left_is f.line_is later result kept_at.1 (rw left at (prints so_far.state kept_at.0))

pub at_end : (before now rest : Option (List ℕ)) (n : ℕ) (kept : Simulation) → IsAtEnd rest → (script : Option (List ℕ)) → IfSome script (λ all. RunsOn before now rest all n kept) → IfSome script (λ all. Prints before now (sim all) (Ok tt))
at_end before now rest n kept over None so_far = tt
at_end before now rest n kept over (Some all) so_far = runs_to_end before now rest all n kept so_far over
