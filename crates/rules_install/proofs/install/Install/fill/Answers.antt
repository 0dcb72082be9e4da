use Rattle.std.proofs.Common.{arith, ◌≡◌, ◌≢◌, ◌++◌, drop, take, ◌^◌, ◌≤◌, ◌<◌, [], ◌∷◌, inl, List, length, IsTrue, false, ℕ, ◌+◌, ◌-◌, refl, sym, ◌∙◌, ap, subst}
use Rattle.std.specs.Prelude.{Result, Ok, Err, OnOk, Contains}
use Rattle.dir_calls.specs.declared.fault.DirFault.TheVariants.{NoScratch, Device, OutOfMemory as NoMemory}
use Rattle.std.proofs.lemmas.Result.{err_from_is_err_and, IfOk-at_ok}
use Rattle.std.proofs.lemmas.List.{take_rest}
use Rattle.dir_calls.specs.Calls.{appends}
use Rattle.dir_calls.proofs.Lasting.{appends_keeps}
use Rattle.dir_calls.specs.declared.phase.Phase.{Phase}
use Rattle.dir_calls.specs.declared.phase.Phase.TheVariants.{Filling}
use Rattle.rules_install.specs.declared.fault.InstallFault.{InstallFault}
use Rattle.rules_install.specs.Filled.{blank_file, fillings_left}
use Rattle.rules_install.specs.Pieces.{from_piece}
use Rattle.rules_install.specs.Installing.{Installing, next_phase, Fits}
use Rattle.rules_install.specs.Steps.{StepsTo, answer_of}
use Rattle.rules_install.specs.Installs.{installing}
use Rattle.rules_install.proofs.FillBytes.{bytes_less, filled_small, filled_within, left_more, some_left, taken_within}
use Rattle.rules_install.proofs.FillSteps.{advanced, bytes_have, failure_answer, failure_noted, filling_steps, filling_has, longer_by, filling_more, not_patched, still_steps}
use Rattle.rules_install.proofs.StepBegins.{filling_reached}
use Rattle.rules_install.proofs.StepNoted.{has_begun}
use Rattle.rules_install.proofs.StepFaults.{of_err, among_three}
use Rattle.rules_install.proofs.StepFits.{has_number}
use Rattle.rules_install.proofs.install.Install.fill.Given.{Over}
use Rattle.rules_install.proofs.install.Install.fill.Goals as goal
use Rattle.rules_install.proofs.install.Install.fill.Goals.{After-append}

pub returns-in_err-make_piece-clause-step : goal.returns-in_err-make_piece-clause-step
returns-in_err-make_piece-clause-step g c =
    let p = err_from_is_err_and c.from_residual.result c.from_residual.ensures.1 in
    still_steps g.D.Dir (installing c.args.self.now) (installing c.make_piece.new.self) c.args.dir.now c.from_residual.result
    c.make_piece.ensures.same (p.1 ∙ ap Err p.2) c.requires.fits (λ image honest left. g.met.D.Dir.only_now c.args.dir.now image honest left)

pub returns-in_err-make_piece-clause-more : goal.returns-in_err-make_piece-clause-more
returns-in_err-make_piece-clause-more g c =
    let p = err_from_is_err_and c.from_residual.result c.from_residual.ensures.1 in
    rw p.1 tt

pub put_pointers-requires-clause-fits : goal.put_pointers-requires-clause-fits
put_pointers-requires-clause-fits g c =
    λ honest. subst (λ (s : Installing). Fits s (g.D.Dir.state c.args.dir.now)) (sym c.make_piece.ensures.same) (c.requires.fits honest)

pub returns-then-self-len-clause-step : goal.returns-then-self-len-clause-step
returns-then-self-len-clause-step g c =
    subst (λ (s : Installing). StepsTo g.D.Dir Filling s (installing c.put_pointers.new.self) c.args.dir.now c.put_pointers.new.dir c.put_pointers.result)
    c.make_piece.ensures.same c.put_pointers.ensures.step

pub returns-then-self-len-clause-more : goal.returns-then-self-len-clause-more
returns-then-self-len-clause-more g c =
    let new = c.put_pointers.new.self in
    subst (λ (s : Installing). OnOk c.put_pointers.result (fillings_left new.pieces new.filled new.patched < fillings_left s.rules s.filled s.patched)) c.make_piece.ensures.same c.put_pointers.ensures.more

-- what is appended is all that is left of the piece
piece_is : (g : Over) (c : After-append g) → take (length c.deref.result.now - c.make_piece.new.self.taken) (drop c.make_piece.new.self.taken c.deref.result.now) ≡ drop c.make_piece.new.self.taken c.make_piece.new.self.rest.items
piece_is g c =
    take_rest c.deref.result.now c.make_piece.new.self.taken ∙ ap (λ (l : List ℕ). drop c.make_piece.new.self.taken l) c.deref.ensures.value

-- the installation is still being filled
next_is : (g : Over) (c : After-append g) → next_phase (installing c.make_piece.new.self) ≡ Filling
next_is g c = ap next_phase c.make_piece.ensures.same ∙ c.requires.next

-- no more is appended than is left
count_within : (g : Over) (c : After-append g) (count : ℕ) → c.append.result ≡ Ok count
    → count ≤ length (drop c.make_piece.new.self.taken c.make_piece.new.self.rest.items)
count_within g c count is = subst (λ (l : List ℕ). count ≤ length l) (piece_is g c) (IfOk-at_ok (λ n. n ≤ length piece) is c.append.ensures.taken)
  where
    piece : List ℕ
    piece = take (length c.deref.result.now - c.make_piece.new.self.taken) (drop c.make_piece.new.self.taken c.deref.result.now)

-- so the file has as many bytes
file_has : (g : Over) (c : After-append g) (count : ℕ) → c.append.result ≡ Ok count
    → c.make_piece.new.self.filled + count ≤ length (blank_file c.make_piece.new.self.pieces)
file_has g c count is =
    let self = c.make_piece.new.self in
    filled_within self.filled count (drop self.taken self.rest.items) (from_piece self.pieces self.next) (blank_file self.pieces) self.rest_is (count_within g c count is) self.filled_fits

pub overflow_add-self-in-Ok : goal.overflow_add-self-in-Ok
overflow_add-self-in-Ok g c =
    let self = c.make_piece.new.self in
    let sum : self.filled + c.in-Ok.count < 2 ^ 32 = filled_small self.pieces (self.filled + c.in-Ok.count) (file_has g (goal.at.overflow_add-self-in-Ok g c).After-append c.in-Ok.count c.in-Ok.is) self.small in
    omega (arith, sum)

pub invariant_of-self : goal.invariant_of-self
invariant_of-self g c =
    let a = (goal.at.invariant_of-self g c).After-append in
    let self = c.make_piece.new.self in
    let count = c.in-Ok.count in
    let le = count_within g a count c.in-Ok.is in
    record {
      rest_is = left_more self.taken self.filled count self.rest.items (from_piece self.pieces self.next) (blank_file self.pieces) self.rest_is le;
      taken_fits = taken_within self.taken count self.rest.items le self.taken_fits;
      filled_fits = file_has g a count c.in-Ok.is;
      small = self.small;
      whole = λ patched. absurd (not_patched (installing self) (next_is g a) patched);
      not_begun = has_begun Filling _;
      unfilled = filling_reached _;
    }

-- the step that the append makes, whatever it answers
append_step : (g : Over) (c : After-append g) (s' : Installing) (result : Result Phase InstallFault)
    → s' ≡ advanced (longer_by (installing c.make_piece.new.self)) (installing c.make_piece.new.self) c.append.result
    → result ≡ answer_of Filling c.append.result
    → StepsTo g.D.Dir Filling (installing c.args.self.now) s' c.args.dir.now c.append.new.self result
append_step g c s' result s'_is result_is =
    let self = c.make_piece.new.self in
    let s = installing self in
    let d = g.D.Dir.state c.args.dir.now in
    let e = g.D.Dir.state c.append.new.self in
    let piece = take (length c.deref.result.now - self.taken) (drop self.taken c.deref.result.now) in
    let fits = λ (honest : IsTrue g.D.Dir.honest). subst (λ (i : Installing). Fits i d) (sym c.make_piece.ensures.same) (c.requires.fits honest) in
    let is_open : s.over ≡ false = ap (λ (i : Installing). i.over) c.make_piece.ensures.same ∙ c.requires.is_open in
    let left : piece ++ from_piece self.pieces self.next ≡ drop self.filled (blank_file self.pieces) = ap (λ (l : List ℕ). l ++ from_piece self.pieces self.next) (piece_is g c) ∙ self.rest_is in
    subst (λ (i : Installing). StepsTo g.D.Dir Filling i s' c.args.dir.now c.append.new.self result) c.make_piece.ensures.same
    (filling_steps g.D.Dir s c.args.dir.now c.append.new.self
    (λ count. appends (take count piece)) (appends piece) (longer_by s) c.append.result s' result s'_is result_is
    (λ count. record { rules = refl; names = refl; is_open = is_open })
    (inl (piece, refl)) (λ count. inl (take count piece, refl))
    fits
    (λ honest count is done. bytes_have s d e count piece (from_piece self.pieces self.next) (next_is g c) (fits honest is_open) left
    (IfOk-at_ok (λ n. n ≤ length piece) is c.append.ensures.taken) done)
    (λ image honest left. g.met.D.Dir.only_now c.args.dir.now image honest left)
    c.append.ensures.time c.append.ensures.does
    (λ olds lasts. appends_keeps d s.names.cdb olds lasts piece) (λ count olds lasts. appends_keeps d s.names.cdb olds lasts (take count piece))
    c.append.ensures.counted
    (λ honest fault is. among_three NoScratch fault (of_err c.append.result fault (Contains (NoScratch ∷ Device ∷ NoMemory ∷ [])) c.append.ensures.faults is)
    (λ none. has_number d.files d.scratch _ (filling_has s d (next_is g c) (fits honest is_open)).1 (c.append.ensures.no_scratch honest (is ∙ ap Err none)))))

-- where it succeeds, less is left to fill
append_more : (g : Over) (c : After-append g) (s' : Installing) (result : Result Phase InstallFault)
    → s' ≡ advanced (longer_by (installing c.make_piece.new.self)) (installing c.make_piece.new.self) c.append.result
    → result ≡ answer_of Filling c.append.result
    → OnOk result (fillings_left s'.rules s'.filled s'.patched < fillings_left c.args.self.now.pieces c.args.self.now.filled c.args.self.now.patched)
append_more g c s' result s'_is result_is =
    let self = c.make_piece.new.self in
    let s = installing self in
    let piece = take (length c.deref.result.now - self.taken) (drop self.taken c.deref.result.now) in
    let other : self.taken ≢ length self.rest.items = omega arith in
    let some : 0 < length piece = subst (λ (l : List ℕ). 0 < length l) (sym (piece_is g c)) (some_left self.taken self.rest.items self.taken_fits other) in
    subst (λ (i : Installing). OnOk result (fillings_left s'.rules s'.filled s'.patched < fillings_left i.rules i.filled i.patched)) c.make_piece.ensures.same
    (filling_more s (longer_by s) c.append.result s' result s'_is result_is
    (λ count is. bytes_less self.pieces self.filled count self.patched (IfOk-at_ok (λ n. 0 < length piece → 0 < n) is c.append.ensures.some some) (file_has g c count is)))

pub returns-in-Ok-clause-step : goal.returns-in-Ok-clause-step
returns-in-Ok-clause-step g c =
    let s = installing c.make_piece.new.self in
    append_step g (goal.at.returns-in-Ok-clause-step g c).After-append _ _
    (ap (advanced (longer_by s) s) (sym c.in-Ok.is)) (ap (answer_of Filling) (sym c.in-Ok.is))

pub returns-in-Ok-clause-more : goal.returns-in-Ok-clause-more
returns-in-Ok-clause-more g c =
    let s = installing c.make_piece.new.self in
    append_more g (goal.at.returns-in-Ok-clause-more g c).After-append _ _
    (ap (advanced (longer_by s) s) (sym c.in-Ok.is)) (ap (answer_of Filling) (sym c.in-Ok.is))

pub returns-in-Err-clause-step : goal.returns-in-Err-clause-step
returns-in-Err-clause-step g c =
    let s = installing c.make_piece.new.self in
    append_step g (goal.at.returns-in-Err-clause-step g c).After-append (installing c.note.new.self) c.note.result
    (failure_noted (Unit {0}) s (installing c.note.new.self) (longer_by s) c.append.result c.in-Err.fault c.in-Err.is c.note.ensures.noted)
    (failure_answer (Unit {0}) c.append.result c.note.result c.in-Err.fault c.in-Err.is c.note.ensures.answer)

pub returns-in-Err-clause-more : goal.returns-in-Err-clause-more
returns-in-Err-clause-more g c =
    let s = installing c.make_piece.new.self in
    append_more g (goal.at.returns-in-Err-clause-more g c).After-append (installing c.note.new.self) c.note.result
    (failure_noted (Unit {0}) s (installing c.note.new.self) (longer_by s) c.append.result c.in-Err.fault c.in-Err.is c.note.ensures.noted)
    (failure_answer (Unit {0}) c.append.result c.note.result c.in-Err.fault c.in-Err.is c.note.ensures.answer)
