use Rattle.std.proofs.Common.{arith, ◌≡◌, ◌⊎◌, [], ◌∷◌, inl, inr, true, false, length, refl, sym, subst, ◌∙◌, ap}
use Rattle.std.specs.Prelude.{Err, is_ok, Contains}
use Rattle.dir_calls.specs.declared.fault.DirFault.TheVariants.{NoScratch, Device, OutOfMemory as NoMemory}
use Rattle.std.proofs.lemmas.Result.{err_from_is_err_and}
use Rattle.dir_calls.specs.Calls.{patches}
use Rattle.dir_calls.proofs.Lasting.{patches_keeps}
use Rattle.rules_install.specs.Filled.{blank_file}
use Rattle.rules_install.specs.Installing.{Installing, next_phase}
use Rattle.rules_install.specs.Installs.{installing}
use Rattle.rules_install.proofs.FillBytes.{length-blank, pointers_less}
use Rattle.rules_install.proofs.FillSteps.{advanced, filling_steps, filling_has, filling_more, patch_noted, pointers_fit, pointers_has, still_steps, unpatched, was_begun}
use Rattle.rules_install.proofs.StepFaults.{of_err, among_three}
use Rattle.rules_install.proofs.StepFits.{has_number}
use Rattle.rules_install.proofs.install.Install.put_pointers.Given.{Over}
use Rattle.rules_install.proofs.install.Install.put_pointers.Goals as goal
use Rattle.rules_install.proofs.install.Install.put_pointers.Goals.{After-drop-header, then-is_ok, else-is_ok}

-- all bytes of the file were appended
abbrev HasAll : Installing → Type 0
HasAll s = s.filled ≡ length (blank_file s.rules)

pub returns-in_err-header-clause-step : goal.returns-in_err-header-clause-step
returns-in_err-header-clause-step g c =
    let p = err_from_is_err_and c.from_residual.result c.from_residual.ensures.1 in
    still_steps g.D.Dir (installing c.args.self.now) (installing c.make_header.new.self) c.args.dir.now c.from_residual.result
    c.make_header.ensures.same (p.1 ∙ ap Err p.2)
    c.requires.fits (λ image honest left. g.met.D.Dir.only_now c.args.dir.now image honest left)

pub returns-in_err-header-clause-more : goal.returns-in_err-header-clause-more
returns-in_err-header-clause-more g c =
    let p = err_from_is_err_and c.from_residual.result c.from_residual.ensures.1 in
    rw p.1 tt

pub invariant_of-self : goal.invariant_of-self
invariant_of-self g c =
    let self = c.make_header.new.self in
    let whole = subst HasAll (sym c.make_header.ensures.same) c.requires.whole in
    record {
      rest_is = self.rest_is;
      taken_fits = self.taken_fits;
      filled_fits = self.filled_fits;
      small = self.small;
      whole = λ _. whole;
      not_begun = λ none. absurd (was_begun (installing self) (ap next_phase c.make_header.ensures.same ∙ c.requires.next) none);
      unfilled = λ made. absurd (let none = (self.unfilled made).0 in omega (arith, none, length-blank self.pieces, whole));
    }

pub patch-outcome-requires : goal.patch-outcome-requires
patch-outcome-requires g c = record {
  inside = λ honest file is.
      pointers_fit (installing c.args.self.now) (g.D.Dir.state c.args.dir.now) c.requires.next (c.requires.fits honest c.requires.is_open) c.requires.whole
      c.deref.result.now (c.deref.ensures.value ∙ c.in_ok-header.ensures.header) file is;
}

-- what is noted of the patch
noted_is : (g : Over) (c : After-drop-header g) → installing c.note.new.self ≡ advanced (λ (x : Unit {0}). record (installing c.args.self.now) { patched = true }) (installing c.args.self.now) c.patch-outcome.result
noted_is g c =
    let s = installing c.args.self.now in
    let outcome = c.patch-outcome.result in
    let t = installing c.if-is_ok.self in
    let cases : ((is_ok outcome ≡ true) × (t ≡ record s { patched = true })) ⊎ ((is_ok outcome ≡ false) × (t ≡ s)) =
    elim c.if-is_ok.branch [
      | then-is_ok w ↦ inl (sym c.is_ok.ensures.value ∙ w.if-is_ok.true, ap installing w.self-is ∙ ap (λ (i : Installing). record i { patched = true }) c.make_header.ensures.same)
      | else-is_ok w ↦ inr (sym c.is_ok.ensures.value ∙ w.if-is_ok.false, ap installing w.self-is ∙ c.make_header.ensures.same)
    ] in
    patch_noted s t (installing c.note.new.self) outcome c.note.ensures.noted cases

pub returns-clause-step : goal.returns-clause-step
returns-clause-step g c =
    let s = installing c.args.self.now in
    let d = g.D.Dir.state c.args.dir.now in
    let header = c.deref.result.now in
    let header_is = c.deref.ensures.value ∙ c.in_ok-header.ensures.header in
    filling_steps g.D.Dir s c.args.dir.now c.patch-outcome.new.self
    (λ _. patches 0 header) (patches 0 header) (λ _. record s { patched = true }) c.patch-outcome.result (installing c.note.new.self) c.note.result
    (noted_is g c) c.note.ensures.answer
    (λ x. record { rules = refl; names = refl; is_open = c.requires.is_open })
    (inr (0, header, refl)) (λ x. inr (0, header, refl))
    c.requires.fits
    (λ honest x is done. pointers_has s d (g.D.Dir.state c.patch-outcome.new.self) c.requires.next (c.requires.fits honest c.requires.is_open) c.requires.whole header header_is done)
    (λ image honest left. g.met.D.Dir.only_now c.args.dir.now image honest left)
    c.patch-outcome.ensures.time c.patch-outcome.ensures.does
    (λ olds lasts. patches_keeps d s.names.cdb olds lasts 0 header) (λ x olds lasts. patches_keeps d s.names.cdb olds lasts 0 header)
    c.patch-outcome.ensures.counted
    (λ honest fault is. among_three NoScratch fault (of_err c.patch-outcome.result fault (Contains (NoScratch ∷ Device ∷ NoMemory ∷ [])) c.patch-outcome.ensures.faults is)
    (λ none. has_number d.files d.scratch _ (filling_has s d c.requires.next (c.requires.fits honest c.requires.is_open)).1 (c.patch-outcome.ensures.no_scratch honest (is ∙ ap Err none))))

pub returns-clause-more : goal.returns-clause-more
returns-clause-more g c =
    let s = installing c.args.self.now in
    filling_more s (λ _. record s { patched = true }) c.patch-outcome.result (installing c.note.new.self) c.note.result
    (noted_is g c) c.note.ensures.answer
    (λ x is. pointers_less s.rules s.filled s.patched (unpatched s c.requires.next))
