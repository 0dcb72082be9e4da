-- Reads one after the other.
use Rattle.std.proofs.Common.{◌≡◌, ℕ, ◌+◌, Bool, false, List, ◌∷◌, ◌++◌, refl, ◌⊎◌, sym, ap, subst, ◌∙◌, inl, inr, append_assoc, arith, length-append}
use Rattle.std.specs.List.{concat}
use Rattle.std.specs.declared.option.Option.{Option}
use Rattle.std.specs.Io.KnownBytes.{IsAtEnd}
use Rattle.std.proofs.KnownBytes.{Appends-trans, Consumes-trans}
use Rattle.byte_streams.specs.Wrappers.{Gives}
use Rattle.byte_streams.specs.declared.recording.Way.{Way}
use Rattle.byte_streams.specs.declared.recording.Way.TheVariants.{Input, Output}
use Rattle.byte_streams.specs.Pumps.{Ends, Gave, IsWritten, Pumped, is_end, pieces_by}
use Rattle.byte_streams.specs.Taps.{SeesAll, Shown, Watches, shown_to}
use Rattle.byte_streams.specs.Pieces.{Passes, StaysOpen, ReadAndPassed}
use Rattle.byte_streams.proofs.PassLemmas.{SeesAll-append, concat-append}
use Rattle.byte_streams.specs.declared.pumping.PumpEnd.{PumpEnd}
use Rattle.byte_streams.specs.declared.pumping.Why.{Why}
use Rattle.byte_streams.specs.declared.pumping.Why.TheVariants.{End, ReadFault, WriteFault, ZeroWrite, ReadsOver, Failed, OutOfMemory}

-- ---- what a chain gives

module _ (one two : List ℕ → List ℕ) (text given text' given' : List ℕ) (first : Gives one two text given) where
  Gives-trans : (three : List ℕ → List ℕ) → Gives two three text' given' → Gives one three (text ++ text') (given ++ given')
  Gives-trans three then = λ later.
      ap one (append_assoc text text' later) ∙ first (text' ++ later) ∙ ap (λ l. given ++ l) (then later) ∙ sym (append_assoc given given' (three later))

  -- what it writes of the whole text
  gives_whole : given' ≡ two text' → given ++ given' ≡ one (text ++ text')
  gives_whole is = ap (λ l. given ++ l) is ∙ sym (first text')

  gives_either : (left : Option (List ℕ)) (three : List ℕ → List ℕ) → Gives two three text' given' ⊎ (IsAtEnd left × (given' ≡ two text')) → Gives one three (text ++ text') (given ++ given') ⊎ (IsAtEnd left × (given ++ given' ≡ one (text ++ text')))
  gives_either left three (inl then) = inl (Gives-trans three then)
  gives_either left three (inr then) = inr (then.0, gives_whole then.1)

  Gave-trans : (why : Why) (left : Option (List ℕ)) (three : List ℕ → List ℕ) → Gave why left two three text' given' → Gave why left one three (text ++ text') (given ++ given')
  Gave-trans End left three then = (then.0, gives_whole then.1)
  Gave-trans ReadFault left three then = Gives-trans three then
  Gave-trans WriteFault left three then = gives_either left three then
  Gave-trans ZeroWrite left three then = gives_either left three then
  Gave-trans ReadsOver left three then = Gives-trans three then
  Gave-trans Failed left three then = (then.0, Gives-trans then.0 then.1)
  Gave-trans OutOfMemory left three then = (then.0, Gives-trans then.0 then.1)

-- ---- what is written

-- all of the bytes before were
still_left : (given written given' written' : List ℕ) → given ≡ written → (left : ℕ) × (more : List ℕ) × (given' ≡ written' ++ left ∷ more) → (left : ℕ) × (more : List ℕ) × (given ++ given' ≡ (written ++ written') ++ left ∷ more)
still_left given written given' written' first then =
    (then.0, then.1, ap (λ l. l ++ given') first ∙ ap (λ l. written ++ l) then.2 ∙ sym (append_assoc written written' (then.0 ∷ then.1)))

both : (given written given' written' : List ℕ) → given ≡ written → given' ≡ written' → given ++ given' ≡ written ++ written'
both given written given' written' first then = ap (λ l. l ++ given') first ∙ ap (λ l. written ++ l) then

IsWritten-append : (why : Why) (given written given' written' : List ℕ) → given ≡ written → IsWritten why given' written' → IsWritten why (given ++ given') (written ++ written')
IsWritten-append End given written given' written' first then = both given written given' written' first then
IsWritten-append ReadFault given written given' written' first then = both given written given' written' first then
IsWritten-append WriteFault given written given' written' first then = still_left given written given' written' first then
IsWritten-append ZeroWrite given written given' written' first then = still_left given written given' written' first then
IsWritten-append ReadsOver given written given' written' first then = both given written given' written' first then
IsWritten-append Failed given written given' written' first then = both given written given' written' first then
IsWritten-append OutOfMemory given written given' written' first then = both given written given' written' first then

-- ---- what is shown

pieces_by-append : (way : Way) (text given text' given' : List ℕ) → pieces_by way text given ++ pieces_by way text' given' ≡ pieces_by way (text ++ text') (given ++ given')
pieces_by-append Input text given text' given' = refl
pieces_by-append Output text given text' given' = refl

-- ---- reads

module _ {T : Type 0} (watches : T → Way) (sees : T → List ℕ → T → Type 0) (ends : T → T → Type 0) where
  -- what was seen in reads that went on, and then in others
  watches_more : (why : Why) (tap mid tap' : T) (pieces pieces' : List (List ℕ)) → Watches sees ends false tap pieces mid → Watches sees ends (is_end why) mid pieces' tap' → Watches sees ends (is_end why) tap (pieces ++ pieces') tap'
  watches_more why tap mid tap' pieces pieces' first then =
      let seen : SeesAll sees tap pieces mid = subst (λ (t : T). SeesAll sees tap pieces t) (sym first.2) first.1 in
      (then.0, SeesAll-append sees tap mid then.0 pieces pieces' seen then.1, then.2)

  passes_more : (tap mid tap' : T) {old now new : Ends} {text text' : List ℕ} {most most' : ℕ} (why : Why) → watches mid ≡ watches tap
      → Passes text old now (shown_to watches sees ends tap mid) most ReadsOver → Passes text' now new (shown_to watches sees ends mid tap') most' why
      → Passes (text ++ text') old new (shown_to watches sees ends tap tap') (most + most') why
  passes_more tap mid tap' {old} {now} {new} {text} {text'} why same one two = record {
    given = one.given ++ two.given;
    written = one.written ++ two.written;
    pieces = one.pieces ++ two.pieces;
    writes = Appends-trans old.writer now.writer new.writer one.written two.written one.writes two.writes;
    gave = Gave-trans old.chain now.chain text one.given text' two.given one.gave why new.reader new.chain two.gave;
    all = IsWritten-append why one.given one.written two.given two.written one.all two.all;
    shown = watches_more why tap mid tap' one.pieces two.pieces one.shown two.shown;
    joined =
        concat-append one.pieces two.pieces ∙ ap (λ l. l ++ concat two.pieces) one.joined
        ∙ ap (λ l. pieces_by (watches tap) text one.given ++ l) (two.joined ∙ ap (λ w. pieces_by w text' two.given) same)
        ∙ pieces_by-append (watches tap) text one.given text' two.given;
    few = omega (arith, length-append one.pieces two.pieces, one.few, two.few);
  }

  pub read_and_passed_more : (tap mid tap' : T) {old now new : Ends} {times times' : ℕ} (why : Why) → watches mid ≡ watches tap
      → ReadAndPassed old now (shown_to watches sees ends tap mid) times ReadsOver → ReadAndPassed now new (shown_to watches sees ends mid tap') times' why
      → ReadAndPassed old new (shown_to watches sees ends tap tap') (times + times') why
  read_and_passed_more tap mid tap' {old} {now} {new} why same one two = record {
    text = one.text ++ two.text;
    reads = Consumes-trans old.reader now.reader new.reader one.text two.text one.reads two.reads;
    passes = passes_more tap mid tap' why same one.passes two.passes;
  }

-- the same number of reads
pub read_and_passed_times : {old new : Ends} {tap : Shown} {times times' : ℕ} {why : Why} → times ≡ times' → ReadAndPassed old new tap times why → ReadAndPassed old new tap times' why
read_and_passed_times {old} {new} {tap} {why = why} same read_and_passed = subst (λ n. ReadAndPassed old new tap n why) same read_and_passed

-- a pump that made so many reads
pub pumped_of_read_and_passed : {old new : Ends} {tap : Shown} {end : PumpEnd} → ReadAndPassed old new tap end.reads end.why → Pumped old new tap end
pumped_of_read_and_passed read_and_passed =
    let passes = read_and_passed.passes in
    record {
      text = read_and_passed.text;
      given = passes.given;
      written = passes.written;
      pieces = passes.pieces;
      reads = read_and_passed.reads;
      writes = passes.writes;
      gave = passes.gave;
      all = passes.all;
      shown = passes.shown;
      joined = passes.joined;
      one_each = passes.few;
    }

-- where a read failed, or there are no more reads, the chain can go on as before
pub goes_on_as_before : {why : Why} (old new : Bool) → StaysOpen why old new → (why ≡ ReadFault) ⊎ (why ≡ ReadsOver) → new ≡ old
goes_on_as_before old new stays (inl is) = subst (λ w. StaysOpen w old new) is stays
goes_on_as_before old new stays (inr is) = subst (λ w. StaysOpen w old new) is stays
