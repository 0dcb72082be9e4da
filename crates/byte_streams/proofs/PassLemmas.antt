-- What goes through a chain in one read.
use Rattle.std.proofs.Common.{◌≡◌, ℕ, ◌<◌, ◌≤◌, Bool, false, List, [], ◌∷◌, ◌++◌, length, take, Result, Ok, Err, refl, sym, ap, subst, ◌∙◌, inl, inr, append_assoc, arith}
use Rattle.std.specs.Prelude.{IfErr}
use Rattle.std.specs.List.{concat}
use Rattle.std.proofs.lemmas.List.{append-nil}
use Rattle.std.proofs.lemmas.Result.{MatchResult-at_ok}
use Rattle.std.specs.declared.option.Option.{Option}
use Rattle.std.specs.Io.KnownBytes.{Appends, Consumes, IsAtEnd, Keeps, ReadConsumes}
use Rattle.std.proofs.KnownBytes.{Appends-nil, Consumes-kept, Consumes-nil}
use Rattle.byte_streams.specs.Wrappers.{Feeds, Gives, through}
use Rattle.byte_streams.specs.declared.recording.Way.{Way}
use Rattle.byte_streams.specs.declared.recording.Way.TheVariants.{Input, Output}
use Rattle.byte_streams.specs.Pumps.{Ends, Gave, IsWritten, is_end, pieces_by}
use Rattle.byte_streams.specs.Taps.{IsTold, SeesAll, Shown, shown_to}
use Rattle.byte_streams.specs.Pieces.{IsOfWriter, Passes, ReadAndPassed, Wrote, pieces_of, why_of}
use Rattle.byte_streams.specs.declared.pumping.Why.{Why}
use Rattle.byte_streams.specs.declared.pumping.Why.TheVariants.{End, ReadFault, WriteFault, ZeroWrite, ReadsOver, Failed, OutOfMemory}

-- ---- what a chain gives

-- a chain of no wrappers gives what it takes
pub gives_same : {S : Type 0} (rest : S → List ℕ → List ℕ) {wrappers : List S} → wrappers ≡ [] → (piece : List ℕ) → Gives (through rest wrappers) (through rest wrappers) piece piece
gives_same rest none piece = subst (λ wrappers. Gives (through rest wrappers) (through rest wrappers) piece piece) (sym none) (λ later. refl)

-- what was added to nothing, and is lent, is what the chain gave
pub added_to_none : {before after lent given : List ℕ} → before ≡ [] → after ≡ before ++ given → lent ≡ after → lent ≡ given
added_to_none {given = given} none added is = is ∙ added ∙ ap (λ l. l ++ given) none

pub gives_added : {chain chain' : List ℕ → List ℕ} {piece before after lent : List ℕ} → before ≡ [] → Feeds chain chain' piece before after → lent ≡ after → Gives chain chain' piece lent
gives_added {chain} {chain'} {piece} none feeds is =
    subst (Gives chain chain' piece) (sym (added_to_none none feeds.added is)) feeds.gives

gave_now : (result : Result (Unit {0}) Why) (left : Option (List ℕ)) (chain chain' : List ℕ → List ℕ) (text given : List ℕ) → IfErr result IsOfWriter → Gives chain chain' text given → Gave (why_of result) left chain chain' text given
gave_now (Ok _) left chain chain' text given reason gives = gives
gave_now (Err End) left chain chain' text given reason gives = absurd reason
gave_now (Err ReadFault) left chain chain' text given reason gives = absurd reason
gave_now (Err WriteFault) left chain chain' text given reason gives = inl gives
gave_now (Err ZeroWrite) left chain chain' text given reason gives = inl gives
gave_now (Err ReadsOver) left chain chain' text given reason gives = absurd reason
gave_now (Err Failed) left chain chain' text given reason gives = absurd reason
gave_now (Err OutOfMemory) left chain chain' text given reason gives = absurd reason

gave_rest : (why : Why) (left : Option (List ℕ)) (chain chain' : List ℕ → List ℕ) (given : List ℕ) → IsOfWriter why → IsAtEnd left → given ≡ chain [] → Gave why left chain chain' [] given
gave_rest End left chain chain' given reason at_end is = absurd reason
gave_rest ReadFault left chain chain' given reason at_end is = absurd reason
gave_rest WriteFault left chain chain' given reason at_end is = inr (at_end, is)
gave_rest ZeroWrite left chain chain' given reason at_end is = inr (at_end, is)
gave_rest ReadsOver left chain chain' given reason at_end is = absurd reason
gave_rest Failed left chain chain' given reason at_end is = absurd reason
gave_rest OutOfMemory left chain chain' given reason at_end is = absurd reason

-- ---- what a tap is shown

pub concat-append : (front back : List (List ℕ)) → concat (front ++ back) ≡ concat front ++ concat back
concat-append [] back = refl
concat-append (piece ∷ front) back =
    ap (λ l. piece ++ l) (concat-append front back) ∙ sym (append_assoc piece (concat front) (concat back))

pub SeesAll-append : {T : Type 0} (sees : T → List ℕ → T → Type 0) (tap mid tap' : T) (front back : List (List ℕ)) → SeesAll sees tap front mid → SeesAll sees mid back tap' → SeesAll sees tap (front ++ back) tap'
SeesAll-append {T} sees tap mid tap' [] back first then = subst (λ (t : T). SeesAll sees t back tap') first then
SeesAll-append sees tap mid tap' (piece ∷ front) back first then =
    (first.0, first.1, SeesAll-append sees first.0 mid tap' front back first.2 then)

-- the pieces of one read: the one that was read, and the one that the chain gave
joined_both : (way : Way) (text given : List ℕ) → concat (pieces_of way Input text ++ pieces_of way Output given) ≡ pieces_by way text given
joined_both Input text given = append-nil text
joined_both Output text given = append-nil given

few_both : (way : Way) (text given : List ℕ) → length (pieces_of way Input text ++ pieces_of way Output given) ≤ 1
few_both Input text given = omega arith
few_both Output text given = omega arith

joined_read : (way : Way) (text : List ℕ) → concat (pieces_of way Input text) ≡ pieces_by way text []
joined_read Input text = append-nil text
joined_read Output text = refl

few_one : (way other : Way) (piece : List ℕ) → length (pieces_of way other piece) ≤ 1
few_one Input Input piece = omega arith
few_one Input Output piece = omega arith
few_one Output Input piece = omega arith
few_one Output Output piece = omega arith

joined_given : (way : Way) (given : List ℕ) → concat (pieces_of way Output given) ≡ pieces_by way [] given
joined_given Input given = refl
joined_given Output given = append-nil given

nothing_joined : (way : Way) → [] ≡ pieces_by way [] []
nothing_joined Input = refl
nothing_joined Output = refl

no_end : (result : Result (Unit {0}) Why) → IfErr result IsOfWriter → is_end (why_of result) ≡ false
no_end (Ok _) reason = refl
no_end (Err End) reason = absurd reason
no_end (Err ReadFault) reason = refl
no_end (Err WriteFault) reason = refl
no_end (Err ZeroWrite) reason = refl
no_end (Err ReadsOver) reason = refl
no_end (Err Failed) reason = refl
no_end (Err OutOfMemory) reason = refl

not_told : {T : Type 0} (ends : T → T → Type 0) {at_end : Bool} (tap : T) → at_end ≡ false → IsTold ends at_end tap tap
not_told ends tap goes_on = subst (λ at_end. IsTold ends at_end tap tap) (sym goes_on) refl

-- ---- a read

-- what was written, where nothing was
wrote_nothing : (old new : Ends) → new.writer ≡ old.writer → Appends old.writer new.writer []
wrote_nothing old new same = subst (λ writer. Appends old.writer writer []) (sym same) (Appends-nil old.writer)

module _ {T : Type 0} (watches : T → Way) (sees : T → List ℕ → T → Type 0) (ends : T → T → Type 0) where
  -- a piece went through, and the writer took what it could
  pub passes_given : (tap mid tap' : T) {old new : Ends} (text given : List ℕ) {result : Result (Unit {0}) Why}
      → SeesAll sees tap (pieces_of (watches tap) Input text) mid → watches mid ≡ watches tap → SeesAll sees mid (pieces_of (watches mid) Output given) tap'
      → Gives old.chain new.chain text given → Wrote old.writer new.writer given result
      → Passes text old new (shown_to watches sees ends tap tap') 1 (why_of result)
  passes_given tap mid tap' {old} {new} text given {result} read same gave gives wrote =
      let way = watches tap in
      record {
        given = given;
        written = wrote.written;
        pieces = pieces_of way Input text ++ pieces_of way Output given;
        writes = wrote.writes;
        gave = gave_now result new.reader old.chain new.chain text given wrote.reason gives;
        all = wrote.all;
        shown = (tap', SeesAll-append sees tap mid tap' (pieces_of way Input text) (pieces_of way Output given) read (subst (λ w. SeesAll sees mid (pieces_of w Output given) tap') same gave), not_told ends tap' (no_end result wrote.reason));
        joined = joined_both way text given;
        few = few_both way text given;
      }

  -- the chain had no memory for a piece
  pub passes_none : (tap tap' : T) {old new : Ends} {text : List ℕ}
      → SeesAll sees tap (pieces_of (watches tap) Input text) tap' → new.writer ≡ old.writer
      → Passes text old new (shown_to watches sees ends tap tap') 1 OutOfMemory
  passes_none tap tap' {old} {new} {text} read writer = record {
    given = [];
    written = [];
    pieces = pieces_of (watches tap) Input text;
    writes = wrote_nothing old new writer;
    gave = (λ later. old.chain (text ++ later), λ later. refl);
    all = refl;
    shown = (tap', read, refl);
    joined = joined_read (watches tap) text;
    few = few_one (watches tap) Input text;
  }

  -- nothing went through
  pub passes_nothing : (tap : T) {old new : Ends} (most : ℕ) (why : Why) → new.writer ≡ old.writer
      → Gave why new.reader old.chain new.chain [] [] → IsWritten why [] [] → is_end why ≡ false
      → Passes [] old new (shown_to watches sees ends tap tap) most why
  passes_nothing tap {old} {new} most why writer gave all goes_on = record {
    given = [];
    written = [];
    pieces = [];
    writes = wrote_nothing old new writer;
    gave = gave;
    all = all;
    shown = (tap, refl, not_told ends tap goes_on);
    joined = nothing_joined (watches tap);
    few = omega arith;
  }

  -- the writer did not take all of the chain's rest
  pub passes_rest : (tap tap' : T) {old new : Ends} {given : List ℕ} {why : Why}
      → SeesAll sees tap (pieces_of (watches tap) Output given) tap' → given ≡ old.chain []
      → Wrote old.writer new.writer given (Err why) → IsAtEnd new.reader
      → Passes [] old new (shown_to watches sees ends tap tap') 1 why
  passes_rest tap tap' {old} {new} {given} {why} gave is wrote at_end = record {
    given = given;
    written = wrote.written;
    pieces = pieces_of (watches tap) Output given;
    writes = wrote.writes;
    gave = gave_rest why new.reader old.chain new.chain given wrote.reason at_end is;
    all = wrote.all;
    shown = (tap', gave, not_told ends tap' (no_end (Err why) wrote.reason));
    joined = joined_given (watches tap) given;
    few = few_one (watches tap) Output given;
  }

  -- it took all, and the tap was told
  pub passes_end : (tap tap' tap'' : T) {old new : Ends} {given : List ℕ}
      → SeesAll sees tap (pieces_of (watches tap) Output given) tap' → ends tap' tap'' → given ≡ old.chain []
      → Wrote old.writer new.writer given (Ok tt) → IsAtEnd new.reader
      → Passes [] old new (shown_to watches sees ends tap tap'') 1 End
  passes_end tap tap' tap'' {given = given} gave told is wrote at_end = record {
    given = given;
    written = wrote.written;
    pieces = pieces_of (watches tap) Output given;
    writes = wrote.writes;
    gave = (at_end, is);
    all = wrote.all;
    shown = (tap', gave, told);
    joined = joined_given (watches tap) given;
    few = few_one (watches tap) Output given;
  }

  -- a read that failed took nothing
  pub read_and_passed_nothing : (tap : T) {old new : Ends} (times : ℕ) (why : Why)
      → Keeps old.reader new.reader → new.writer ≡ old.writer
      → Gave why new.reader old.chain new.chain [] [] → IsWritten why [] [] → is_end why ≡ false
      → ReadAndPassed old new (shown_to watches sees ends tap tap) times why
  read_and_passed_nothing tap {old} {new} times why keeps writer gave all goes_on = record {
    text = [];
    reads = Consumes-kept old.reader old.reader new.reader [] (Consumes-nil old.reader) keeps;
    passes = passes_nothing tap times why writer gave all goes_on;
  }

-- whatever the reader had left before
pub passes_after : {text : List ℕ} {old new : Ends} {tap : Shown} {most : ℕ} {why : Why} (reader : Option (List ℕ))
    → Passes text old new tap most why
    → Passes text (record { reader = reader; writer = old.writer; chain = old.chain }) new tap most why
passes_after reader passes = record {
  given = passes.given;
  written = passes.written;
  pieces = passes.pieces;
  writes = passes.writes;
  gave = passes.gave;
  all = passes.all;
  shown = passes.shown;
  joined = passes.joined;
  few = passes.few;
}

-- a read that gave no byte found the end, and then the stream was ended
pub read_and_passed_end : {E : Type 0} {old new : Ends} {tap : Shown} {why : Why} {n : ℕ} (result : Result ℕ E) (buffer : List ℕ)
    → result ≡ Ok n → n ≡ 0 → ReadConsumes old.reader new.reader result buffer → 0 < length buffer
    → (IsAtEnd new.reader → Passes [] old new tap 1 why) → ReadAndPassed old new tap 1 why
read_and_passed_end {old = old} {new} result buffer took none read room passes =
    let reader = old.reader in
    let reader' = new.reader in
    let consumed = MatchResult-at_ok (λ k. Consumes reader reader' (take k buffer) × (k ≡ 0 → 0 < length buffer → IsAtEnd reader')) (λ _. Keeps reader reader') 0 (took ∙ ap Ok none) read in
    record {
      text = [];
      reads = consumed.0;
      passes = passes (consumed.1 refl room);
    }
