-- What is added to bytes and then written.
use Rattle.std.proofs.Common.{subst, IfErr, ◌≡◌, ◌≢◌, ℕ, List, [], ◌∷◌, ◌++◌, Result, Ok, Err, refl, sym, ap, ◌∙◌, inl, inr, append_assoc, arith, length-append}
use Rattle.std.proofs.lemmas.List.{append-nil}
use Rattle.std.proofs.lemmas.List.Folds.{concat-append}
use Rattle.std.specs.List.{concat}
use Rattle.std.specs.Result.{result_and}
use Rattle.std.specs.declared.option.Option.{Option}
use Rattle.std.specs.Io.KnownBytes.{Appends}
use Rattle.byte_text.specs.Outcomes.{AppendsLine}
use Rattle.server_log.specs.Logs.{Adds, AreLeft, Holds, IsCut, IsLater, Logged, Takes, TellsInOrder}
use Rattle.server_log.specs.declared.lines.Lines.{Lines}
use Rattle.server_log.specs.declared.fault.LogFault.{LogFault}
use Rattle.server_log.specs.declared.fault.LogFault.TheVariants.{OutOfMemory, OutOfOrder, WriteFault}

-- ---- lines that are left

pub all_left : (lines : List (List ℕ)) → AreLeft lines lines
all_left [] = refl
all_left (line ∷ lines) = inl (lines, refl, all_left lines)

-- two parts of lines, one after the other
pub both_left : (xs ys some more : List (List ℕ)) → AreLeft xs some → AreLeft ys more → AreLeft (xs ++ ys) (some ++ more)
both_left [] ys some more is are = subst (λ (l : List (List ℕ)). AreLeft ys (l ++ more)) (sym is) are
both_left (x ∷ xs) ys some more (inl (rest, is, left)) are =
    inl (rest ++ more, ap (λ (l : List (List ℕ)). l ++ more) is, both_left xs ys rest more left are)
both_left (x ∷ xs) ys some more (inr left) are = inr (both_left xs ys some more left are)

-- ---- lines that are added

adds_line : {E : Type 0} (line old new : List ℕ) (done : Result (Unit {0}) E) → AppendsLine line old new done → Adds (line ∷ []) old new done
adds_line line old new (Ok done) is = is ∙ ap (λ (l : List ℕ). old ++ l) (sym (append-nil line))
adds_line line old new (Err e) is = ([], record { are = inr refl; fewer = omega arith }, is ∙ sym (append-nil old))

joined : (xs ys : List (List ℕ)) (old mid new : List ℕ) → mid ≡ old ++ concat xs → new ≡ mid ++ concat ys → new ≡ old ++ concat (xs ++ ys)
joined xs ys old mid new first second =
    second ∙ ap (λ (l : List ℕ). l ++ concat ys) first ∙ append_assoc old (concat xs) (concat ys) ∙ ap (λ (l : List ℕ). old ++ l) (sym (concat-append xs ys))

adds_both : {E : Type 0} (xs ys : List (List ℕ)) (old mid new : List ℕ) (first second : Result (Unit {0}) E) → Adds xs old mid first → Adds ys mid new second
    → Adds (xs ++ ys) old new (result_and first second)
adds_both xs ys old mid new (Ok done) (Ok done') one two = joined xs ys old mid new one two
adds_both xs ys old mid new (Ok done) (Err e) one (more, some, two) = (
  xs ++ more,
  record {
    are = both_left xs ys xs more (all_left xs) some.are;
    fewer = omega (arith, some.fewer, length-append xs more, length-append xs ys);
  },
  joined xs more old mid new one two,
)
adds_both xs ys old mid new (Err e) (Ok done) (more, some, one) two = (
  more ++ ys,
  record {
    are = both_left xs ys more ys some.are (all_left ys);
    fewer = omega (arith, some.fewer, length-append more ys, length-append xs ys);
  },
  joined more ys old mid new one two,
)
adds_both xs ys old mid new (Err e) (Err e') (more, some, one) (others, some', two) = (
  more ++ others,
  record {
    are = both_left xs ys more others some.are some'.are;
    fewer = omega (arith, some.fewer, some'.fewer, length-append more others, length-append xs ys);
  },
  joined more others old mid new one two,
)

-- a line more, where it is told
pub adds_told : {E : Type 0} (lines told : List (List ℕ)) (line old mid new : List ℕ) (first second both : Result (Unit {0}) E) → Adds lines old mid first
    → AppendsLine line mid new second → both ≡ result_and first second → told ≡ line ∷ [] → Adds (lines ++ told) old new both
adds_told lines told line old mid new first second both one two is same =
    rw (is, same) (adds_both lines (line ∷ []) old mid new first second one (adds_line line mid new second two))

-- lines as they are told
pub holds_as : {held : Lines} (lines told same : List (List ℕ)) → told ≡ same → Holds (lines ++ told) held → Holds (lines ++ same) held
holds_as {held} lines told same is holds = subst (λ (l : List (List ℕ)). Holds (lines ++ l) held) is holds

-- ---- bytes that are written

-- want of memory is no fault of a writer
pub takes_none : (bytes : List ℕ) (old new : Option (List ℕ)) (result : Result (Unit {0}) LogFault) → Takes bytes old new result → IfErr result (λ fault. fault ≡ WriteFault)
takes_none bytes old new (Ok done) took = tt
takes_none bytes old new (Err OutOfMemory) took = absurd took
takes_none bytes old new (Err OutOfOrder) took = absurd took
takes_none bytes old new (Err WriteFault) took = refl

-- one line, which took no memory
pub logged_line : (line : List ℕ) (old new : Option (List ℕ)) (result : Result (Unit {0}) LogFault) → Takes line old new result → Logged (line ∷ []) old new result
logged_line line old new (Ok done) took = subst (Appends old new) (sym (append-nil line)) took
logged_line line old new (Err OutOfMemory) took = absurd took
logged_line line old new (Err OutOfOrder) took = absurd took
logged_line line old new (Err WriteFault) (front, cut, took) = (line ∷ [], front, all_left (line ∷ []), subst (λ (l : List ℕ). IsCut l front) (sym (append-nil line)) cut, took)

-- the lines that were added
left_of : {E : Type 0} (lines : List (List ℕ)) (bytes : List ℕ) (added : Result (Unit {0}) E) → Adds lines [] bytes added
    → (left : List (List ℕ)) × AreLeft lines left × (bytes ≡ concat left)
left_of lines bytes (Ok done) is = (lines, all_left lines, is)
left_of lines bytes (Err e) (left, some, is) = (left, some.are, is)

-- the writer took a front of them
pub logged_front : {E : Type 0} (lines : List (List ℕ)) (bytes text : List ℕ) (old new : Option (List ℕ)) (added : Result (Unit {0}) E) (wrote : Result (Unit {0}) LogFault) (fault : LogFault)
    → wrote ≡ Err fault → text ≡ bytes → Takes text old new wrote → Adds lines [] bytes added → Logged lines old new (Err fault)
logged_front lines bytes text old new added wrote OutOfMemory is same took adds = absurd (subst (Takes text old new) is took)
logged_front lines bytes text old new added wrote OutOfOrder is same took adds = absurd (subst (Takes text old new) is took)
logged_front lines bytes text old new added wrote WriteFault is same took adds =
    let put = subst (Takes text old new) is took in
    let left = left_of lines bytes added adds in
    (left.0, put.0, left.1, subst (λ (l : List ℕ). IsCut l put.0) (same ∙ left.2) put.1, put.2)

-- ---- the order of events

-- what was written is told at a later position
pub tells_later : (lines : List (List ℕ)) (held held' : Option (List ℕ)) (old at new : ℕ) (result : Result (Unit {0}) LogFault) → Logged lines held held' result
    → IsLater old at → new ≡ at → TellsInOrder old at new result
tells_later lines held held' old at new (Ok done) logged later is = (later, is)
tells_later lines held held' old at new (Err OutOfMemory) logged later is = (later, is)
tells_later lines held held' old at new (Err OutOfOrder) logged later is = absurd logged
tells_later lines held held' old at new (Err WriteFault) logged later is = (later, is)

-- and is not refused
pub never_refused : (lines : List (List ℕ)) (held held' : Option (List ℕ)) (result : Result (Unit {0}) LogFault) → Logged lines held held' result → result ≢ Err OutOfOrder
never_refused lines held held' (Ok done) logged is = absurd (cc)
never_refused lines held held' (Err OutOfMemory) logged is = absurd (cc)
never_refused lines held held' (Err OutOfOrder) logged is = logged
never_refused lines held held' (Err WriteFault) logged is = absurd (cc)
