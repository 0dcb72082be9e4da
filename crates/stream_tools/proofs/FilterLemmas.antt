-- How far a tool came that passes one stream on, by the end of its pump.
use Rattle.std.proofs.Common.{◌≡◌, ◌≢◌, ◌⊎◌, inl, inr, ℕ, Bool, true, false, List, [], ◌∷◌, ◌++◌, Option, None, Some, Result, Ok, Err, OnOk, IfSome, refl, sym, ap, subst, ◌∙◌, append-nil}
use Rattle.std.specs.Io.KnownBytes.{Appends, Consumes, IsAtEnd}
use Rattle.byte_streams.specs.Wrappers.{Gives, deleted_from, through}
use Rattle.byte_streams.specs.Pumps.{Ends, Gave, GivesFirst, IsWritten, Pumped}
use Rattle.byte_streams.specs.Taps.{Shown}
use Rattle.byte_streams.specs.declared.pumping.PumpEnd.{PumpEnd}
use Rattle.byte_streams.specs.declared.pumping.Why.{Why}
use Rattle.byte_streams.specs.declared.pumping.Why.TheVariants as why
use Rattle.stream_tools.specs.declared.filter.FilterFault.{FilterFault}
use Rattle.stream_tools.specs.Filters.{Came, EndWithNothing, Leaves, answer_of}

-- a chain of such wrappers writes nothing more at the end either
pub through_nothing : {S : Type 0} (rest : S → List ℕ → List ℕ) → EndWithNothing rest → (wrappers : List S) → through rest wrappers [] ≡ []
through_nothing rest ends [] = refl
through_nothing rest ends (wrapper ∷ wrappers) = ap (through rest wrappers) (ends wrapper) ∙ through_nothing rest ends wrappers

-- ---- how far it came

-- what the chain gave before its last call, and what it gives after
module _ (old new : List ℕ → List ℕ) (nothing : new [] ≡ []) (text given : List ℕ) where
  all_given : Gives old new text given → old text ≡ given
  all_given gives = ap old (sym (append-nil text)) ∙ gives [] ∙ ap (λ l. given ++ l) nothing ∙ append-nil given

  all_at_fault : (left : Option (List ℕ)) → Gives old new text given ⊎ (IsAtEnd left × (given ≡ old text)) → old text ≡ given
  all_at_fault left (inl gives) = all_given gives
  all_at_fault left (inr whole) = sym whole.1

IsMore : List ℕ → Type 0
IsMore [] = ⊥
IsMore (b ∷ more) = Unit {0}

some_left : (b : ℕ) (more : List ℕ) → b ∷ more ≢ []
unfolding IsMore
some_left b more none = subst IsMore none tt

-- what is left of what is made of the text, and what the answer tells of it
record Left (why : Why) (old : List ℕ → List ℕ) (unread : Option (List ℕ)) (text written : List ℕ) : Type 0 where
  left : List ℕ
  makes : old text ≡ written ++ left
  leaves : Leaves unread (answer_of why) left

none_left : (old : List ℕ → List ℕ) (text given written : List ℕ) → old text ≡ given → given ≡ written → old text ≡ written ++ []
none_left old text given written gave all = gave ∙ all ∙ sym (append-nil written)

front_left : (old : List ℕ → List ℕ) (text given written : List ℕ) → (gave : GivesFirst old text given) → given ≡ written → old text ≡ written ++ gave.0 []
front_left old text given written gave all = ap old (sym (append-nil text)) ∙ gave.1 [] ∙ ap (λ l. l ++ gave.0 []) all

left_by : (why : Why) (old new : List ℕ → List ℕ) → new [] ≡ [] → (r' : Option (List ℕ)) (text given written : List ℕ)
    → Gave why r' old new text given → IsWritten why given written → Left why old r' text written
left_by why.End old new nothing r' text given written gave all =
    record { left = []; makes = none_left old text given written (sym gave.1) all; leaves = (gave.0, refl) }
left_by why.ReadFault old new nothing r' text given written gave all =
    record { left = []; makes = none_left old text given written (all_given old new nothing text given gave) all; leaves = refl }
left_by why.ReadsOver old new nothing r' text given written gave all =
    record { left = []; makes = none_left old text given written (all_given old new nothing text given gave) all; leaves = refl }
left_by why.WriteFault old new nothing r' text given written gave all =
    record { left = all.0 ∷ all.1; makes = all_at_fault old new nothing text given r' gave ∙ all.2; leaves = some_left all.0 all.1 }
left_by why.ZeroWrite old new nothing r' text given written gave all =
    record { left = all.0 ∷ all.1; makes = all_at_fault old new nothing text given r' gave ∙ all.2; leaves = some_left all.0 all.1 }
left_by why.Failed old new nothing r' text given written gave all =
    record { left = gave.0 []; makes = front_left old text given written gave all; leaves = tt }
left_by why.OutOfMemory old new nothing r' text given written gave all =
    record { left = gave.0 []; makes = front_left old text given written gave all; leaves = tt }

pub came : {old new : Ends} {tap : Shown} {end : PumpEnd} {answer : Result (Unit {0}) FilterFault} → answer ≡ answer_of end.why → Pumped old new tap end → new.chain [] ≡ []
    → Came old.chain old.reader new.reader old.writer new.writer answer
came {old} {new} {tap} {end} is p nothing =
    let l : Left end.why old.chain new.reader p.text p.written = left_by end.why old.chain new.chain nothing new.reader p.text p.given p.written p.gave p.all in
    subst (λ a. Came old.chain old.reader new.reader old.writer new.writer a) (sym is)
    (record { text = p.text; written = p.written; left = l.left; reads = p.reads; writes = p.writes; makes = l.makes; leaves = l.leaves })

pub came_by : {make does : List ℕ → List ℕ} {r r' w w' : Option (List ℕ)} {answer : Result (Unit {0}) FilterFault} → make ≡ does → Came make r r' w w' answer → Came does r r' w w' answer
came_by {make} {does} {r} {r'} {w} {w'} {answer} is came = subst (λ m. Came m r r' w w' answer) is came

-- where it came to the end, all was passed on
whole_by : (answer : Result (Unit {0}) FilterFault) (make : List ℕ → List ℕ) (r r' w w' : Option (List ℕ)) (text written left : List ℕ)
    → Consumes r r' text → Appends w w' written → make text ≡ written ++ left → Leaves r' answer left → OnOk answer (IfSome r (λ all. Appends w w' (make all)))
whole_by (Err fault) make r r' w w' text written left reads writes makes leaves = tt
whole_by (Ok done) make None r' w w' text written left reads writes makes leaves = tt
whole_by (Ok done) make (Some xs) None w w' text written left reads writes makes leaves = absurd reads
whole_by (Ok done) make (Some xs) (Some ys) w w' text written left reads writes makes leaves =
    let whole : xs ≡ text = reads ∙ ap (λ l. text ++ l) leaves.0 ∙ append-nil text in
    subst (λ bytes. Appends w w' bytes) (sym (ap make whole ∙ makes ∙ ap (λ l. written ++ l) leaves.1 ∙ append-nil written)) writes

pub whole : {make : List ℕ → List ℕ} {r r' w w' : Option (List ℕ)} {answer : Result (Unit {0}) FilterFault} → Came make r r' w w' answer → OnOk answer (IfSome r (λ all. Appends w w' (make all)))
whole {make} {r} {r'} {w} {w'} {answer} c = whole_by answer make r r' w w' c.text c.written c.left c.reads c.writes c.makes c.leaves

-- ---- the chain of `delcr`

pub deleted_nothing : (held : Bool) → deleted_from held [] ≡ []
deleted_nothing false = refl
deleted_nothing true = refl

pub one_wrapper : {S : Type 0} (rest : S → List ℕ → List ℕ) (wrappers : List S) (wrapper : S) (make : List ℕ → List ℕ) → wrappers ≡ wrapper ∷ [] → rest wrapper ≡ make → through rest wrappers ≡ make
one_wrapper rest wrappers wrapper make is does = ap (through rest) is ∙ does
