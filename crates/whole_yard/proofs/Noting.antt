-- Steps of installations, as they are noted.
use Rattle.std.proofs.Common.{◌≡◌, ◌≢◌, ℕ, ◌-◌, List, [], ◌∷◌, ◌++◌, length, take, Bool, true, false, Option, None, Some, refl, sym, ap, ◌∙◌, arith, length-append}
use Rattle.std.specs.Prelude.{Err, option_map}
use Rattle.dir_calls.specs.Directory.{Directory}
use Rattle.server_events.specs.Journals.{next_report, one_more}
use Rattle.server_events.specs.declared.journal.Noted.{Noted}
use Rattle.rule_lookup.specs.Pairs.{Rule}
use Rattle.rules_install.specs.Installing.{Installing, IsConsistent, next_of, next_phase}
use Rattle.rules_install.specs.Steps.{Changes, Goes}
use Rattle.dir_calls.specs.declared.phase.Phase.{Phase}
use Rattle.dir_calls.specs.declared.phase.Phase.TheVariants.{Fresh, Filling, Synced, Named, Done}
use Rattle.rules_install.specs.declared.fault.InstallFault.{InstallFault}
use Rattle.rules_install.specs.declared.fault.InstallFault.TheVariants.{Line, TooLarge, Disk, Over, OutOfMemory}
use Rattle.server_events.specs.ServerState.{ServerState, after, may_come, may_happen}
use Rattle.server_events.specs.declared.event.Event.{Event}
use Rattle.server_events.specs.declared.report.Report.{Report}
use Rattle.server_yard.specs.Rolls.{IsQuiet, Notes, NotesSome, Roll}
use Rattle.whole_yard.specs.Stepping.{MayFail, fault_event, without_last}

-- nothing was noted, and then an event
pub quiet_then : (e : Event) (a b c : Roll) → IsQuiet a b → Notes e b c → Notes e a c
quiet_then e a b c quiet noted = record {
  may = ap (λ (s : ServerState). may_happen s e) (sym quiet.stays) ∙ noted.may;
  happens = noted.happens ∙ ap (λ (s : ServerState). after s e) quiet.stays;
  speaks = noted.speaks ∙ quiet.speaks;
  tells = noted.tells ∙ ap (λ (r : Report). next_report r e) quiet.tells;
  counts = noted.counts ∙ ap one_more quiet.counts;
  stores = noted.stores ∙ ap (λ (o : Option (List Noted)). option_map (λ (notes : List Noted). notes ++ record { event = e; caller = b.speaker } ∷ []) o) quiet.stores ∙ ap (λ (k : ℕ). option_map (λ (notes : List Noted). notes ++ record { event = e; caller = k } ∷ []) a.books.notes) quiet.speaks;
}

pub quiet_both : (a b c : Roll) → IsQuiet a b → IsQuiet b c → IsQuiet a c
quiet_both a b c one two = record {
  stays = two.stays ∙ one.stays;
  speaks = two.speaks ∙ one.speaks;
  tells = two.tells ∙ one.tells;
  counts = two.counts ∙ one.counts;
  stores = two.stores ∙ one.stores;
}

pub quiet_then_some : (o : Option Event) (a b c : Roll) → IsQuiet a b → NotesSome o b c → NotesSome o a c
quiet_then_some None a b c quiet noted = quiet_both a b c quiet noted
quiet_then_some (Some e) a b c quiet noted = quiet_then e a b c quiet noted

-- the next phase may come
may_next_at : (reached : Option Phase) (patched : Bool) (before : Option Phase) → (reached ≡ Some Fresh → patched ≡ false)
    → reached ≢ Some Done → (reached ≢ None → before ≡ reached) → may_come before (next_of reached patched) ≡ true
may_next_at None patched before unfilled undone same = refl
may_next_at (Some Fresh) true before unfilled undone same = absurd (let never = unfilled refl in cc)
may_next_at (Some Fresh) false before unfilled undone same = ap (λ (o : Option Phase). may_come o Filling) (same (λ e. absurd (cc)))
may_next_at (Some Filling) true before unfilled undone same = ap (λ (o : Option Phase). may_come o Synced) (same (λ e. absurd (cc)))
may_next_at (Some Filling) false before unfilled undone same = ap (λ (o : Option Phase). may_come o Filling) (same (λ e. absurd (cc)))
may_next_at (Some Synced) patched before unfilled undone same = ap (λ (o : Option Phase). may_come o Named) (same (λ e. absurd (cc)))
may_next_at (Some Named) patched before unfilled undone same = ap (λ (o : Option Phase). may_come o Done) (same (λ e. absurd (cc)))
may_next_at (Some Done) patched before unfilled undone same = absurd (undone refl)

pub may_next : (s : Installing) (before : Option Phase) → IsConsistent s → s.reached ≢ Some Done → (s.reached ≢ None → before ≡ s.reached)
    → may_come before (next_phase s) ≡ true
may_next s before consistent undone same = may_next_at s.reached s.patched before (λ is. (consistent.unfilled is).1) undone same

-- and so a step to it may fail
pub may_fail : (fault : InstallFault) (s t : Installing) (next : Phase) (server : ServerState) → Goes next s t (Err fault)
    → may_come server.phase next ≡ true → MayFail server fault
may_fail (Line fault) s t next server goes may = tt
may_fail TooLarge s t next server goes may = tt
may_fail (Disk fault phase) s t next server goes may = ap (λ (p : Phase). may_come server.phase p) goes.0 ∙ may
may_fail Over s t next server goes may = tt
may_fail OutOfMemory s t next server goes may = tt

-- a list with one more, but for its last
take_all_but : {X : Type 0} (xs : List X) (x : X) → take (length xs) (xs ++ x ∷ []) ≡ xs
take_all_but [] x = refl
take_all_but (y ∷ ys) x = ap (λ (zs : List _). y ∷ zs) (take_all_but ys x)

without_push : {X : Type 0} (xs : List X) (x : X) → without_last (xs ++ x ∷ []) ≡ xs
without_push xs x =
    let long = length-append xs (x ∷ []) in
    let less : length (xs ++ x ∷ []) - 1 ≡ length xs = omega (arith, long) in
    ap (λ (n : ℕ). take n (xs ++ x ∷ [])) less ∙ take_all_but xs x

pub forgotten : (lists : Option (List (List Rule))) (rules : List Rule)
    → option_map without_last (option_map (λ (all : List (List Rule)). all ++ rules ∷ []) lists) ≡ lists
forgotten None rules = refl
forgotten (Some all) rules = ap (λ (xs : List (List Rule)). Some xs) (without_push all rules)

-- a step that is no event leaves the directory as it was
pub still_then : (s : Installing) (next : Phase) (d e : Directory) (fault : InstallFault) → Changes s next d e (Err fault)
    → fault_event fault ≡ None → e ≡ d
still_then s next d e (Line fault) changes none = changes
still_then s next d e TooLarge changes none = changes
still_then s next d e (Disk fault phase) changes none = absurd (cc)
still_then s next d e Over changes none = changes
still_then s next d e OutOfMemory changes none = changes
