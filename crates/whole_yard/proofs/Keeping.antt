-- A yard after an event of a connection.
use Rattle.std.proofs.Common.{◌≡◌, ◌<◌, ◌^◌, ℕ, List, [], ◌∷◌, ◌++◌, Bool, true, false, Option, None, Some, refl, sym, ap, subst, ◌∙◌}
use Rattle.std.specs.Prelude.{◌||◌, IfOk, IsTrue, Result, Ok, Err, is_some, option_map}
use Rattle.std.proofs.lemmas.Bool.{true≢false}
use Rattle.dir_calls.specs.declared.phase.Phase.{Phase}
use Rattle.dir_calls.specs.Directory.{Directory, content}
use Rattle.server_events.specs.Journals.{Books, FitsSerial}
use Rattle.rule_lookup.specs.Pairs.{Rule}
use Rattle.rule_lookup.specs.Lookups.{WhereKnown}
use Rattle.server_events.specs.ServerState.{Effect, ServerState, lets_in, opens, decides, brings, lets_go, comes_to, fails_at, ends_all, effect, is_connections, is_installations, of_connections, of_installations}
use Rattle.headline.specs.Worlds.{RulesName, StandsFor}
use Rattle.server_events.specs.declared.event.Event.{Event}
use Rattle.server_events.specs.declared.journal.Noted.{Noted}
use Rattle.headline.proofs.WholeText.{reached_whole}
use Rattle.whole_yard.specs.Installed.{KeepsHistory, IsWholeFile, installs_of}
use Rattle.server_yard.specs.Evidence.{Makes}
use Rattle.server_yard.specs.Passes.{trust_in}
use Rattle.server_yard.specs.Rolls.{Notes, NotesSome, Roll}
use Rattle.server_yard.specs.Yards.{yard_roll}
use Rattle.server_yard.specs.declared.evidence.Made.{Made}
use Rattle.server_yard.specs.declared.evidence.OutOfTurn.{OutOfTurn}
use Rattle.server_yard.specs.declared.yard.Yard.{Yard}
use Rattle.whole_yard.specs.ConnectionTurns.{NotesTold, told_if_made}
use Rattle.rules_install.specs.Installing.{Installing}
use Rattle.whole_yard.specs.Serving.{with_roll}
use Rattle.whole_yard.specs.Standing.{YardState}
use Rattle.whole_yard.specs.WholeYards.{IsSameBesides, whole_roll, whole_state}
use Rattle.whole_yard.specs.declared.yard.WholeYard.{WholeYard}
use Rattle.server_yard.proofs.Histories.{OneMore, history_on, history_same}
use Rattle.whole_yard.proofs.Installs.{installed_same, installs-other, reached_by}
use Rattle.headline.proofs.WovenSteps.{phase_stays}

other_by : (x : Effect) → of_connections x ≡ true → of_installations x ≡ false
other_by (lets_in m peer) k = refl
other_by (opens m there) k = refl
other_by (decides m decision) k = refl
other_by (brings m from to) k = refl
other_by (lets_go m from) k = refl
other_by (comes_to phase) k = absurd (cc)
other_by (fails_at phase) k = absurd (cc)
other_by ends_all k = refl

pub own_other : (e : Event) → is_connections e ≡ true → is_installations e ≡ false
own_other e k = other_by (effect e) k

-- what is noted is one event more
pub one_more_of : (e : Event) (old new : Roll) → old.server.limit < 2 ^ 64 → FitsSerial e → Notes e old new
    → OneMore old.books old.server e old.speaker new.books new.server
one_more_of e old new small fits noted = record {
  small = small;
  fits = fits;
  may = noted.may;
  happens = noted.happens;
  tells_so = noted.tells;
  counts = noted.counts;
  stores = noted.stores;
}

-- the installations of a history with one event of a connection more left the same
pub kept_on : {b b' : Books} {lists : Option (List (List Rule))} {y y' : YardState} {e : Event} {caller : ℕ}
    → is_connections e ≡ true → y'.directory ≡ y.directory → y'.rules ≡ y.rules → y'.installing ≡ y.installing
    → OneMore b y.server e caller b' y'.server → KeepsHistory b lists y → KeepsHistory b' lists y'
kept_on {b} {b'} {lists} {y} {y'} {e} {caller} own same r i more k = record {
  history = k.history ++ e ∷ [];
  is_history = history_on more k.history k.is_history;
  installed = installed_same refl same r (ap (λ (u : ServerState). u.phase) more.happens ∙ phase_stays y.server e own) i (installs-other k.history e (own_other e own)) k.installed;
}

-- a yard that is the same beside its events is so over its directory
pub own_then : {L D F : Type 0} {p : _} {q : _} {l : _} {d : _} (old new : WholeYard L D F p q l d) → IsSameBesides old new
    → whole_state new ≡ with_roll (whole_state old) (whole_roll new)
own_then {l = l} old new same = λ i.
    let y : YardState = record { directory = l.state (same.directory i); rules = same.rules i; server = (whole_roll new).server; installing = same.installing i } in y

-- what stands under the rules name is compiled of rules, or nothing
whole_of : (text : Option (List Rule)) (bytes : Option (List ℕ)) → StandsFor text bytes → IsWholeFile bytes
whole_of None bytes none = subst (λ (o : Option (List ℕ)). IsWholeFile o) (sym none) tt
whole_of (Some rules) bytes stands = subst (λ (o : Option (List ℕ)). IsWholeFile o) (sym stands.1) (rules, stands.2)

pub stands_whole : {b : Books} {lists : Option (List (List Rule))} {y : YardState} → KeepsHistory b lists y → (r : RulesName) → y.rules ≡ Some r → IsWholeFile (content y.directory r.name)
stands_whole {b} {lists} {y} k r is =
    let it = k.installed in
    let has = reached_whole (installs_of k.history) it.world r (reached_by it) (it.has_rules ∙ is) in
    subst (λ (x : Directory). IsWholeFile (content x r.name)) it.has_directory (whole_of has.now.text (content it.world.directory r.name) has.now.stands)

-- what is known of an honest file
pub known_of : (honest sound : Bool) (P : Type 0) (bytes : Option (List ℕ)) → IsTrue honest → WhereKnown (trust_in honest sound bytes) P → P
known_of honest sound P None is known = known
known_of true true P (Some bytes) is known = known
known_of true false P (Some bytes) is known = known
known_of false sound P (Some bytes) is known = absurd (cc)

pub if_ok : {X E : Type 0} {P Q : X → Type 0} (result : Result X E) → IfOk result P → ((x : X) → P x → Q x) → IfOk result Q
if_ok (Ok x) is then_so = then_so x is
if_ok (Err fault) is then_so = tt

-- nothing was noted
pub kept_quiet : {b b' : Books} {lists lists' : Option (List (List Rule))} {y y' : YardState}
    → b'.report ≡ b.report → b'.count ≡ b.count → b'.notes ≡ b.notes → lists' ≡ lists → y'.server ≡ y.server
    → y'.directory ≡ y.directory → y'.rules ≡ y.rules → y'.installing ≡ y.installing → KeepsHistory b lists y → KeepsHistory b' lists' y'
kept_quiet {b} {b'} {lists} {lists'} {y} {y'} t c o l w e r i k = record {
  history = k.history;
  is_history = history_same t c o w k.history k.is_history;
  installed = installed_same l e r (ap (λ (u : ServerState). u.phase) w) i refl k.installed;
}

pub is_some-map : {X Y : Type 0} (f : X → Y) (o : Option X) → is_some (option_map f o) ≡ is_some o
is_some-map f None = refl
is_some-map f (Some x) = refl

-- events are stored, or they are not, as before
noted_stored : (e : Event) (old new : Roll) → Notes e old new → is_some new.books.notes ≡ is_some old.books.notes
noted_stored e old new noted = ap (λ (o : Option (List Noted)). is_some o) noted.stores ∙ is_some-map _ old.books.notes

pub some_stored : (o : Option Event) (old new : Roll) → NotesSome o old new → is_some new.books.notes ≡ is_some old.books.notes
some_stored None old new quiet = ap (λ (o : Option (List Noted)). is_some o) quiet.stores
some_stored (Some e) old new noted = noted_stored e old new noted

pub told_stored : (told : Option Event) (old new : Roll) → NotesTold told old new → is_some new.books.notes ≡ is_some old.books.notes
told_stored None old new quiet = ap (λ (o : Option (List Noted)). is_some o) quiet.stores
told_stored (Some e) old new noted = noted_stored e old new noted.1

-- after a turn of a connection the phase is the same, and so is what the installations left
pub phase_told : (told : Option Event) (old new : Roll) → NotesTold told old new → new.server.phase ≡ old.server.phase
phase_told None old new quiet = ap (λ (u : ServerState). u.phase) quiet.stays
phase_told (Some e) old new noted = ap (λ (u : ServerState). u.phase) noted.1.happens ∙ phase_stays old.server e noted.0

pub kept_told : (told : Option Event) (old new : Roll) → NotesTold told old new → old.server.limit < 2 ^ 64
    → (lists : Option (List (List Rule))) (d : Directory) (rules : Option RulesName) (i : Option Installing)
    → KeepsHistory old.books lists (record { directory = d; rules = rules; server = old.server; installing = i })
    → KeepsHistory new.books lists (record { directory = d; rules = rules; server = new.server; installing = i })
kept_told None old new quiet small lists d rules i k =
    kept_quiet quiet.tells quiet.counts quiet.stores refl quiet.stays refl refl refl k
kept_told (Some e) old new noted small lists d rules i k =
    kept_on noted.0 refl refl refl (one_more_of e old new small noted.2 noted.1) k

-- and what a yard's call of its event tells is so
pub makes_told : {L : Type 0} {p : _} (event : Event) (answer : Result Made OutOfTurn) (old new : Yard L p)
    → is_connections event ≡ true → FitsSerial event → Makes event answer old new
    → NotesTold (told_if_made event answer) (yard_roll old) (yard_roll new)
makes_told event (Ok made) old new own fits makes = (own, makes.made.noted, fits)
makes_told event (Err refusal) old new own fits makes =
    subst (λ (r : Roll). NotesTold None (yard_roll old) r) (sym (ap (λ y. yard_roll y) makes.out.1))
    (record { stays = refl; speaks = refl; tells = refl; counts = refl; stores = refl })

pub same_some : {X : Type 0} (x y : X) → ◌≡◌ {A = Option X} (Some x) (Some y) → x ≡ y
same_some x y e = cc

pub none_not_some : {X : Type 0} (x : X) → ◌≡◌ {A = Option X} None (Some x) → ⊥
none_not_some x e = true≢false (sym (ap (λ (o : Option _). is_some o) e))

-- no step was made
pub unstepped : (o : Option Phase) (over : Bool) → (is_some o || over) ≡ false → (o ≡ None) × (over ≡ false)
unstepped None over e = (refl, e)
unstepped (Some phase) over e = absurd (cc)
