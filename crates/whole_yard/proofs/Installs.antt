-- What the installations of a yard left, after one event more.
use Rattle.std.proofs.Common.{◌≡◌, ℕ, List, [], ◌∷◌, ◌++◌, map, Bool, true, false, cond, Option, None, Some, refl, sym, ap, subst, ◌∙◌}
use Rattle.std.proofs.lemmas.List.{append-nil, append_assoc}
use Rattle.std.specs.Prelude.{IfSome, option_map}
use Rattle.dir_calls.specs.Directory.{Directory}
use Rattle.rule_lookup.specs.Pairs.{Rule}
use Rattle.rules_install.specs.Installing.{Installing}
use Rattle.dir_calls.specs.declared.phase.Phase.{Phase}
use Rattle.headline.specs.Headline.{Reaches}
use Rattle.server_events.specs.ServerState.{ServerState, after, start, is_installations}
use Rattle.headline.specs.Steps.{Legal, none, more}
use Rattle.headline.specs.Worlds.{Accepted, RulesName, World}
use Rattle.server_events.specs.declared.event.Event.{Event}
use Rattle.server_events.specs.declared.event.Event.TheVariants.{Stepped, StepFailed}
use Rattle.headline.proofs.InstalledRuns.{legal_then}
use Rattle.whole_yard.specs.Installed.{IsInstalledBy, installs_of}
use Rattle.whole_yard.specs.Standing.{Begins, HasUnderWay, YardState}
use Rattle.whole_yard.proofs.Stepped.{GoesOn}

-- no rules are stored before the first installation
pub none_stored : {X : Type 0} (o : Option X) (lists : Option (List (List Rule))) → lists ≡ option_map (λ (x : X). []) o
    → IfSome lists (λ all. all ≡ [])
none_stored {X} o lists is = subst (λ (l : Option (List (List Rule))). IfSome l (λ all. all ≡ [])) (sym is) (go o)
  where
    go : (o : Option X) → IfSome (option_map (λ (x : X). []) o) (λ (all : List (List Rule)). all ≡ [])
    go None = tt
    go (Some x) = refl

-- the first world, in which nothing was installed
pub none_installed : (lists : Option (List (List Rule))) (d : Directory) (rules : Option RulesName) (limit per_address : ℕ)
    → IfSome lists (λ all. all ≡ []) → Begins d rules
    → IsInstalledBy lists (record { directory = d; rules = rules; server = start limit per_address; installing = None }) []
none_installed lists d rules limit per_address no_rules begins =
    let w : World = record { directory = d; rules = rules; server = start limit per_address; accepted = begins.texts; acknowledged = 0; under_way = None; kept = [] } in
    record {
      first = w;
      starts = record { begins = begins.stand; server = refl; acknowledged = refl; under_way = refl; kept = refl };
      world = w;
      legal = none;
      has_directory = refl;
      has_rules = refl;
      has_phase = refl;
      has_installing = refl;
      accepted = texts lists no_rules;
    }
  where
    texts : (o : Option (List (List Rule))) → IfSome o (λ all. all ≡ []) → IfSome o (λ all. begins.texts ≡ begins.texts ++ map Some all)
    texts None empty = tt
    texts (Some all) empty = sym (append-nil begins.texts) ∙ ap (λ (xs : List (List Rule)). begins.texts ++ map Some xs) (sym empty)

-- the history of the headline
abbrev pub reached_by : {lists : Option (List (List Rule))} {y : YardState} {h : List Event} → (is : IsInstalledBy lists y h)
    → Reaches (installs_of h) is.world
reached_by is = record { begin = is.first; starts = is.starts; legal = is.legal }

installs-push : (h : List Event) (e : Event) → installs_of (h ++ e ∷ []) ≡ installs_of h ++ installs_of (e ∷ [])
installs-push [] e = refl
installs-push (x ∷ xs) e =
    let rest = installs-push xs e in
    elim (is_installations x) as (λ b. cond b (x ∷ installs_of (xs ++ e ∷ [])) (installs_of (xs ++ e ∷ [])) ≡ cond b (x ∷ installs_of xs) (installs_of xs) ++ installs_of (e ∷ [])) [
      | true ↦ ap (λ (es : List Event). x ∷ es) rest
      | false ↦ rest
    ]

append-none : (es : List Event) → es ++ [] ≡ es
append-none [] = refl
append-none (x ∷ xs) = ap (λ (es : List Event). x ∷ es) (append-none xs)

pub installs-other : (h : List Event) (e : Event) → is_installations e ≡ false → installs_of (h ++ e ∷ []) ≡ installs_of h
installs-other h e other =
    installs-push h e ∙ ap (λ (b : Bool). installs_of h ++ cond b (e ∷ []) []) other ∙ append-none (installs_of h)

pub installs-one : (h : List Event) (e : Event) → is_installations e ≡ true → installs_of (h ++ e ∷ []) ≡ installs_of h ++ e ∷ []
installs-one h e one = installs-push h e ∙ ap (λ (b : Bool). installs_of h ++ cond b (e ∷ []) []) one

-- what is the same is installed by the same
pub installed_same : {lists lists' : Option (List (List Rule))} {y y' : YardState} {h h' : List Event} → lists' ≡ lists
    → y'.directory ≡ y.directory → y'.rules ≡ y.rules → y'.server.phase ≡ y.server.phase → y'.installing ≡ y.installing
    → installs_of h' ≡ installs_of h
    → IsInstalledBy lists y h → IsInstalledBy lists' y' h'
installed_same {lists} {lists'} {y} {y'} {h} {h'} l e r p i same is = record {
  first = is.first;
  starts = is.starts;
  world = is.world;
  legal = subst (λ (es : List Event). Legal is.first es is.world) (sym same) is.legal;
  has_directory = is.has_directory ∙ sym e;
  has_rules = is.has_rules ∙ sym r;
  has_phase = is.has_phase ∙ sym p;
  has_installing = subst (λ (o : Option Installing). HasUnderWay is.world o) (sym i) is.has_installing;
  accepted = subst (λ (o : Option (List (List Rule))). IfSome o (λ all. is.world.accepted ≡ is.first.accepted ++ map Some all)) (sym l) is.accepted;
}

-- one more step
pub installed_on : (lists lists' : Option (List (List Rule))) (y z : YardState) (h : List Event) (event : Event)
    → is_installations event ≡ true → z.rules ≡ y.rules → z.server ≡ after y.server event
    → ((a b : ServerState) → a.phase ≡ b.phase → (after a event).phase ≡ (after b event).phase) → (is : IsInstalledBy lists y h)
    → (v : World) → GoesOn is.world v event z.directory z.installing
    → IfSome lists' (λ all. v.accepted ≡ is.first.accepted ++ map Some all) → IsInstalledBy lists' z (h ++ event ∷ [])
installed_on lists lists' y z h event kind ruled happens phases is v on texts = record {
  first = is.first;
  starts = is.starts;
  world = v;
  legal = subst (λ (es : List Event). Legal is.first es v) (sym (installs-one h event kind)) (legal_then is.legal (more on.step none));
  has_directory = on.directory;
  has_rules = on.rules ∙ is.has_rules ∙ sym ruled;
  has_phase =
      ap (λ (x : ServerState). x.phase) on.server ∙ phases is.world.server y.server is.has_phase ∙ ap (λ (x : ServerState). x.phase) (sym happens);
  has_installing = on.under;
  accepted = texts;
}

pub step_phases : (p : Phase) (x y : ServerState) → x.phase ≡ y.phase → (after x (Stepped p)).phase ≡ (after y (Stepped p)).phase
step_phases p x y same = refl

pub fail_phases : (p : Phase) (x y : ServerState) → x.phase ≡ y.phase → (after x (StepFailed p)).phase ≡ (after y (StepFailed p)).phase
fail_phases p x y same = refl

-- the texts that are accepted, with one more list
map-push : (all : List (List Rule)) (rules : List Rule)
    → map (λ (r : List Rule). Some r) (all ++ rules ∷ []) ≡ map (λ (r : List Rule). Some r) all ++ Some rules ∷ []
map-push [] rules = refl
map-push (x ∷ xs) rules = ap (λ (rs : List (Option (List Rule))). Some x ∷ rs) (map-push xs rules)

pub texts_more : (lists : Option (List (List Rule))) (w v : World) (first : Accepted) (rules : List Rule)
    → v.accepted ≡ w.accepted ++ Some rules ∷ [] → IfSome lists (λ all. w.accepted ≡ first ++ map Some all)
    → IfSome (option_map (λ (all : List (List Rule)). all ++ rules ∷ []) lists) (λ all. v.accepted ≡ first ++ map Some all)
texts_more None w v first rules more_texts was = tt
texts_more (Some all) w v first rules more_texts was =
    more_texts ∙ ap (λ (xs : Accepted). xs ++ Some rules ∷ []) was ∙ append_assoc first (map (λ (r : List Rule). Some r) all) (Some rules ∷ []) ∙ ap (λ (xs : Accepted). first ++ xs) (sym (map-push all rules))

pub texts_same : (lists : Option (List (List Rule))) (w v : World) (first : Accepted) → v.accepted ≡ w.accepted
    → IfSome lists (λ all. w.accepted ≡ first ++ map Some all) → IfSome lists (λ all. v.accepted ≡ first ++ map Some all)
texts_same None w v first same was = tt
texts_same (Some all) w v first same was = same ∙ was
