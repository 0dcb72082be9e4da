-- How many connections are alive and retired after one event more.
use Rattle.std.proofs.Common.{◌≡◌, ℕ, ◌+◌, ◌-◌, List, [], ◌∷◌, ◌++◌, length, Bool, true, false, ◌==◌, cond, refl, ap, ◌∙◌, arith, length-append}
use Rattle.std.specs.Prelude.{Option, Some, if◌then◌else◌}
use Rattle.std.specs.List.{count_by}
use Rattle.std.proofs.lemmas.List.Sums.{sum_by-cons}
use Rattle.server_events.specs.declared.event.Stage.{Stage}
use Rattle.server_events.specs.declared.event.Stage.TheVariants as stage
use Rattle.server_events.specs.declared.event.Event.{Event}
use Rattle.server_events.specs.declared.state.Connection.{Connection}
use Rattle.server_events.specs.ServerState.{Effect, ServerState, lets_in, opens, decides, brings, lets_go, comes_to, fails_at, ends_all, effect, may_happen, may_have, with_effect, with_stage, without, stage_of, is_retired, newcomer}
use Rattle.server_events.proofs.Limits.{length-with_stage}
use Rattle.server_events.proofs.Effects.{Sound, before_retired, is_admitted-true, is_opened-true, sound}

-- how many of some connections are retired
abbrev pub retired_in : List Connection → ℕ
retired_in cs = count_by (λ (c : Connection). is_retired c.stage) cs

abbrev pub one_retired : Connection → ℕ
one_retired c = cond (is_retired c.stage) 1 0

retired_in-cons : (c : Connection) (cs : List Connection) → retired_in (c ∷ cs) ≡ one_retired c + retired_in cs
retired_in-cons c cs = sum_by-cons one_retired c cs

pub retired_in-push : (cs : List Connection) (c : Connection) → retired_in (cs ++ c ∷ []) ≡ retired_in cs + one_retired c
retired_in-push [] c = retired_in-cons c [] ∙ omega arith
retired_in-push (d ∷ cs) c =
    let e = retired_in-push cs c in
    let whole = retired_in-cons d cs in
    let longer = retired_in-cons d (cs ++ c ∷ []) in
    omega arith

some_same : {X : Type 0} (x y : X) → ◌≡◌ {A = Option X} (Some x) (Some y) → x ≡ y
some_same x y e = cc

-- the weight of a stage
abbrev pub weight : Stage → ℕ
weight s = cond (is_retired s) 1 0

pub retired_in-with_stage : (n : ℕ) (s t : Stage) (cs : List Connection) → stage_of n cs ≡ Some t
    → retired_in (with_stage n s cs) + weight t ≡ retired_in cs + weight s
retired_in-with_stage n s t [] e = cc
retired_in-with_stage n s t (c ∷ cs) e =
    elim (c.serial == n) as (λ b. (if b then Some c.stage else stage_of n cs) ≡ Some t → retired_in (if b then ((record c { stage = s }) ∷ cs) else (c ∷ with_stage n s cs)) + weight t ≡ retired_in (c ∷ cs) + weight s) [
      | true ↦ λ here.
          let same = ap weight (some_same c.stage t here) in
          let whole = retired_in-cons c cs in
          let changed = retired_in-cons (record c { stage = s }) cs in
          omega arith
      | false ↦ λ below.
          let rest = retired_in-with_stage n s t cs below in
          let whole = retired_in-cons c cs in
          let changed = retired_in-cons c (with_stage n s cs) in
          omega arith
    ] e

pub retired_in-without : (n : ℕ) (t : Stage) (cs : List Connection) → stage_of n cs ≡ Some t → retired_in (without n cs) + weight t ≡ retired_in cs
retired_in-without n t [] e = cc
retired_in-without n t (c ∷ cs) e =
    elim (c.serial == n) as (λ b. (if b then Some c.stage else stage_of n cs) ≡ Some t → retired_in (if b then cs else (c ∷ without n cs)) + weight t ≡ retired_in (c ∷ cs)) [
      | true ↦ λ here.
          let same = ap weight (some_same c.stage t here) in
          let whole = retired_in-cons c cs in
          omega arith
      | false ↦ λ below.
          let rest = retired_in-without n t cs below in
          let whole = retired_in-cons c cs in
          let changed = retired_in-cons c (without n cs) in
          omega arith
    ] e

pub length-without-some : (n : ℕ) (t : Stage) (cs : List Connection) → stage_of n cs ≡ Some t → length (without n cs) + 1 ≡ length cs
length-without-some n t [] e = cc
length-without-some n t (c ∷ cs) e =
    elim (c.serial == n) as (λ b. (if b then Some c.stage else stage_of n cs) ≡ Some t → length (if b then cs else (c ∷ without n cs)) + 1 ≡ length (c ∷ cs)) [
      | true ↦ λ here. omega arith
      | false ↦ λ below. let rest = length-without-some n t cs below in omega arith
    ] e

-- how many are alive, and how many of them are retired, after an event
abbrev pub next_live : ℕ → Effect → ℕ
next_live live (lets_in n peer) = live + 1
next_live live (lets_go n from) = live - 1
next_live live ends_all = 0
next_live live _ = live

abbrev pub next_retired : ℕ → Effect → ℕ
next_retired retired (brings n from to) = retired + weight to
next_retired retired ends_all = 0
next_retired retired _ = retired

pub record Moves (w : ServerState) (x : Effect) : Type 0 where
  pub live : length (with_effect w x).connections ≡ next_live (length w.connections) x
  pub retired : retired_in (with_effect w x).connections ≡ next_retired (retired_in w.connections) x

staged : (w : ServerState) (n : ℕ) (s t : Stage) → is_retired t ≡ false → is_retired s ≡ false → stage_of n w.connections ≡ Some t
    → (length (with_stage n s w.connections) ≡ length w.connections)
    × (retired_in (with_stage n s w.connections) ≡ retired_in w.connections)
staged w n s t not_t not_s is =
    let sums = retired_in-with_stage n s t w.connections is in
    let of_t : weight t ≡ 0 = ap (λ (b : Bool). cond b 1 0) not_t in
    let of_s : weight s ≡ 0 = ap (λ (b : Bool). cond b 1 0) not_s in
    (length-with_stage n s w.connections, omega arith)

gone : (w : ServerState) (n : ℕ) (t : Stage) → is_retired t ≡ false → stage_of n w.connections ≡ Some t
    → (length (without n w.connections) ≡ length w.connections - 1) × (retired_in (without n w.connections) ≡ retired_in w.connections)
gone w n t not_t is =
    let sums = retired_in-without n t w.connections is in
    let of_t : weight t ≡ 0 = ap (λ (b : Bool). cond b 1 0) not_t in
    let less = length-without-some n t w.connections is in
    (omega arith, omega arith)

pub moves_with : (w : ServerState) (x : Effect) → Sound x → may_have w x ≡ true → Moves w x
moves_with w (lets_in n peer) its m =
    let more = length-append w.connections (newcomer n peer ∷ []) in
    let none = retired_in-push w.connections (newcomer n peer) in
    record { live = omega arith; retired = omega arith }
moves_with w (opens n there) its m =
    let both = staged w n stage.Opened stage.Admitted refl refl (is_admitted-true _ m) in
    record { live = both.0; retired = both.1 }
moves_with w (decides n decision) its m =
    let both = staged w n (stage.Decided decision.verdict) stage.Opened refl refl (is_opened-true _ m) in
    record { live = both.0; retired = both.1 }
moves_with w (brings n from to) its m =
    let had = its.had _ m in
    let sums = retired_in-with_stage n to had.0 w.connections had.1 in
    let none : weight had.0 ≡ 0 = ap (λ (b : Bool). cond b 1 0) (before_retired had.0 to had.2) in
    record { live = length-with_stage n to w.connections; retired = omega (arith, sums, none) }
moves_with w (lets_go n from) its m =
    let had = its.had _ m in
    let both = gone w n had.0 had.2 had.1 in
    record { live = both.0; retired = both.1 }
moves_with w (comes_to phase) its m = record { live = refl; retired = refl }
moves_with w (fails_at phase) its m = record { live = refl; retired = refl }
moves_with w ends_all its m = record { live = refl; retired = refl }

pub moves : (w : ServerState) (e : Event) → may_happen w e ≡ true → Moves w (effect e)
moves w e m = moves_with w (effect e) (sound e) m
