-- Connections whose serials rise.
use Rattle.std.proofs.Common.{◌≡◌, ℕ, zero, suc, ◌<◌, ◌≤◌, List, [], ◌∷◌, ◌++◌, length, get_or, true, false, ◌==◌, not, cond, Some, refl, sym, ap, arith, add-one}
use Rattle.std.specs.Prelude.{if◌then◌else◌}
use Rattle.std.specs.List.{filter}
use Rattle.std.specs.List.Sorted.{IsStrictlyIncreasing}
use Rattle.std.proofs.lemmas.Bool.Decides.{nat_tests}
use Rattle.server_events.specs.declared.event.Stage.{Stage}
use Rattle.server_events.specs.declared.state.Connection.{Connection}
use Rattle.server_events.specs.Live.{Life, life_of, lives_of, serials_of}
use Rattle.server_events.specs.ServerState.{stage_of, with_stage, without}

-- the serials rise strictly, from above one number up to another
abbrev pub Rise : ℕ → List Connection → ℕ → Type 0
Rise low [] high = low ≤ high
Rise low (c ∷ cs) high = (low < c.serial) × Rise c.serial cs high

pub Rise-le : (low : ℕ) (cs : List Connection) (high : ℕ) → Rise low cs high → low ≤ high
Rise-le low [] high h = h
Rise-le low (c ∷ cs) high h =
    let rest = Rise-le c.serial cs high h.1 in
    omega (arith, h.0)

pub Rise-lower : (low below : ℕ) (cs : List Connection) (high : ℕ) → below ≤ low → Rise low cs high → Rise below cs high
Rise-lower low below [] high l h = omega (arith, h)
Rise-lower low below (c ∷ cs) high l h = (omega (arith, h.0), h.1)

-- one connection more, above the others
pub Rise-push : (low : ℕ) (cs : List Connection) (high : ℕ) (c : Connection) → Rise low cs high → high < c.serial → Rise low (cs ++ c ∷ []) c.serial
Rise-push low [] high c h l = (omega (arith, h), omega arith)
Rise-push low (d ∷ cs) high c h l = (h.0, Rise-push d.serial cs high c h.1 l)

pub Rise-with_stage : (n : ℕ) (s : Stage) (low : ℕ) (cs : List Connection) (high : ℕ) → Rise low cs high → Rise low (with_stage n s cs) high
Rise-with_stage n s low [] high h = h
Rise-with_stage n s low (c ∷ cs) high h =
    elim (c.serial == n) as (λ b. Rise low (if b then ((record c { stage = s }) ∷ cs) else (c ∷ with_stage n s cs)) high) [
      | true ↦ h
      | false ↦ (h.0, Rise-with_stage n s c.serial cs high h.1)
    ]

pub Rise-without : (n low : ℕ) (cs : List Connection) (high : ℕ) → Rise low cs high → Rise low (without n cs) high
Rise-without n low [] high h = h
Rise-without n low (c ∷ cs) high h =
    elim (c.serial == n) as (λ b. Rise low (if b then cs else (c ∷ without n cs)) high) [
      | true ↦ Rise-lower c.serial low cs high (omega (arith, h.0)) h.1
      | false ↦ (h.0, Rise-without n c.serial cs high h.1)
    ]

-- a serial that has a stage is among them
pub stage_of-le : (n : ℕ) (t : Stage) (low : ℕ) (cs : List Connection) (high : ℕ) → Rise low cs high → stage_of n cs ≡ Some t → n ≤ high
stage_of-le n t low [] high h e = absurd (cc)
stage_of-le n t low (c ∷ cs) high h e =
    let top = Rise-le c.serial cs high h.1 in
    elim (c.serial == n) as (λ b. (c.serial == n) ≡ b → (if b then Some c.stage else stage_of n cs) ≡ Some t → n ≤ high) [
      | true ↦ λ same here. grind (arith, nat_tests, same, top)
      | false ↦ λ other later. stage_of-le n t c.serial cs high h.1 later
    ] refl e

-- where all serials are above n, none of them is n
pub filter-above : (n low : ℕ) (cs : List Connection) (high : ℕ) → n ≤ low → Rise low cs high → filter (λ (x : Life). not (x.serial == n)) (lives_of cs) ≡ lives_of cs
filter-above n low [] high l h = refl
filter-above n low (c ∷ cs) high l h =
    let above = h.0 in
    let no : (c.serial == n) ≡ false = grind (arith, nat_tests, above, l) in
    rw no (ap (λ (xs : List Life). life_of c ∷ xs) (filter-above n c.serial cs high (omega (arith, above)) h.1))

-- the connection that goes is the only one with its serial
pub lives_of-without : (n low : ℕ) (cs : List Connection) (high : ℕ) → Rise low cs high → lives_of (without n cs) ≡ filter (λ (x : Life). not (x.serial == n)) (lives_of cs)
lives_of-without n low [] high h = refl
lives_of-without n low (c ∷ cs) high h =
    let kept = filter (λ (x : Life). not (x.serial == n)) (lives_of cs) in
    elim (c.serial == n) as (λ b. (c.serial == n) ≡ b → lives_of (if b then cs else (c ∷ without n cs)) ≡ cond (not b) (life_of c ∷ kept) kept) [
      | true ↦ λ same.
          let below : n ≤ c.serial = grind (arith, nat_tests, same) in
          sym (filter-above n c.serial cs high below h.1)
      | false ↦ λ other. ap (λ (xs : List Life). life_of c ∷ xs) (lives_of-without n c.serial cs high h.1)
    ] refl

serials_next : (low : ℕ) (cs : List Connection) (high : ℕ) → Rise low cs high → (k : ℕ) → suc k < length (serials_of (lives_of cs)) → get_or (serials_of (lives_of cs)) k 0 < get_or (serials_of (lives_of cs)) (suc k) 0
serials_next low [] high h k l = absurd (omega arith)
serials_next low (c ∷ []) high h k l = absurd (omega arith)
serials_next low (c ∷ d ∷ cs) high h zero l = h.1.0
serials_next low (c ∷ d ∷ cs) high h (suc k) l = serials_next c.serial (d ∷ cs) high h.1 k (omega arith)

pub IsStrictlyIncreasing-serials_of : (low : ℕ) (cs : List Connection) (high : ℕ) → Rise low cs high → IsStrictlyIncreasing (serials_of (lives_of cs))
IsStrictlyIncreasing-serials_of low cs high h k l = rw (add-one k) (serials_next low cs high h k (omega arith))
