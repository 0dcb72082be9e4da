-- The stage and the peer of the connection with a serial, where connections come, change and go.
use Rattle.std.proofs.Common.{◌≡◌, ℕ, ◌≤◌, List, [], ◌∷◌, ◌++◌, true, false, ◌==◌, Option, Some, None, inl, inr, refl, sym, ap, ◌∙◌, subst, arith}
use Rattle.std.specs.Prelude.{◌⊎◌, if◌then◌else◌, option_map}
use Rattle.std.proofs.lemmas.Bool.Decides.{nat_tests}
use Rattle.rule_lookup.specs.Peers.{Client}
use Rattle.server_events.specs.declared.event.Stage.{Stage}
use Rattle.server_events.specs.declared.state.Connection.{Connection}
use Rattle.server_events.specs.ServerState.{stage_of, with_stage, without, peer_of}
use Rattle.server_events.proofs.Serials.{Rise}

-- a connection that has a stage has a peer
pub stage_of-peer_of : (n : ℕ) (t : Stage) (cs : List Connection) → stage_of n cs ≡ Some t → (peer : Client) × (peer_of n cs ≡ Some peer)
stage_of-peer_of n t [] e = absurd (cc)
stage_of-peer_of n t (c ∷ cs) e =
    elim (c.serial == n) as (λ b. (if b then Some c.stage else stage_of n cs) ≡ Some t → (peer : Client) × ((if b then Some c.peer else peer_of n cs) ≡ Some peer)) [
      | true ↦ λ here. (c.peer, refl)
      | false ↦ λ later. stage_of-peer_of n t cs later
    ] e

-- ---- another stage

-- the stage of the connection itself, if it is there
pub stage_of-with_stage : (n : ℕ) (s : Stage) (cs : List Connection) → stage_of n (with_stage n s cs) ≡ option_map (λ (t : Stage). s) (stage_of n cs)
stage_of-with_stage n s [] = refl
stage_of-with_stage n s (c ∷ cs) =
    elim (c.serial == n) as (λ b. (c.serial == n) ≡ b → stage_of n (if b then ((record c { stage = s }) ∷ cs) else (c ∷ with_stage n s cs)) ≡ option_map (λ (t : Stage). s) (if b then Some c.stage else stage_of n cs)) [
      | true ↦ λ same. rw same
      | false ↦ λ other. rw other (stage_of-with_stage n s cs)
    ] refl

-- another connection keeps its stage
pub stage_of-with_stage_other : (n m : ℕ) (s : Stage) (cs : List Connection) → (m == n) ≡ false → stage_of n (with_stage m s cs) ≡ stage_of n cs
stage_of-with_stage_other n m s [] other = refl
stage_of-with_stage_other n m s (c ∷ cs) other =
    elim (c.serial == m) as (λ b. (c.serial == m) ≡ b → stage_of n (if b then ((record c { stage = s }) ∷ cs) else (c ∷ with_stage m s cs)) ≡ stage_of n (c ∷ cs)) [
      | true ↦ λ same. (let no : (c.serial == n) ≡ false = grind (arith, nat_tests, same, other) in rw no)
      | false ↦ λ apart. ap (λ (o : Option Stage). if c.serial == n then Some c.stage else o) (stage_of-with_stage_other n m s cs other)
    ] refl

constant_is : (s t : Stage) (o : Option Stage) → option_map (λ (x : Stage). s) o ≡ Some t → s ≡ t
constant_is s t None e = absurd (cc)
constant_is s t (Some x) e = cc

-- who has a stage then had it before, or is the one that changed to it
pub stage_of-with_stage_is : (n m : ℕ) (s t : Stage) (cs : List Connection) → stage_of n (with_stage m s cs) ≡ Some t → (((m == n) ≡ false) × (stage_of n cs ≡ Some t)) ⊎ ((m ≡ n) × (s ≡ t))
stage_of-with_stage_is n m s t cs e =
    elim (m == n) as (λ b. (m == n) ≡ b → (((m == n) ≡ false) × (stage_of n cs ≡ Some t)) ⊎ ((m ≡ n) × (s ≡ t))) [
      | true ↦ λ same.
          let it : m ≡ n = grind (arith, nat_tests, same) in
          let own = subst (λ (k : ℕ). stage_of n (with_stage k s cs) ≡ Some t) it e in
          inr (it, constant_is s t (stage_of n cs) (sym (stage_of-with_stage n s cs) ∙ own))
      | false ↦ λ other. inl (other, sym (stage_of-with_stage_other n m s cs other) ∙ e)
    ] refl

-- each keeps its peer
pub peer_of-with_stage : (n m : ℕ) (s : Stage) (cs : List Connection) → peer_of n (with_stage m s cs) ≡ peer_of n cs
peer_of-with_stage n m s [] = refl
peer_of-with_stage n m s (c ∷ cs) =
    elim (c.serial == m) as (λ b. peer_of n (if b then ((record c { stage = s }) ∷ cs) else (c ∷ with_stage m s cs)) ≡ peer_of n (c ∷ cs)) [
      | true ↦ refl
      | false ↦ ap (λ (o : Option Client). if c.serial == n then Some c.peer else o) (peer_of-with_stage n m s cs)
    ]

-- ---- one that goes

pub stage_of-without_other : (n m : ℕ) (cs : List Connection) → (m == n) ≡ false → stage_of n (without m cs) ≡ stage_of n cs
stage_of-without_other n m [] other = refl
stage_of-without_other n m (c ∷ cs) other =
    elim (c.serial == m) as (λ b. (c.serial == m) ≡ b → stage_of n (if b then cs else (c ∷ without m cs)) ≡ stage_of n (c ∷ cs)) [
      | true ↦ λ same. (let no : (c.serial == n) ≡ false = grind (arith, nat_tests, same, other) in rw no)
      | false ↦ λ apart. ap (λ (o : Option Stage). if c.serial == n then Some c.stage else o) (stage_of-without_other n m cs other)
    ] refl

pub peer_of-without_other : (n m : ℕ) (cs : List Connection) → (m == n) ≡ false → peer_of n (without m cs) ≡ peer_of n cs
peer_of-without_other n m [] other = refl
peer_of-without_other n m (c ∷ cs) other =
    elim (c.serial == m) as (λ b. (c.serial == m) ≡ b → peer_of n (if b then cs else (c ∷ without m cs)) ≡ peer_of n (c ∷ cs)) [
      | true ↦ λ same. (let no : (c.serial == n) ≡ false = grind (arith, nat_tests, same, other) in rw no)
      | false ↦ λ apart. ap (λ (o : Option Client). if c.serial == n then Some c.peer else o) (peer_of-without_other n m cs other)
    ] refl

-- a serial that is not above those from which the serials rise is not there
stage_of-below : (n low : ℕ) (cs : List Connection) (high : ℕ) → n ≤ low → Rise low cs high → stage_of n cs ≡ None
stage_of-below n low [] high l h = refl
stage_of-below n low (c ∷ cs) high l h =
    let above = h.0 in
    let no : (c.serial == n) ≡ false = grind (arith, nat_tests, above, l) in
    rw no (stage_of-below n c.serial cs high (omega (arith, above)) h.1)

peer_of-below : (n low : ℕ) (cs : List Connection) (high : ℕ) → n ≤ low → Rise low cs high → peer_of n cs ≡ None
peer_of-below n low [] high l h = refl
peer_of-below n low (c ∷ cs) high l h =
    let above = h.0 in
    let no : (c.serial == n) ≡ false = grind (arith, nat_tests, above, l) in
    rw no (peer_of-below n c.serial cs high (omega (arith, above)) h.1)

-- the one that goes is gone
pub stage_of-without : (n low : ℕ) (cs : List Connection) (high : ℕ) → Rise low cs high → stage_of n (without n cs) ≡ None
stage_of-without n low [] high h = refl
stage_of-without n low (c ∷ cs) high h =
    elim (c.serial == n) as (λ b. (c.serial == n) ≡ b → stage_of n (if b then cs else (c ∷ without n cs)) ≡ None) [
      | true ↦ λ same. (let below : n ≤ c.serial = grind (arith, nat_tests, same) in stage_of-below n c.serial cs high below h.1)
      | false ↦ λ other. rw other (stage_of-without n c.serial cs high h.1)
    ] refl

pub peer_of-without : (n low : ℕ) (cs : List Connection) (high : ℕ) → Rise low cs high → peer_of n (without n cs) ≡ None
peer_of-without n low [] high h = refl
peer_of-without n low (c ∷ cs) high h =
    elim (c.serial == n) as (λ b. (c.serial == n) ≡ b → peer_of n (if b then cs else (c ∷ without n cs)) ≡ None) [
      | true ↦ λ same. (let below : n ≤ c.serial = grind (arith, nat_tests, same) in peer_of-below n c.serial cs high below h.1)
      | false ↦ λ other. rw other (peer_of-without n c.serial cs high h.1)
    ] refl

-- who has a stage when one is gone had it before
pub stage_of-without_is : (n m : ℕ) (t : Stage) (low : ℕ) (cs : List Connection) (high : ℕ) → Rise low cs high → stage_of n (without m cs) ≡ Some t → stage_of n cs ≡ Some t
stage_of-without_is n m t low cs high h e =
    elim (m == n) as (λ b. (m == n) ≡ b → stage_of n cs ≡ Some t) [
      | true ↦ λ same.
          let it : m ≡ n = grind (arith, nat_tests, same) in
          let own = subst (λ (k : ℕ). stage_of n (without k cs) ≡ Some t) it e in
          let gone = stage_of-without n low cs high h in
          absurd (cc)
      | false ↦ λ other. sym (stage_of-without_other n m cs other) ∙ e
    ] refl

-- ---- one that comes

pub stage_of-push_other : (n : ℕ) (cs : List Connection) (c : Connection) → (c.serial == n) ≡ false → stage_of n (cs ++ c ∷ []) ≡ stage_of n cs
stage_of-push_other n [] c other = rw other
stage_of-push_other n (d ∷ cs) c other =
    ap (λ (o : Option Stage). if d.serial == n then Some d.stage else o) (stage_of-push_other n cs c other)

pub peer_of-push_other : (n : ℕ) (cs : List Connection) (c : Connection) → (c.serial == n) ≡ false → peer_of n (cs ++ c ∷ []) ≡ peer_of n cs
peer_of-push_other n [] c other = rw other
peer_of-push_other n (d ∷ cs) c other =
    ap (λ (o : Option Client). if d.serial == n then Some d.peer else o) (peer_of-push_other n cs c other)

-- who has a stage then had it before, or came with it
pub stage_of-push_is : (n : ℕ) (t : Stage) (cs : List Connection) (c : Connection) → stage_of n (cs ++ c ∷ []) ≡ Some t → (stage_of n cs ≡ Some t) ⊎ (c.stage ≡ t)
stage_of-push_is n t [] c e =
    elim (c.serial == n) as (λ b. (if b then Some c.stage else None) ≡ Some t → (None ≡ Some t) ⊎ (c.stage ≡ t)) [ true ↦ λ here. inr (cc) | false ↦ λ never. inl never ] e
stage_of-push_is n t (d ∷ cs) c e =
    elim (d.serial == n) as (λ b. (if b then Some d.stage else stage_of n (cs ++ c ∷ [])) ≡ Some t → ((if b then Some d.stage else stage_of n cs) ≡ Some t) ⊎ (c.stage ≡ t)) [
      | true ↦ λ here. inl here
      | false ↦ λ later. stage_of-push_is n t cs c later
    ] e
