-- Going on with the installation that was begun, up to a phase.
use Rattle.std.proofs.Common.{◌≡◌, Option, None, Some, sym, ap, subst, ◌∙◌}
use Rattle.std.specs.Option.{option_map}
use Rattle.memory_dirs.specs.declared.mem_dir.MemDir.{MemDir}
use Rattle.memory_dirs.specs.MemDir.{mem_state}
use Rattle.dir_calls.specs.declared.phase.Phase.{Phase}
use Rattle.script_tool.specs.declared.simulation.Progress.{Progress}
use Rattle.script_tool.specs.declared.simulation.Simulation.{Simulation}
use Rattle.script_tool.specs.Kept.{HasTexts, IsAt, IsInstalling, MayBeInstalling}
use Rattle.script_words.specs.Scripts.{To}
use Rattle.script_tool.specs.Sim.{BegunInstall, State, after, begun_to, texts_to}
use Rattle.script_tool.specs.Texts.{Texts, at_phases, later_of}
use Rattle.script_tool.proofs.InstallLemmas.{IsOfBegun-some, begun-none}

abbrev pub phase_told : Phase → Option BegunInstall → Option Phase
phase_told target = option_map (λ (b : BegunInstall). later_of b.reached target)

-- what is kept then, and the phase that is told
pub record GoesTo (target : Phase) (state : State) (now : Simulation) (reached : Option Phase) : Type 0 where
  pub at : IsAt now (after state (To target))
  pub tells : reached ≡ phase_told target state.begun

module _ (target : Phase) (state : State) (kept : Simulation) (at : IsAt kept state) (now : Simulation) (reached : Option Phase) where
  GoesTo-same : (now_is : Simulation) (reached_is : Option Phase) → now ≡ now_is → reached ≡ reached_is → GoesTo target state now_is reached_is → GoesTo target state now reached
  GoesTo-same now_is reached_is same told goes =
      subst (λ s. GoesTo target state s reached) (sym same) (subst (λ r. GoesTo target state now_is r) (sym told) goes)

  -- no installation was begun
  pub GoesTo-none : kept.begun ≡ None → now ≡ kept → reached ≡ None → GoesTo target state now reached
  GoesTo-none idle same told =
      let d = mem_state kept.dir in
      let none = begun-none d kept.begun state.begun idle at.begun in
      let begun = subst (λ b. MayBeInstalling d kept.begun (option_map (begun_to target) b)) (sym none) (subst (λ b. MayBeInstalling d kept.begun b) none at.begun) in
      GoesTo-same kept None same told (record {
        at = record {
          pending = at.pending;
          name = at.name;
          texts = subst (λ b. HasTexts d (texts_to target b state.texts)) (sym none) at.texts;
          begun = begun;
          readers = at.readers;
          history = at.history;
        };
        tells = sym (ap (phase_told target) none);
      })

  -- one was, and it went on
  module _ (p later : Progress) (dir : MemDir) (phase : Phase) (goes : (b : BegunInstall) (t : Texts) → IsInstalling (mem_state kept.dir) p b → HasTexts (mem_state kept.dir) t → (phase ≡ later_of b.reached target) × IsInstalling (mem_state dir) later (begun_to target b) × HasTexts (mem_state dir) (at_phases b.text b.reached target t)) where
    pub GoesTo-some : kept.begun ≡ Some p → now ≡ record kept { dir = dir; begun = Some later } → reached ≡ Some phase → GoesTo target state now reached
    GoesTo-some under_way same told =
        let d = mem_state dir in
        let b = IsOfBegun-some (mem_state kept.dir) kept.begun p state.begun under_way at.begun in
        let gone = goes b.of state.texts b.installing at.texts in
        GoesTo-same (record kept { dir = dir; begun = Some later }) (Some phase) same told (record {
          at = record {
            pending = at.pending;
            name = at.name;
            texts = subst (λ o. HasTexts d (texts_to target o state.texts)) (sym b.is) gone.2;
            begun = subst (λ o. MayBeInstalling d (Some later) (option_map (begun_to target) o)) (sym b.is) gone.1;
            readers = at.readers;
            history = at.history;
          };
          tells = ap Some gone.0 ∙ sym (ap (phase_told target) b.is);
        })
