-- What a command that was read does.
use Rattle.std.specs.Prelude.{◌≡◌, ℕ, List, ◌++◌, Some, false}
use Rattle.script_words.specs.Scripts.{Command, Verdicts}
use Rattle.script_tool.specs.declared.sim.LineOutcome.{LineOutcome}
use Rattle.script_tool.specs.declared.sim.LineOutcome.TheVariants as outcome
use Rattle.script_tool.specs.declared.simulation.Simulation.{Simulation}
use Rattle.script_tool.specs.Kept.{IsAt}
use Rattle.script_tool.specs.Sim.{State, after, command_at, printed, takes_log}

-- a command leads to the state after it, and what it prints is added
abbrev pub Obeys : Command → State → Simulation → List ℕ → List ℕ → Type 0
Obeys command state now before printed_now =
    IsAt now (after state command) × (printed_now ≡ before ++ printed state command)

-- a line was carried out: from the state before to the one after, with what it prints
pub record Carries (line : List ℕ) (state : State) (now : Simulation) (out : List ℕ) : Type 0 where
  pub command : Command
  pub read : command_at state line ≡ Some command
  pub goes_on : takes_log command ≡ false
  pub state_now : IsAt now (after state command)
  pub prints : out ≡ printed state command

-- what became of a line: it was carried out, or the lines after it are a log
abbrev pub Leads : List ℕ → State → Simulation → LineOutcome → Type 0
Leads line state now (outcome.Printed out) = Carries line state now out.items
Leads line state now outcome.LogFollows = IsAt now state × (command_at state line ≡ Some Verdicts)
