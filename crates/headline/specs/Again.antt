-- A machine that is started again.
use Rattle.std.specs.Prelude.{◌≡◌, ◌≤◌, ℕ, List, [], ◌∷◌, slice_get, Option, Some, None}
use Rattle.rule_lookup.specs.Pairs.{Rule}
use Rattle.server_events.specs.ServerState.{start}
use Rattle.headline.specs.Worlds.{IsStart, StandsFor, World, standing}

-- a new server with these limits over what is left; it follows the rules under the same name, and knows this one text
-- alone
abbrev pub started_again : World → Option (List Rule) → ℕ → ℕ → World
started_again w text limit per_address = record {
  directory = w.directory;
  rules = w.rules;
  server = start limit per_address;
  accepted = text ∷ [];
  acknowledged = 0;
  under_way = None;
  kept = [];
}

-- one of the texts accepted before stands there, no older than the last acknowledged, and a new server may start with it
pub record BeginsAgain (w : World) (limit per_address : ℕ) : Type 0 where
  pub number : ℕ
  pub text : Option (List Rule)
  pub accepted : slice_get w.accepted number ≡ Some text
  pub recent : w.acknowledged ≤ number
  pub stands : StandsFor text (standing w)
  pub starts : IsStart (started_again w text limit per_address)
