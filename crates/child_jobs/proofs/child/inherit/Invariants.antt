use Rattle.std.proofs.Common.{◌≡◌, map, drop, Bor, List, ℕ}
use Rattle.std.specs.List.{fold}
use Rattle.child_jobs.specs.Child.{without_own}
use Rattle.child_jobs.specs.Variables.{without_value}
use Rattle.child_jobs.proofs.child.inherit.Given as goal

abbrev pub invariant-loop-name : goal.invariant-loop-name
invariant-loop-name l =
    fold without_value l.variables (map (λ (name : Bor (List ℕ)). name.now) (drop l.name-index l.name-items)) ≡ without_own l.inherited
