-- What a connection found when it opened the rules.
use Rattle.std.proofs.Common.{◌≡◌, ℕ, Bool, List, Option, Some, subst, sym}
use Rattle.std.specs.Option.{option_map}
use Rattle.std.specs.Prelude.{IsTrue}
use Rattle.dir_calls.specs.Directory.{Directory, content}
use Rattle.dir_calls.specs.declared.dir.Dir.{Ghosts}
use Rattle.rule_lookup.specs.declared.decision.WhenMissing.{WhenMissing}
use Rattle.tcp_service.specs.Openings.{IsFoundFor, Opening, StoodFor, StoodIn}
use Rattle.tcp_service.specs.declared.host.Rules.{Ghosts as RulesGhosts}

-- by what a folder gave under the name that they have
pub stood_there : {D : Type 0} (its : D → Type 0) (honest : Bool) (state : D → Directory) (folder : D)
    (named : Option (List ℕ)) (name : List ℕ) (there : Option (List ℕ)) → named ≡ Some name → its folder
    → (IsTrue honest → there ≡ content (state folder) name) → StoodIn its honest state named there
stood_there {D} its honest state folder named name there is own stood =
    subst (λ (n : Option (List ℕ)). StoodIn its honest state n there) (sym is) (folder, own, stood)

-- by the file that was opened for it
pub found_for : {R D F : Type 0} (bytes : F → List ℕ) (theirs : RulesGhosts R D) (folders : Ghosts D F) (rules : R)
    (missing : WhenMissing) (serial : ℕ) (file kept : Option F) (found : Opening) → found.bytes ≡ option_map bytes kept
    → kept ≡ file → found.missing ≡ missing → StoodFor theirs folders rules serial (option_map bytes file)
    → IsFoundFor theirs folders rules missing serial found
found_for bytes theirs folders rules missing serial file kept found has same without stood = record {
  stood = subst (StoodFor theirs folders rules serial) (sym has)
      (subst (λ (f : Option _). StoodFor theirs folders rules serial (option_map bytes f)) (sym same) stood);
  without = without;
}
