-- What a pass has.
use Rattle.std.specs.Prelude.{◌≡◌, ℕ, Bool, List, Option, Some, None, Ok, option_map}
use Rattle.cdb_files.specs.Reading.{reading}
use Rattle.cdb_files.specs.Sources.{trust_of}
use Rattle.rule_lookup.specs.Lookups.{Trust, Sound, WhereKnown}
use Rattle.rule_lookup.specs.Decisions.{decision_from}
use Rattle.rule_lookup.specs.Peers.{Client}
use Rattle.rule_lookup.specs.declared.decision.Decision.{Decision}
use Rattle.rule_lookup.specs.declared.decision.WhenMissing.{WhenMissing}
use Rattle.server_yard.specs.declared.pass.Pass.{Pass}

-- the serial of its connection
abbrev pub pass_serial : {L F : Type 0} → Pass L F → ℕ
pass_serial pass = pass.serial

-- the file that was found
abbrev pub pass_file : {L F : Type 0} → Pass L F → Option F
pass_file pass = pass.file

-- the bytes of the file that was found
abbrev pub pass_bytes : {L F : Type 0} → (F → List ℕ) → Pass L F → Option (List ℕ)
pass_bytes bytes pass = option_map bytes (pass_file pass)

-- what a file holds is known as far as its source knows it; without a file it is known
abbrev pub trust_in : Bool → Bool → Option (List ℕ) → Trust
trust_in honest sound None = Sound
trust_in honest sound (Some bytes) = trust_of honest sound

-- `decide` decides so by what a pass has, for this peer, as far as what the file holds is known; `missing` is what is
-- decided without a file
abbrev pub IsDecidedBy : {L F : Type 0} → (missing : WhenMissing) → (honest sound : Bool) → (bytes : F → List ℕ)
    → Pass L F → Client → Decision → Type 0
IsDecidedBy missing honest sound bytes pass peer decision =
    WhereKnown (trust_in honest sound (pass_bytes bytes pass))
    (decision_from (option_map reading (pass_bytes bytes pass)) missing peer ≡ Ok decision)
