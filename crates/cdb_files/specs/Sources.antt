-- How far a compiled file is known to answer what it holds.
use Rattle.std.specs.Prelude.{Bool, true, false}
use Rattle.rule_lookup.specs.Lookups.{Trust}
use Rattle.rule_lookup.specs.Lookups.Trust.{Unknown, Honest, Sound}

-- of a file of which it is known, or not, that it is honest and that it is sound
abbrev pub trust_of : Bool → Bool → Trust
trust_of honest true = Sound
trust_of true false = Honest
trust_of false false = Unknown
