-- A chain of line wrappers, and whether it refuses all pieces.
use Rattle.std.specs.Prelude.{Bool, List}
use Rattle.byte_streams.specs.declared.chain.Chain.{Chain}

abbrev pub wrappers_of : {S : Type 0} → Chain S → List S
wrappers_of chain = chain.wrappers.items

-- a call since its last renewal met want of memory, or ended the text
abbrev pub has_failed : {S : Type 0} → Chain S → Bool
has_failed chain = chain.failed
