-- The file that an installation makes, and how it is filled.
use Rattle.std.specs.Prelude.{ℕ, ◌+◌, ◌-◌, Bool, List, ◌++◌, length, take, replicate, if◌then◌else◌}
use Rattle.cdb_files.specs.Format.{records_of}
use Rattle.cdb_files.specs.Image.{image_of, tables_of}
use Rattle.cdb_files.specs.Written.{Written}
use Rattle.cdb_files.specs.Compiled.{stored}
use Rattle.rule_lookup.specs.Pairs.{Rule}

-- the compiled file of some rules
abbrev pub whole_file : List Rule → List ℕ
whole_file rules = image_of (stored rules)

-- the same without its pointers, which come last: until then they lead outside of the file, so that no part of it
-- decides
abbrev pub blank_file : List Rule → List ℕ
blank_file rules = replicate 2048 255 ++ records_of (stored rules) ++ tables_of (stored rules)

-- what stands in the scratch file once this many bytes were appended, and the pointers were put in place or not
abbrev pub filled_file : List Rule → ℕ → Bool → List ℕ
filled_file rules filled patched = if patched then whole_file rules else take filled (blank_file rules)

-- in how many steps it can still be filled at most: one for each byte, and one for the pointers
abbrev pub fillings_left : List Rule → ℕ → Bool → ℕ
fillings_left rules filled patched = (length (blank_file rules) - filled) + (if patched then 0 else 1)

-- it is the compiled file that is written of them
abbrev pub IsWritten : List Rule → Type 0
IsWritten rules = Written (whole_file rules) (stored rules)
