use Rattle.std.proofs.Common.{◌≡◌, take}
use Rattle.std.specs.List.{fold}
use Rattle.cdb_files.specs.Format.{hash_step}
use Rattle.cdb_files.proofs.key_hash.hash.Given as goal

abbrev pub invariant-loop-byte : goal.invariant-loop-byte
invariant-loop-byte l = l.h ≡ fold hash_step 5381 (take l.byte-index l.key)
