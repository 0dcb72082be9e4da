-- The bytes of a file in memory.
use Rattle.std.specs.Prelude.{ℕ, List}
use Rattle.std.specs.Arc.{arc_value}
use Rattle.memory_dirs.specs.declared.held.Held.{Held}
use Rattle.memory_dirs.specs.declared.held.Held.TheVariants.{Own, Shared}

abbrev pub held_bytes : Held → List ℕ
held_bytes (Own bytes) = bytes.items
held_bytes (Shared bytes) = (arc_value bytes).items
