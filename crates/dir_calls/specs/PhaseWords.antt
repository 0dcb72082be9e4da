-- The words for phases.
use Rattle.std.specs.Prelude.{ℕ, List, codes}
use Rattle.dir_calls.specs.declared.phase.Phase.{Phase}
use Rattle.dir_calls.specs.declared.phase.Phase.TheVariants.{Fresh, Filling, Synced, Named, Done}

abbrev pub phase_text : Phase → List ℕ
phase_text Fresh = codes "fresh"
phase_text Filling = codes "filling"
phase_text Synced = codes "synced"
phase_text Named = codes "named"
phase_text Done = codes "done"
