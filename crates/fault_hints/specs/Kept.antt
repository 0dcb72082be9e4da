-- A reader that keeps the beginning of what it gives.
use Rattle.fault_hints.specs.declared.kept.KeepingReader.{KeepingReader}

-- the reader that it passes on
abbrev pub kept_reader : {R : Type 0} → KeepingReader R → R
kept_reader keeping = keeping.reader
