-- Whom a tool speaks to, and what it tells behind the line of a fault.
use Rattle.server_words.specs.declared.level.Level.{Level}
use Rattle.server_words.specs.declared.level.Level.TheVariants.{Quiet, Errors, All}
use Rattle.server_words.specs.declared.mode.Mode.{Mode}
use Rattle.server_words.specs.declared.mode.Mode.TheVariants.{HandedOver, Pumped}
use Rattle.fault_hints.specs.declared.voice.Detail.{Detail}
use Rattle.fault_hints.specs.declared.voice.Detail.TheVariants.{Line, Cause, Hint}
use Rattle.fault_hints.specs.declared.voice.Voice.{Voice}
use Rattle.fault_hints.specs.declared.voice.Voice.TheVariants.{Plain, Helpful}

-- a server that is called by its own name hands connections over
abbrev pub mode_by_name : Voice → Mode
mode_by_name Plain = Pumped
mode_by_name Helpful = HandedOver

-- under `-q` nothing; to a person a hint; to others the cause under `-v`
abbrev pub detail_of : Voice → Level → Detail
detail_of Plain Quiet = Line
detail_of Plain Errors = Line
detail_of Plain All = Cause
detail_of Helpful Quiet = Line
detail_of Helpful Errors = Hint
detail_of Helpful All = Hint
