-- Which line is told of the cause of a fault, and what stands behind the line of a fault.
use Rattle.std.specs.Prelude.{◌≡◌, ◌⊎◌, ℤ, ℕ, List, [], ◌∷◌, ◌++◌, codes, Option, Some, None, Result, OnOk}
use Rattle.std.specs.declared.io.Error.{Error}
use Rattle.std.specs.Io.KnownBytes.{Appends}
use Rattle.byte_text.specs.Causes.{cause_text}
use Rattle.fault_hints.specs.declared.voice.Detail.{Detail}
use Rattle.fault_hints.specs.Lines.{line_text}
use Rattle.fault_hints.specs.declared.voice.Detail.TheVariants.{Line, Hint}
use Rattle.rules_tools.specs.Paths.{IsSplit, folder_path}
use Rattle.rules_tools.specs.declared.cause.CauseOf.{CauseOf}
use Rattle.rules_tools.specs.declared.cause.CauseOf.TheVariants as of
use Rattle.rules_tools.specs.declared.cause.ErrorCause.{ErrorCause}
use Rattle.rule_lines.specs.declared.fault.LineKind.{LineKind}
use Rattle.rules_tools.specs.declared.review.ReviewFault.{ReviewFault}
use Rattle.rules_tools.specs.declared.review.ReviewFault.TheVariants as review
use Rattle.rules_tools.specs.declared.tcprules.TcprulesFault.{TcprulesFault}
use Rattle.rules_tools.specs.declared.tcprules.TcprulesFault.TheVariants as rules
use Rattle.ucspi_tools.specs.Choices.{words_text}
use Rattle.ucspi_tools.specs.declared.fault.ToolFault.{ToolFault}
use Rattle.ucspi_tools.specs.declared.fault.ToolFault.TheVariants as fault
use Rattle.ucspi_tools.specs.declared.tool.Tool.{Tool}

-- the folder of a path
pub record IsFolder (path what : List ℕ) : Type 0 where
  pub folder : List ℕ
  pub name : List ℕ
  pub parts : IsSplit path folder name
  pub at : what ≡ folder_path folder

-- the name of what the system was asked for
abbrev pub IsNamed : CauseOf → List ℕ → List ℕ → List ℕ → Type 0
IsNamed of.Input cdb tmp what = what ≡ codes "stdin"
IsNamed of.Output cdb tmp what = what ≡ codes "stdout"
IsNamed of.Folder cdb tmp what = IsFolder cdb what
IsNamed of.Scratch cdb tmp what = what ≡ tmp
IsNamed of.Rules cdb tmp what = what ≡ cdb

-- the line of an error is added, with the system's words for it; nothing is where there was no memory for it, and where
-- the line of the fault is all that is told
abbrev pub TellsError : Detail → List ℕ → List ℕ → List ℕ → List ℕ → Type 0
TellsError Line tool what old new = new ≡ old
TellsError detail tool what old new = (new ≡ old) ⊎ ((why : List ℕ) × (new ≡ old ++ cause_text tool what why))

-- that of a cause, where there is one
abbrev pub TellsCause : Detail → List ℕ → List ℕ → List ℕ → Option ErrorCause → List ℕ → List ℕ → Type 0
TellsCause detail tool cdb tmp None old new = new ≡ old
TellsCause detail tool cdb tmp (Some cause) old new =
    (what : List ℕ) × IsNamed cause.of cdb tmp what × TellsError detail tool what old new

-- that of a program that was not started, which is the first of the words
abbrev pub TellsStart : Detail → List ℕ → List (List ℕ) → Option ℤ → List ℕ → List ℕ → Type 0
TellsStart detail tool (program ∷ words) (Some error) old new = TellsError detail tool program old new
TellsStart detail tool words error old new = new ≡ old

-- the line that shows a faulty line is added, or nothing is; nothing is where no hint is asked for
abbrev pub TellsFaulty : Detail → LineKind → List ℕ → List ℕ → Type 0
TellsFaulty Hint kind old new =
    (new ≡ old) ⊎ ((address : List ℕ) × (instructions : List ℕ) × (new ≡ old ++ line_text kind address instructions))
TellsFaulty detail kind old new = new ≡ old

-- what is told of a failure of `tcprules`: its faulty line, or its cause
abbrev pub TellsRules : Detail → List ℕ → List ℕ → TcprulesFault → Option ErrorCause → List ℕ → List ℕ → Type 0
TellsRules detail cdb tmp (rules.Line fault) cause old new = TellsFaulty detail fault.kind old new
TellsRules detail cdb tmp fault cause old new = TellsCause detail (codes "tcprules") cdb tmp cause old new

-- of `tcprules` over a text alone
abbrev pub TellsReview : Detail → ReviewFault → List ℕ → List ℕ → Type 0
TellsReview detail (review.Text fault) old new = TellsFaulty detail fault.kind old new
TellsReview detail fault old new = new ≡ old

-- what is told behind the line of a fault beside its causes: of a usage line what the words of the tool are
abbrev pub usage_hint : Tool → Detail → List ℕ
usage_hint tool Hint = words_text tool
usage_hint tool detail = []

abbrev pub hint_of : ToolFault → List ℕ
hint_of (fault.UsageOf tool detail) = usage_hint tool detail
hint_of other = []

-- the line of a fault is written, and behind it the causes and the hint
abbrev pub TellsLines : ToolFault → List ℕ → Option (List ℕ) → Option (List ℕ) → Result (Unit {0}) Error → Type 0
TellsLines fault causes old new outcome =
    (line : List ℕ) × OnOk outcome (Appends old new (line ++ causes ++ hint_of fault))

-- what the words of a tool are, as help prints it
abbrev pub help_text : List ℕ → List ℕ → List ℕ
help_text usage words = codes "usage: " ++ usage ++ codes "\n" ++ words
