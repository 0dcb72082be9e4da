-- What a run of the program is: the tool that its words ask for, what it does, and the code with which it exits.
use Rattle.std.specs.Prelude.{◌≡◌, ◌⊎◌, ℕ, Bool, true, false, List, [], Option, Some, None, Result, Ok, Err, IsTrue, IfSome, OnOk, drop, codes}
use Rattle.std.specs.Io.KnownBytes.{Appends}
use Rattle.std.specs.declared.io.Error.{Error}
use Rattle.byte_streams.specs.Wrapped.{added, deleted}
use Rattle.child_jobs.specs.declared.outcome.Status.{Status}
use Rattle.fault_hints.specs.declared.voice.Detail.{Detail}
use Rattle.fault_hints.specs.declared.voice.Voice.{Voice}
use Rattle.rules_tools.specs.declared.review.ReviewFault.{ReviewFault}
use Rattle.rules_tools.specs.declared.tcprules.RulesFailure.{RulesFailure}
use Rattle.rules_tools.specs.declared.tcprulescheck.CheckFailure.{CheckFailure}
use Rattle.script_words.specs.declared.fault.SimFault.{SimFault}
use Rattle.server_parts.specs.declared.fault.TcpserverFault.{TcpserverFault}
use Rattle.stream_tools.specs.Entries.{path_among}
use Rattle.stream_tools.specs.Filters.{Came}
use Rattle.stream_tools.specs.declared.between.BetweenFailure.{BetweenFailure}
use Rattle.stream_tools.specs.declared.filter.FilterFault.{FilterFault}
use Rattle.ucspi_tools.specs.Causes.{TellsCause, TellsLines, TellsReview, TellsRules, TellsStart, help_text}
use Rattle.ucspi_tools.specs.Choices as asked
use Rattle.ucspi_tools.specs.Choices.{CallsFor, Wanted, name_of, passing, tool_in, usage_text, words_text}
use Rattle.ucspi_tools.specs.Exits.{end_code, status_exit, warned_exit}
use Rattle.ucspi_tools.specs.declared.fault.ToolFault.{ToolFault}
use Rattle.ucspi_tools.specs.declared.fault.ToolFault.TheVariants as kind
use Rattle.ucspi_tools.specs.declared.program.Program.{Program}
use Rattle.ucspi_tools.specs.declared.tool.Tool.{Tool}

-- what a run answers: the exit code, or why it failed
abbrev pub Answer : Type 0
Answer = Result ℕ ToolFault

-- what each of the tools that are lent does, and what telling a fault does: the words that it gets, how all stand before
-- and after it, what it leaves to be told, and its own answer; and whether a person may be told to ask at a terminal
pub record Lent (C : Type 0) : Type 1 where
  pub serves : Voice → List (List ℕ) → C → C → List ℕ → Result (Unit {0}) TcpserverFault → Type 0
  pub simulates : C → C → Result (Unit {0}) SimFault → Type 0
  pub at_terminal : C → Bool → Type 0
  pub installs : List ℕ → List ℕ → C → C → Result (Unit {0}) RulesFailure → Type 0
  pub reviews : C → C → Result Bool ReviewFault → Type 0
  pub checks : List ℕ → C → C → Result (Unit {0}) CheckFailure → Type 0
  pub passes : Bool → List (List ℕ) → C → C → Result Status BetweenFailure → Type 0
  pub tells : List ℕ → ToolFault → List ℕ → C → C → Type 0

-- nothing is known of them
abbrev pub anything : {C : Type 0} → Lent C
anything =
    record {
      serves = λ voice words old new causes own. Unit {0};
      simulates = λ old new own. Unit {0};
      at_terminal = λ calls answer. Unit {0};
      installs = λ cdb tmp old new own. Unit {0};
      reviews = λ old new own. Unit {0};
      checks = λ cdb old new own. Unit {0};
      passes = λ recorded words old new own. Unit {0};
      tells = λ name fault causes old new. Unit {0};
    }

-- nothing is known of the tools, and telling a fault does this
abbrev pub telling : {C : Type 0} → (List ℕ → ToolFault → List ℕ → C → C → Type 0) → Lent C
telling tells = record anything { tells = tells }

-- the line of a fault was written, with its causes and its hint behind it, or a fault of writing came between
abbrev pub IsWritten : ToolFault → List ℕ → (old new : Option (List ℕ)) → Type 0
IsWritten fault causes old new = (outcome : Result (Unit {0}) Error) × TellsLines fault causes old new outcome

-- the tools, and what the two streams have left and hold
pub record Parts (I O C : Type 0) : Type 1 where
  pub lent : Lent C
  pub left : I → Option (List ℕ)
  pub holds : O → Option (List ℕ)

-- what is left of an answer that is nothing but a fault: exit code 0, or that fault
abbrev pub answered : {F : Type 0} → (F → ToolFault) → Result (Unit {0}) F → Answer
answered of (Ok done) = Ok 0
answered of (Err fault) = Err (of fault)

-- of one that a writer gave
abbrev pub written : Result (Unit {0}) Error → Answer
written (Ok done) = Ok 0
written (Err error) = Err kind.WriteFault

-- of one that a writer gave, where the words ask for nothing: bad input
abbrev pub listed : Result (Unit {0}) Error → Answer
listed (Ok done) = Ok 100
listed (Err error) = Err kind.WriteFault

-- a failure of `tcprules`, of it over a text alone, of `tcprulescheck`, and of a program between two streams, and what is
-- told of it behind its line
abbrev pub InstallEnds : Detail → List ℕ → List ℕ → Result (Unit {0}) RulesFailure → List ℕ → List ℕ → Answer → Type 0
InstallEnds detail cdb tmp (Ok done) before causes answer = (causes ≡ before) × (answer ≡ Ok 0)
InstallEnds detail cdb tmp (Err failure) before causes answer =
    TellsRules detail cdb tmp failure.fault failure.cause before causes × (answer ≡ Err (kind.Rules failure.fault))

abbrev pub ReviewEnds : Detail → Bool → Result Bool ReviewFault → List ℕ → List ℕ → Answer → Type 0
ReviewEnds detail strict (Ok warned) before causes answer = (causes ≡ before) × (answer ≡ Ok (warned_exit strict warned))
ReviewEnds detail strict (Err fault) before causes answer =
    TellsReview detail fault before causes × (answer ≡ Err (kind.Review fault))

abbrev pub CheckEnds : Detail → List ℕ → Result (Unit {0}) CheckFailure → List ℕ → List ℕ → Answer → Type 0
CheckEnds detail cdb (Ok done) before causes answer = (causes ≡ before) × (answer ≡ Ok 0)
CheckEnds detail cdb (Err failure) before causes answer =
    TellsCause detail (codes "tcprulescheck") cdb cdb failure.cause before causes
    × (answer ≡ Err (kind.Check failure.fault))

abbrev pub PassEnds : Detail → List ℕ → List (List ℕ) → Result Status BetweenFailure → List ℕ → List ℕ → Answer → Type 0
PassEnds detail tool words (Ok status) before causes answer = (causes ≡ before) × (answer ≡ Ok (status_exit status))
PassEnds detail tool words (Err failure) before causes answer =
    TellsStart detail tool words failure.error before causes × (answer ≡ Err (kind.Between failure.fault))

-- each of these tools runs once, with its words, and the answer is made of its own
abbrev pub Installs : {C : Type 0} → Lent C → Detail → List ℕ → List ℕ → C → C → List ℕ → List ℕ → Answer → Type 0
Installs lent detail cdb tmp old new before causes answer =
    (own : Result (Unit {0}) RulesFailure) × lent.installs cdb tmp old new own
    × InstallEnds detail cdb tmp own before causes answer

abbrev pub Reviews : {C : Type 0} → Lent C → Detail → Bool → C → C → List ℕ → List ℕ → Answer → Type 0
Reviews lent detail strict old new before causes answer =
    (own : Result Bool ReviewFault) × lent.reviews old new own × ReviewEnds detail strict own before causes answer

abbrev pub Checks : {C : Type 0} → Lent C → Detail → List ℕ → C → C → List ℕ → List ℕ → Answer → Type 0
Checks lent detail cdb old new before causes answer =
    (own : Result (Unit {0}) CheckFailure) × lent.checks cdb old new own × CheckEnds detail cdb own before causes answer

abbrev pub Passes : {C : Type 0} → Lent C → Detail → Bool → List (List ℕ) → C → C → List ℕ → List ℕ → Answer → Type 0
Passes lent detail recorded words old new before causes answer =
    (own : Result Status BetweenFailure) × lent.passes recorded words old new own
    × PassEnds detail (name_of (passing recorded)) words own before causes answer

-- a text was passed on, made so: all of it, to its end, where that is answered, and else as far as the fault says
abbrev pub Filtered : (made : List ℕ → List ℕ) → (read left wrote holds : Option (List ℕ)) → Result (Unit {0}) FilterFault → Type 0
Filtered made read left wrote holds own =
    Came made read left wrote holds own × OnOk own (IfSome read (λ text. Appends wrote holds (made text)))

-- what the program has but for its tools, and but for its streams, is as it was
abbrev pub KeepsStreams : {I O C : Type 0} → Program I O C → Program I O C → Type 0
KeepsStreams old new = (new.input ≡ old.input) × (new.output ≡ old.output)

abbrev pub KeepsTools : {I O C : Type 0} → Program I O C → Program I O C → List ℕ → List ℕ → Type 0
KeepsTools old new before causes = (new.calls ≡ old.calls) × (causes ≡ before)

-- a run without words: at a terminal all tools are listed, and else it is one of `rulesim`
abbrev pub RanUnasked : {I O C : Type 0} → Parts I O C → Bool → Program I O C → Program I O C → Answer → Type 0
RanUnasked parts true old new answer = (new.input ≡ old.input) × (new.calls ≡ old.calls)
    × ((own : Result (Unit {0}) Error) × (answer ≡ listed own))
RanUnasked parts false old new answer = KeepsStreams old new
    × ((own : Result (Unit {0}) SimFault) × parts.lent.simulates old.calls new.calls own
    × (answer ≡ answered kind.Script own))

-- a run of what is asked for, and nothing else: how the program stands before and after it, what is to be told behind the
-- line of a fault before and after it, and its answer. Wrong words run nothing
abbrev pub Ran : {I O C : Type 0} → Parts I O C → Wanted → Program I O C → Program I O C → List ℕ → List ℕ → Answer → Type 0
Ran parts (asked.serves voice words) old new before causes answer = KeepsStreams old new
    × ((own : Result (Unit {0}) TcpserverFault) × parts.lent.serves voice words old.calls new.calls causes own
    × (answer ≡ answered kind.Server own))
Ran parts asked.simulates old new before causes answer = KeepsStreams old new × (causes ≡ before)
    × ((own : Result (Unit {0}) SimFault) × parts.lent.simulates old.calls new.calls own
    × (answer ≡ answered kind.Script own))
Ran parts asked.unasked old new before causes answer = (causes ≡ before)
    × ((by_hand : Bool) × parts.lent.at_terminal old.calls by_hand × RanUnasked parts by_hand old new answer)
Ran parts (asked.installs detail cdb tmp) old new before causes answer =
    KeepsStreams old new × Installs parts.lent detail cdb tmp old.calls new.calls before causes answer
Ran parts (asked.reviews detail strict) old new before causes answer =
    KeepsStreams old new × Reviews parts.lent detail strict old.calls new.calls before causes answer
Ran parts (asked.checks detail cdb) old new before causes answer =
    KeepsStreams old new × Checks parts.lent detail cdb old.calls new.calls before causes answer
Ran parts (asked.passes recorded detail words) old new before causes answer =
    KeepsStreams old new × Passes parts.lent detail recorded words old.calls new.calls before causes answer
Ran parts asked.adds old new before causes answer = KeepsTools old new before causes
    × ((own : Result (Unit {0}) FilterFault) × (answer ≡ answered kind.Filter own)
    × Filtered added (parts.left old.input) (parts.left new.input) (parts.holds old.output) (parts.holds new.output) own)
Ran parts asked.deletes old new before causes answer = KeepsTools old new before causes
    × ((own : Result (Unit {0}) FilterFault) × (answer ≡ answered kind.Filter own)
    × Filtered deleted (parts.left old.input) (parts.left new.input) (parts.holds old.output) (parts.holds new.output) own)
Ran parts asked.version old new before causes answer = (new.input ≡ old.input) × KeepsTools old new before causes
    × ((own : Result (Unit {0}) Error) × (answer ≡ written own))
Ran parts asked.help old new before causes answer = (new.input ≡ old.input) × KeepsTools old new before causes
    × ((own : Result (Unit {0}) Error) × (answer ≡ written own))
Ran parts (asked.help_of tool) old new before causes answer = (new.input ≡ old.input) × KeepsTools old new before causes
    × ((own : Result (Unit {0}) Error) × (answer ≡ written own)
    × OnOk own (Appends (parts.holds old.output) (parts.holds new.output) (help_text (usage_text tool) (words_text tool))))
Ran parts (asked.usage_of detail tool) old new before causes answer =
    (new ≡ old) × (causes ≡ before) × (answer ≡ Err (kind.UsageOf tool detail))
Ran parts asked.usage old new before causes answer = (new ≡ old) × (causes ≡ before) × (answer ≡ Err kind.Usage)

-- a fault is told once, under this name, with its causes; where there is none nothing is told
abbrev pub Told : {C : Type 0} → Lent C → List ℕ → Answer → List ℕ → C → C → Type 0
Told lent name (Ok code) causes old new = new ≡ old
Told lent name (Err fault) causes old new = lent.tells name fault causes old new

-- the name of the program
abbrev pub program_name : List ℕ
program_name = codes "ucspi"

-- the name under which a fault is told: that of the tool that was asked for, or the program's
abbrev pub name_among : Option Tool → List ℕ
name_among None = program_name
name_among (Some tool) = name_of tool

abbrev pub name_told : Wanted → List ℕ
name_told asked = name_among (tool_in asked)

-- one run of the tool that a path and words ask for, from the words to the exit code
pub record RunsBy {I O C : Type 0} (parts : Parts I O C) (path : List ℕ) (words : List (List ℕ)) (old new : Program I O C) (code : ℕ) : Type 0 where
  pub asked : Wanted
  pub calls : CallsFor path words asked
  pub between : Program I O C
  pub causes : List ℕ
  pub answer : Answer
  pub ran : Ran parts asked old between [] causes answer
  pub told : Told parts.lent (name_told asked) answer causes between.calls new.calls
  pub kept : KeepsStreams between new
  pub exit : code ≡ end_code answer

-- there was no memory for the words: that is told, and nothing else is done
pub record LacksMemory {I O C : Type 0} (parts : Parts I O C) (old new : Program I O C) (code : ℕ) : Type 0 where
  pub told : parts.lent.tells program_name kind.OutOfMemory [] old.calls new.calls
  pub kept : KeepsStreams old new
  pub exit : code ≡ 111

-- the path and the words are all those that were given, where it is known what these are
pub record AreGiven (honest : Bool) (given : List (List ℕ)) (path : List ℕ) (words : List (List ℕ)) : Type 0 where
  pub called : IsTrue honest → path ≡ path_among given
  pub told : IsTrue honest → words ≡ drop 1 given

-- a run of the program, which was given these words: the tool that they ask for, or want of memory for them
abbrev pub Runs : {I O C : Type 0} → Bool → List (List ℕ) → Parts I O C → Program I O C → Program I O C → ℕ → Type 0
Runs honest given parts old new code =
    ((path : List ℕ) × (words : List (List ℕ)) × AreGiven honest given path words × RunsBy parts path words old new code)
    ⊎ LacksMemory parts old new code
