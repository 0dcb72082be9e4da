-- What a command that was read means, and why a line gives none.
use Rattle.std.specs.Prelude.{◌≡◌, ℕ, List, map, Option, None, IsSome, true}
use Rattle.std.specs.Borrow.{Bor}
use Rattle.script_words.specs.declared.script.Command.{Command as Read}
use Rattle.script_words.specs.declared.script.Command.TheVariants as read
use Rattle.script_words.specs.declared.script.LineEnd.{LineEnd}
use Rattle.script_words.specs.declared.script.LineEnd.TheVariants.{Bad, OutOfMemory}
use Rattle.script_words.specs.Scripts.{Command, Skip, Add, Install, Begin, To, Stop, Ask, Open, AskBy, BeginEvents, AddEvent, Replay, Verdicts, command_of, has_words}

abbrev pub meaning : Read → Command
meaning read.Skip = Skip
meaning (read.Add text) = Add text.now
meaning read.Install = Install
meaning read.Begin = Begin
meaning (read.To phase) = To phase
meaning (read.Stop choice) = Stop choice
meaning (read.Ask peer) = Ask peer
meaning (read.Reader name) = Open name.now
meaning (read.AskBy name peer) = AskBy name.now peer
meaning (read.Events limit per_address) = BeginEvents limit per_address
meaning (read.Event event) = AddEvent event
meaning read.Replay = Replay
meaning read.Verdicts = Verdicts

-- the texts that words are
abbrev pub texts : List (Bor (List ℕ)) → List (List ℕ)
texts words = map (λ (word : Bor (List ℕ)). word.now) words

-- a refusal says that the words don't say such a thing; want of memory says that they do
abbrev pub RefusesAs : {X : Type 0} → Option X → LineEnd → Type 0
RefusesAs wanted Bad = wanted ≡ None
RefusesAs wanted OutOfMemory = IsSome wanted

-- why a line gives no command: it is bad; or it has words, and there was no memory for them or for what they name
abbrev pub RefusesLine : List ℕ → LineEnd → Type 0
RefusesLine line Bad = command_of line ≡ None
RefusesLine line OutOfMemory = has_words line ≡ true
