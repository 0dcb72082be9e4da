-- Why words are refused, what is printed of it, and the exit code.
use Rattle.std.specs.Prelude.{ℕ, List, ◌++◌, codes, encode_utf8}
use Rattle.server_words.specs.declared.option_fault.WordFault.{WordFault}
use Rattle.server_words.specs.declared.option_fault.WordFault.TheVariants as word
use Rattle.server_words.specs.declared.fault.ServerWordsFault.{ServerWordsFault}
use Rattle.server_words.specs.declared.fault.ServerWordsFault.TheVariants as fault

-- the fault that an option word's is
abbrev pub fault_of_word : WordFault → ServerWordsFault
fault_of_word (word.Unknown letter) = fault.UnknownOption letter
fault_of_word (word.NoValue letter) = fault.NoValue letter
fault_of_word (word.NotInProfile letter) = fault.NotInProfile letter
fault_of_word (word.BadNumber letter) = fault.BadNumber letter
fault_of_word word.OutOfMemory = fault.OutOfMemory

-- the words for a fault
abbrev pub fault_text : ServerWordsFault → List ℕ
fault_text (fault.UnknownOption letter) = codes "unknown option -" ++ encode_utf8 letter
fault_text (fault.NoValue letter) = codes "option -" ++ encode_utf8 letter ++ codes " needs a value"
fault_text (fault.NotInProfile letter) = codes "option -" ++ encode_utf8 letter ++ codes " is not in this profile"
fault_text (fault.BadNumber letter) = codes "option -" ++ encode_utf8 letter ++ codes " has a bad number"
fault_text fault.Usage = codes "usage: tcpserver [options] host port prog [args]"
fault_text fault.BadWrappers = codes "bad wrappers"
fault_text fault.OutOfMemory = codes "out of memory"

-- wrong words end the program with 100, want of memory with 111
abbrev pub exit_of : ServerWordsFault → ℕ
exit_of (fault.UnknownOption letter) = 100
exit_of (fault.NoValue letter) = 100
exit_of (fault.NotInProfile letter) = 100
exit_of (fault.BadNumber letter) = 100
exit_of fault.Usage = 100
exit_of fault.BadWrappers = 100
exit_of fault.OutOfMemory = 111
