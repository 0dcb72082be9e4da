-- A directory of which nothing is known.
use Rattle.std.specs.Prelude.{IsTrue, false, [], None}
use Rattle.std.specs.FinMap.{empty}
use Rattle.dir_calls.specs.Directory.{Directory}

-- stands where no directory is known
abbrev pub no_directory : Directory
no_directory = record { names = record { settled = empty; pending = [] }; files = []; scratch = None }

-- what is asked of an honest directory alone
pub not_honest : {A : Type 0} → IsTrue false → A
not_honest is = absurd (cc)
