-- What a read of an opened file gives.
use Rattle.std.specs.Prelude.{◌≡◌, ◌≤◌, ◌<◌, ℕ, List, ◌++◌, length, take, drop}

-- a read from a position of a file on filled the first n positions of a buffer with the bytes that stand there; n is at least
-- one if there are some and the buffer has room
pub record Gives (file : List ℕ) (position n : ℕ) (old new : List ℕ) : Type 0 where
  pub room : n ≤ length old
  pub inside : n ≤ length (drop position file)
  pub filled : new ≡ take n (drop position file) ++ drop n old
  pub some : position < length file → 0 < length old → 0 < n
