-- What a line of a log adds to what was printed, and to the sums.
use Rattle.std.specs.Prelude.{◌≡◌, ℕ, ◌+◌, ◌<◌, ◌^◌, Bool, true, false, List, Option}
use Rattle.script_tool.specs.declared.verdicts.Sums.{Sums}
use Rattle.script_tool.specs.Logs.{is_changed, line_printed}
use Rattle.script_words.specs.LogLines.{Reading, Other, Unread, Tells}

-- there is room in the sums for a line more
pub record HasRoom (sums : Sums) : Type 0 where
  pub told : sums.told + 1 < 2 ^ 64
  pub changed : sums.changed + 1 < 2 ^ 64
  pub unread : sums.unread + 1 < 2 ^ 64

-- the sums with one verdict more, which would be another now or not
abbrev pub with_verdict : Bool → Sums → Sums
with_verdict true sums = record sums { told = sums.told + 1; changed = sums.changed + 1 }
with_verdict false sums = record sums { told = sums.told + 1 }

-- the sums with a line more
abbrev pub with_line : Option (List ℕ) → Reading → Sums → Sums
with_line text Other sums = sums
with_line text Unread sums = record sums { unread = sums.unread + 1 }
with_line text (Tells told) sums = with_verdict (is_changed text told) sums

-- a line was judged under a text: it prints what it should, and the sums count it
pub record Judges (text : Option (List ℕ)) (read : Reading) (before now : Sums) (out : List ℕ) : Type 0 where
  pub sums : now ≡ with_line text read before
  pub prints : out ≡ line_printed text read
