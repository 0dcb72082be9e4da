use Rattle.std.proofs.Common.{◌≡◌, ◌++◌, map, take}
use Rattle.byte_text.specs.Fields.{mark}
use Rattle.byte_text.proofs.fields.push_marked.Given as goal

-- the bytes so far stand there, marked
abbrev pub invariant-loop-byte : goal.invariant-loop-byte
invariant-loop-byte l = l.out.items ≡ l.initial.out.items ++ map mark (take l.byte-index l.printed)
