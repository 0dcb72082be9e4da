use Rattle.std.proofs.Common.{[]}
use Rattle.server_log.specs.Pieces.{line_of}
use Rattle.server_log.proofs.LogLemmas.{adds_told}
use Rattle.server_log.proofs.lines.Lines.add.Goals as goal

pub returns-then-is_told : goal.returns-then-is_told
returns-then-is_told c = λ lines holds.
    let told = rw c.if-is_told.true at (c.is_told.ensures (line_of c.args.pieces.now)) in
    record { adds = adds_told lines _ _ [] _ _ _ _ _ holds.adds c.append_line-line.ensures c.and-self.ensures told }
