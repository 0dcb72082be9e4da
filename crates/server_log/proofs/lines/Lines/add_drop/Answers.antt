use Rattle.std.proofs.Common.{refl}
use Rattle.server_log.proofs.LogLemmas.{holds_as}
use Rattle.server_log.proofs.lines.Lines.add_drop.Goals as goal

pub returns-in-Some : goal.returns-in-Some
returns-in-Some c = λ lines holds.
    holds_as lines _ _ (rw (← c.cause_words.ensures, c.in-Some.is, c.drop_line.ensures) refl) (c.add.ensures lines holds)
