use Rattle.std.proofs.Common.{◌==◌}
use Rattle.script_words.proofs.PartLemmas.{three_of-more}
use Rattle.script_words.proofs.parts.three_parts.Goals as goal

pub returns-in-Some : goal.returns-in-Some
returns-in-Some c =
    three_of-more (λ b. b == c.args.at) c.args.text.now c.in_ok-first.rest.now c.in_ok-second.third.now _ _ _ _ c.in_ok-first.ensures c.in_ok-second.ensures c.in-Some.ensures
