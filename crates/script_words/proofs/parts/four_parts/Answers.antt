use Rattle.std.proofs.Common.{◌==◌}
use Rattle.script_words.proofs.PartLemmas.{four_of-cons}
use Rattle.script_words.proofs.parts.four_parts.Goals as goal

pub returns : goal.returns
returns c =
    four_of-cons (λ b. b == c.args.at) c.args.text.now c.in_ok-first.rest.now _ _ _ _ c.in_ok-first.ensures c.in_ok-second.ensures
