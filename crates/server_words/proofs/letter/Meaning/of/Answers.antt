use Rattle.std.proofs.Common.{◌∙◌, cond, ap}
use Rattle.std.specs.Str.{chars}
use Rattle.server_words.specs.declared.letter.Meaning.TheVariants.{Unknown}
use Rattle.server_words.specs.Letters.{listed_as, meaning_of}
use Rattle.server_words.proofs.letter.Meaning.of.Goals as goal

pub returns-then-is_mark : goal.returns-then-is_mark
unfolding meaning_of
returns-then-is_mark c =
    ap (λ is. cond is Unknown (listed_as (chars c.args.letters.now) c.args.letter)) c.if-is_mark.ensures

pub returns-else-is_mark : goal.returns-else-is_mark
unfolding meaning_of
returns-else-is_mark c =
    c.listed_as.ensures ∙ ap (λ is. cond is Unknown (listed_as (chars c.args.letters.now) c.args.letter)) c.if-is_mark.ensures
