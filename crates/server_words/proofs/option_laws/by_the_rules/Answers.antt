use Rattle.std.specs.Str.{chars}
use Rattle.server_words.proofs.RuleLemmas.{reads-from_reading, reading-from_reads}
use Rattle.server_words.proofs.option_laws.by_the_rules.Goals as goal

pub returns : goal.returns
returns c =
    λ letters words result. (reading-from_reads (chars letters) words result, reads-from_reading (chars letters) words result)
