use Rattle.std.proofs.Common.{map, string_bytes, sym}
use Rattle.std.proofs.lemmas.Result.{IfOk-weaker, IfErr-weaker}
use Rattle.server_words.proofs.RuleLemmas.{refused_by_rules}
use Rattle.server_words.proofs.option_words.read_words.Goals as goal

pub returns-clause-read : goal.returns-clause-read
returns-clause-read c =
    IfOk-weaker c.read_options.result _ _ (λ r read. (c.by_the_rules.ensures c.args.letters.now (map string_bytes c.args.words.now) _).1 (sym read)) c.read_options.ensures.read

pub returns-clause-refused : goal.returns-clause-refused
returns-clause-refused c =
    IfErr-weaker c.read_options.result _ _ (refused_by_rules c.args.letters.now (map string_bytes c.args.words.now)) c.read_options.ensures.refused
