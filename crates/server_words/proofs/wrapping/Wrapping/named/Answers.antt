use Rattle.std.proofs.Common.{rules}
use Rattle.server_words.specs.Wrappings.{line_wrappers_in, texts, wrapping_by_names, wrapping_of}
use Rattle.server_words.proofs.LineWrapperLemmas.{RefusesAs-map}
use Rattle.server_words.proofs.wrapping.Wrapping.named.Goals as goal

pub returns-in_err-line_wrappers-clause-refused : goal.returns-in_err-line_wrappers-clause-refused
returns-in_err-line_wrappers-clause-refused c =
    let refused = RefusesAs-map (wrapping_of c.split_recorder-records.result.0) (line_wrappers_in (texts c.split_recorder-records.result.1.now)) (wrapping_by_names (texts c.args.names.now)) _ c.split_recorder-records.ensures c.in_err-line_wrappers.ensures.refused in
    search rules
