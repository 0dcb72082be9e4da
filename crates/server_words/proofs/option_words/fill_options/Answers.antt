use Rattle.std.proofs.Common.{◌∙◌, ℕ, List, map, string_bytes, ap, rules}
use Rattle.server_words.specs.Words.{kind_of}
use Rattle.std.specs.Str.{chars}
use Rattle.server_words.proofs.WordLemmas.{Refuses-later}
use Rattle.server_words.proofs.option_words.fill_options.Goals as goal

pub returns-in_err-rest-in-Letters-clause-refused : goal.returns-in_err-rest-in-Letters-clause-refused
returns-in_err-rest-in-Letters-clause-refused c =
    let first = ap (map string_bytes) c.in-Some.ensures.cases.0 in
    let kind = c.in-Letters.ensures ∙ ap (λ (text : List ℕ). kind_of (chars text)) c.as_str.ensures.value in
    let refused = Refuses-later (chars c.args.letters.now) c.loop-word.options c.read_letters.new.options (map string_bytes c.args.words.now) (map string_bytes c.loop-word.rest.now) (string_bytes c.in-Some.word.now) (map string_bytes c.in-Some.after.now) (chars c.in-Letters.text.now) c.in_ok-wanting-in-Letters.wanting c.in_err-rest-in-Letters.field-0.0 c.loop-word.invariant first kind c.in_ok-wanting-in-Letters.ensures.read (c.in_err-rest-in-Letters.ensures.refused (chars c.args.letters.now)) in
    search rules
