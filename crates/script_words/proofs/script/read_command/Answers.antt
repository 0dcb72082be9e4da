use Rattle.std.proofs.Common.{List, ℕ, sym, ap, ◌∙◌}
use Rattle.std.proofs.lemmas.Result.{IfOk-weaker}
use Rattle.rule_lookup.proofs.FormLemmas.{eqb-other}
use Rattle.script_words.specs.Scripts.{command_in, words_of}
use Rattle.script_words.proofs.ScriptLemmas.{command_of-words, command_of-no_text, refuses_line}
use Rattle.script_words.proofs.script.read_command.Goals as goal

pub returns-in-Ok-clause-read : goal.returns-in-Ok-clause-read
returns-in-Ok-clause-read c =
    let words = command_of-words c.in-Some.first.now c.args.line.now c.in-Some.rest.now c.in-Some.ensures.cases.0 (eqb-other _ _ c.if-first-eq35.false) (eqb-other _ _ c.if-first-eq124.false) c.in-Ok.ensures.cases.1 in
    IfOk-weaker c.read_words.result _ _ (λ command read. words ∙ (ap (λ (l : List ℕ). command_in (words_of l)) (sym c.in-Ok.ensures.cases.0) ∙ read)) c.read_words.ensures.read

pub returns-in-Ok-clause-refused : goal.returns-in-Ok-clause-refused
returns-in-Ok-clause-refused c =
    refuses_line c.in-Some.first.now c.args.line.now c.in-Some.rest.now c.in-Some.ensures.cases.0 (eqb-other _ _ c.if-first-eq35.false) (eqb-other _ _ c.if-first-eq124.false) c.in-Ok.ensures.cases.1 c.read_words.result
    (λ bad. ap (λ (l : List ℕ). command_in (words_of l)) (sym c.in-Ok.ensures.cases.0) ∙ c.read_words.ensures.refused bad)

pub returns-in-Err-clause-refused : goal.returns-in-Err-clause-refused
returns-in-Err-clause-refused c =
    command_of-no_text c.in-Some.first.now c.args.line.now c.in-Some.rest.now c.in-Some.ensures.cases.0 (eqb-other _ _ c.if-first-eq35.false) (eqb-other _ _ c.if-first-eq124.false) c.in-Err.ensures.cases.0
