use Rattle.std.proofs.Common.{◌≡◌, ◌∙◌, sym, subst, ℕ, List, string_bytes, IfOk}
use Rattle.stream_tools.proofs.WordLemmas.{text_in-text, text_in-no_text}
use Rattle.stream_tools.proofs.started.text_of.Goals as goal

pub returns-in-Ok : goal.returns-in-Ok
returns-in-Ok c =
    subst (λ (bytes : List ℕ). IfOk c.from_str.result (λ t. string_bytes t ≡ bytes))
    (c.in-Ok.ensures.cases.0 ∙ sym (text_in-text c.args.word.now c.in-Ok.ensures.cases.1)) c.from_str.ensures.ok

pub returns-in-Err : goal.returns-in-Err
returns-in-Err c = c.new.ensures.bytes ∙ sym (text_in-no_text c.args.word.now c.in-Err.ensures.cases.0)
