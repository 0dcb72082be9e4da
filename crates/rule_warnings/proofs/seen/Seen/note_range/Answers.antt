use Rattle.std.proofs.Common.{◌≡◌, List, ℕ, ◌++◌, ◌∷◌, [], Some, None, ap, refl, subst, ◌∙◌}
use Rattle.rule_warnings.specs.declared.spans.Span.{Span}
use Rattle.rule_warnings.specs.Spans.{around}
use Rattle.rule_warnings.specs.Tables.{items_of, spans_under}
use Rattle.rule_warnings.proofs.SpanLemmas.{noted-range}
use Rattle.rule_warnings.proofs.TableLemmas.{Updated, pushed}
use Rattle.rule_warnings.proofs.seen.Seen.note_range.Goals as goal

pub returns-in_ok-insert-in-Ok : goal.returns-in_ok-insert-in-Ok
returns-in_ok-insert-in-Ok c =
    let old = c.args.self.now in
    let new = record old { spans = c.insert.new.self } in
    let key = around c.args.front.now c.args.back.now in
    let span : Span = record { numbers = c.args.numbers; line = c.args.line } in
    let asked : c.deref.result.now ≡ key = c.deref.ensures.value ∙ c.in_ok-around.ensures in
    let had : items_of c.remove-spans.result ≡ spans_under old key = ap items_of c.remove-spans.ensures.value ∙ ap (spans_under old) asked in
    noted-range old new c.args.front.now c.args.back.now c.args.numbers c.args.line c.requires.range c.requires.earlier (λ other. refl)
    (pushed key old.spans c.remove-spans.new.self new.spans c.in-Ok.spans span
    (subst (λ (k : List ℕ). Updated k old.spans c.remove-spans.new.self None) asked c.remove-spans.ensures.updates)
    (subst (λ (k : List ℕ). Updated k c.remove-spans.new.self new.spans (Some c.in-Ok.spans)) c.in_ok-around.ensures c.in_ok-insert-in-Ok.ensures.updates)
    (c.in-Ok.ensures ∙ ap (λ (spans : List Span). spans ++ span ∷ []) had))
