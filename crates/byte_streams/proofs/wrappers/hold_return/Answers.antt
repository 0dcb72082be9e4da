use Rattle.std.proofs.Common.{◌≡◌, ◌++◌, ap, sym, ◌∙◌, [], ◌∷◌}
use Rattle.std.proofs.lemmas.Bool.{ne_eqb}
use Rattle.std.proofs.lemmas.List.{append-nil}
use Rattle.byte_streams.proofs.WrapperLemmas.{held_text, hold_feeds, write_feeds}
use Rattle.byte_streams.proofs.wrappers.hold_return.Goals as goal
use Rattle.byte_streams.proofs.wrappers.hold_return.Goals.{then-held+in_ok-extend_from_slice, else-held}

pub returns-then-last-eq-CR-clause-fed : goal.returns-then-last-eq-CR-clause-fed
returns-then-last-eq-CR-clause-fed c =
    let mid : c.if-held.out.items ≡ c.args.out.now.items ++ held_text c.args.held =
    elim c.if-held.branch [
      | then-held+in_ok-extend_from_slice w ↦ ap (λ v. v.items) w.out-is ∙ w.in_ok-extend_from_slice.ensures.items ∙ ap (λ t. c.args.out.now.items ++ held_text t) (sym w.if-held.true)
      | else-held w ↦ ap (λ v. v.items) w.out-is ∙ sym (append-nil c.args.out.now.items) ∙ ap (λ t. c.args.out.now.items ++ held_text t) (sym w.if-held.false)
    ] in
    let cut = c.in-Some.ensures.cases.0 in
    let is = c.if-last-eq-CR.true in
    hold_feeds c.args.held c.in-Some.front.now (cut ∙ ap (λ b. c.in-Some.front.now ++ b ∷ []) is) c.requires mid c.in_ok-extend_from_slice-2.ensures.items

pub returns-clause-fed : goal.returns-clause-fed
returns-clause-fed c =
    let mid : c.if-held.out.items ≡ c.args.out.now.items ++ held_text c.args.held =
    elim c.if-held.branch [
      | then-held+in_ok-extend_from_slice w ↦ ap (λ v. v.items) w.out-is ∙ w.in_ok-extend_from_slice.ensures.items ∙ ap (λ t. c.args.out.now.items ++ held_text t) (sym w.if-held.true)
      | else-held w ↦ ap (λ v. v.items) w.out-is ∙ sym (append-nil c.args.out.now.items) ∙ ap (λ t. c.args.out.now.items ++ held_text t) (sym w.if-held.false)
    ] in
    let cut = c.in-Some.ensures.cases.0 in
    write_feeds c.args.held c.in-Some.front.now c.in-Some.last.now (ne_eqb c.in-Some.last.now 13 c.if-last-eq-CR.false) cut c.requires mid c.in_ok-extend_from_slice-3.ensures.items
