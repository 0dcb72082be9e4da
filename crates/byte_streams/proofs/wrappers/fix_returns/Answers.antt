use Rattle.std.proofs.Common.{◌≡◌, [], ◌∷◌, ◌++◌, take, sym, ap, ◌∙◌, append_assoc}
use Rattle.std.proofs.lemmas.List.{append-nil}
use Rattle.byte_streams.proofs.FeedLemmas.{goes_line}
use Rattle.byte_streams.proofs.PartLemmas.{behind, cut_at, one_line_all, one_line_before}
use Rattle.byte_streams.proofs.WrapperLemmas.{fixed_from-feed, line_end, missing_return}
use Rattle.byte_streams.proofs.wrappers.fix_returns.Goals as goal
use Rattle.byte_streams.proofs.wrappers.fix_returns.Goals.{then-not-after_cr+in_ok-extend_from_slice, else-not-after_cr}

pub note_return-requires : goal.note_return-requires
note_return-requires c = one_line_before c.loop-end.rest.now c.in-Some.end c.in-Some.ensures.0

pub loop-end-preserved : goal.loop-end-preserved
loop-end-preserved c =
    let text = c.loop-end.rest.now in
    let returned = c.in_ok-after_cr.after_cr in
    let mid : c.if-not-after_cr.out.items ≡ c.note_return.new.out.items ++ missing_return returned =
    elim c.if-not-after_cr.branch [
      | then-not-after_cr+in_ok-extend_from_slice w ↦ ap (λ v. v.items) w.out-is ∙ w.in_ok-extend_from_slice.ensures.items ∙ ap (λ t. c.note_return.new.out.items ++ missing_return t) (sym w.if-not-after_cr.true)
      | else-not-after_cr w ↦ ap (λ v. v.items) w.out-is ∙ sym (append-nil c.note_return.new.out.items) ∙ ap (λ t. c.note_return.new.out.items ++ missing_return t) (sym w.if-not-after_cr.false)
    ] in
    goes_line (take c.in-Some.end text) (behind text c.in-Some.end) (line_end returned) (cut_at text c.in-Some.end c.in-Some.ensures) c.loop-end.invariant
    c.in_ok-after_cr.ensures.fed (fixed_from-feed returned)
    (c.in_ok-extend_from_slice-2.ensures.items ∙ ap (λ x. x ++ 10 ∷ []) mid ∙ append_assoc c.note_return.new.out.items (missing_return returned) (10 ∷ []))

pub note_return-requires-2 : goal.note_return-requires-2
note_return-requires-2 c = one_line_all c.loop-end.rest.now c.in_default.ensures
