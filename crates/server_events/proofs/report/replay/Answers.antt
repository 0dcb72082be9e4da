use Rattle.std.proofs.Common.{◌≡◌, ◌+◌, ◌-◌, ◌<◌, [], ◌∷◌, ◌++◌, length, take, take_all, true, sym, ap, ◌∙◌, arith}
use Rattle.std.specs.Prelude.{max}
use Rattle.std.proofs.lemmas.Result.{err_from_is_err_and}
use Rattle.server_events.specs.Reports.{is_admission, most_of}
use Rattle.server_events.specs.Live.{retired_of}
use Rattle.server_events.specs.declared.state.Connection.{Connection}
use Rattle.std.specs.List.{count_by}
use Rattle.server_events.specs.ServerState.{ServerState, start, is_legal, state_after, may_happen, after, is_retired}
use Rattle.server_events.proofs.History.{take_next, legal_next, state_next, last_state_after}
use Rattle.server_events.proofs.LiveLemmas.{live_len, live_count, retired_count, most_up_to, most_next}
use Rattle.server_events.proofs.report.replay.Goals as goal

pub returns-then-not-may_happen-clause-refused : goal.returns-then-not-may_happen-clause-refused
returns-then-not-may_happen-clause-refused c =
    let es = c.args.events.now in let i = c.loop-event.event-index in let w = start c.args.limit c.args.per_address in
    let e = c.event-item.result in
    let here : i < length es = omega arith in
    let inv = c.loop-event.invariant in
    let next = legal_next w es i e here c.event-item.is inv.legal in
    let before : c.loop-event.taken + 1 - 1 ≡ i = omega arith in
    let up_to : c.loop-event.taken + 1 ≡ i + 1 = omega arith in
    record {
      before = ap (λ k. is_legal w (take k es)) before ∙ inv.legal;
      with_it = ap (λ k. is_legal w (take k es)) up_to ∙ next ∙ ap (λ (u : ServerState). may_happen u e) (sym inv.state) ∙ sym c.may_happen.ensures ∙ c.if-not-may_happen.true;
    }

pub returns-in_err-apply-clause-refused : goal.returns-in_err-apply-clause-refused
returns-in_err-apply-clause-refused c =
    let es = c.args.events.now in let i = c.loop-event.event-index in let w = start c.args.limit c.args.per_address in
    let e = c.event-item.result in
    let here : i < length es = omega arith in
    let inv = c.loop-event.invariant in
    let front : i + 1 - 1 ≡ i = omega arith in
    let p = err_from_is_err_and c.from_residual.result c.from_residual.ensures.1 in
    rw (p.1, p.2) (record {
      k = i + 1;
      event = e;
      event_k = take_next w es i e here c.event-item.is ∙ ap (λ k. take k es ++ e ∷ []) (sym front);
      lets_in = c.in_err-apply.ensures.memory;
      legal = legal_next w es i e here c.event-item.is inv.legal ∙ ap (λ (u : ServerState). may_happen u e) (sym inv.state) ∙ sym c.may_happen.ensures ∙ c.if-not-may_happen.false;
    })

pub loop-event-preserved : goal.loop-event-preserved
loop-event-preserved c =
    let es = c.args.events.now in let i = c.loop-event.event-index in let w = start c.args.limit c.args.per_address in
    let e = c.event-item.result in
    let here : i < length es = omega arith in
    let inv = c.loop-event.invariant in
    let legal = legal_next w es i e here c.event-item.is inv.legal ∙ ap (λ (u : ServerState). may_happen u e) (sym inv.state) ∙ sym c.may_happen.ensures ∙ c.if-not-may_happen.false in
    let state = c.in_ok-apply.ensures.applied ∙ ap (λ (u : ServerState). after u e) inv.state ∙ sym (state_next w es i e here c.event-item.is) in
    record {
      taken = omega arith;
      legal = legal;
      state = state;
      most =
          c.max-most.ensures
          ∙ ap (λ k. max k c.loop-event.most) (c.live.ensures ∙ ap (λ (u : ServerState). length u.connections) state ∙ sym (live_count c.args.limit c.args.per_address (take (i + 1) es) legal))
          ∙ ap (max (live_len (take (i + 1) es))) inv.most
          ∙ sym (most_next i es);
    }

pub returns-clause-report : goal.returns-clause-report
returns-clause-report c =
    let es = c.args.events.now in let i = c.loop-event.event-index in let w = start c.args.limit c.args.per_address in
    let inv = c.loop-event.invariant in
    let at_end : i ≡ length es = omega arith in
    let all : take i es ≡ es = take_all i es (omega arith) in
    let legal : is_legal w es ≡ true = ap (is_legal w) (sym all) ∙ inv.legal in
    let state : c.loop-event.state ≡ state_after w es = inv.state ∙ ap (state_after w) all in
    let last : c.last.result ≡ count_by is_admission es = c.last.ensures ∙ ap (λ (u : ServerState). u.last) state ∙ last_state_after w es legal ∙ omega arith in
    let live : c.live-2.result ≡ live_len es = c.live-2.ensures ∙ ap (λ (u : ServerState). length u.connections) state ∙ sym (live_count c.args.limit c.args.per_address es legal) in
    let retired : c.retired.result ≡ length (retired_of es) = c.retired.ensures ∙ ap (λ (u : ServerState). count_by (λ (x : Connection). is_retired x.stage) u.connections) state ∙ sym (retired_count c.args.limit c.args.per_address es legal) in
    let most : c.loop-event.most ≡ most_of es = inv.most ∙ ap (λ k. most_up_to k es) at_end in
    cc (last, live, retired, most)
