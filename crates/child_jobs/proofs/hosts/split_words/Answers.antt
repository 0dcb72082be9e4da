use Rattle.std.proofs.Common.{◌≡◌, ap, ◌∙◌, sym, take, drop, length}
use Rattle.std.specs.Prelude.{not}
use Rattle.std.specs.List.{prefix_len}
use Rattle.rule_lookup.specs.Lines.{is_blank}
use Rattle.child_jobs.specs.HostRows.{after_blanks}
use Rattle.child_jobs.proofs.WordLemmas.{prefix_stops, prefix_all}
use Rattle.child_jobs.proofs.hosts.split_words.Goals as goal
use Rattle.child_jobs.proofs.hosts.split_words.Goals.{then-loop-end-test+else-not-is_blank, else-loop-end-test}

pub returns : goal.returns
returns c =
    let line = c.args.line.now in
    let so_far = c.loop-end.invariant.so_far in
    let far : prefix_len (λ b. not (is_blank b)) line ≡ c.loop-end.end = elim c.loop-end-test.branch [
      | then-loop-end-test+else-not-is_blank w ↦ prefix_stops (λ b. not (is_blank b)) line c.loop-end.end so_far w.loop-end-test.true (ap not (sym w.if-not-is_blank.ensures))
      | else-loop-end-test w ↦ prefix_all (λ b. not (is_blank b)) line c.loop-end.end so_far w.loop-end-test.false
    ] in
    let first = c.split_at.ensures.front ∙ ap (λ n. take n line) (sym far) in
    record {
      first = first;
      second = c.skip_blanks.ensures ∙ ap after_blanks (c.split_at.ensures.back ∙ ap (λ n. drop n line) (sym (ap length (sym first) ∙ c.split_at.ensures.front_len)));
    }
