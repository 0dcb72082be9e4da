use Rattle.std.proofs.Common.{◌≡◌, ◌≤◌, ◌+◌, ◌-◌, length, drop}
use Rattle.std.specs.Prelude.{not}
use Rattle.std.specs.List.{prefix_len}
use Rattle.rule_lookup.specs.Lines.{is_blank}
use Rattle.child_jobs.proofs.hosts.split_words.Given as goal

abbrev pub invariant-loop-end : goal.invariant-loop-end
invariant-loop-end l = record {
  within : l.end ≤ length l.line;
  so_far : prefix_len (λ b. not (is_blank b)) l.line ≡ l.end + prefix_len (λ b. not (is_blank b)) (drop l.end l.line);
}

abbrev pub decreases-loop-end : goal.decreases-loop-end
decreases-loop-end l = length l.line - l.end
