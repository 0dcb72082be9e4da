-- As many events as the journal has more are in the caller's share and in the book.
use Rattle.std.proofs.Common.{ℕ, rules, subst}
use Rattle.whole_yard.proofs.Counts.{share_counted, still_counted}
use Rattle.whole_yard.specs.WholeYards.{whole_books}
use Rattle.whole_yard.proofs.site.Guarded.turn.Goals as goal

pub returns : goal.returns
returns g c = record {
  counted = record {
    before = (whole_books c.args.self.now.yard).count;
    after = (whole_books c.run-answer.new.yard).count;
    answered = subst (λ (who : ℕ). g.T.WholeTurn.answers c.args.turn who (whole_books c.args.self.now.yard).count c.run-answer.result (whole_books c.run-answer.new.yard).count) c.number.ensures c.run-answer.ensures.answers;
    counted = share_counted _ _ _ _ c.run-answer.ensures.counts (search rules) (search rules);
    same_number = search rules;
  };
}

pub invariant_of-self : goal.invariant_of-self
invariant_of-self g c = record {
  counted = still_counted _ _ _ _ _ c.args.self.now.counted c.run-answer.ensures.counts (search rules) (search rules);
}
