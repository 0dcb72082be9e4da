use Rattle.std.proofs.Common.{sym, ◌∙◌}
use Rattle.server_words.proofs.LineWrapperLemmas.{named_at, none_left, unnamed_at}
use Rattle.server_words.proofs.wrapping.line_wrappers_of.Goals as goal

pub loop-name-preserved : goal.loop-name-preserved
loop-name-preserved c =
    named_at c.loop-name.line_wrappers.items c.args.names.now c.loop-name.name-index _ c.loop-name-test.true c.in-Some.line_wrapper c.push.new.self.items (sym c.named.ensures ∙ c.in-Some.is) c.in_ok-push-in-Some.ensures.items
    ∙ c.loop-name.invariant

pub returns-in-None-clause-refused : goal.returns-in-None-clause-refused
returns-in-None-clause-refused c =
    sym c.loop-name.invariant
    ∙ unnamed_at c.loop-name.line_wrappers.items c.args.names.now c.loop-name.name-index _ c.loop-name-test.true (sym c.named.ensures ∙ c.in-None.is)

pub returns-clause-read : goal.returns-clause-read
returns-clause-read c =
    sym c.loop-name.invariant ∙ none_left c.loop-name.line_wrappers.items c.args.names.now c.loop-name.name-index c.loop-name-test.false
