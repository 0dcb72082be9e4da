use Rattle.std.proofs.Common.{sym, ap, ◌∙◌}
use Rattle.stream_tools.specs.Entries.{bytes_found}
use Rattle.stream_tools.proofs.EntryLemmas.{word_more, words_all}
use Rattle.stream_tools.proofs.started.command_words.Goals as goal

pub loop-position-preserved : goal.loop-position-preserved
loop-position-preserved g c = λ honest.
    word_more (g.G.Given.words c.args.given.now) c.loop-position.words.items c.push.new.self.items c.in-Some.word c.loop-position.position
    (c.loop-position.invariant honest) (sym (ap bytes_found c.in-Some.is) ∙ c.in_ok-word.ensures honest) c.in_ok-push-in-Some.ensures.items

pub returns-in-None : goal.returns-in-None
returns-in-None g c = record {
  all = λ honest.
      words_all (g.G.Given.words c.args.given.now) c.loop-position.words.items c.loop-position.position
      (c.loop-position.invariant honest) (sym (ap bytes_found c.in-None.is) ∙ c.in_ok-word.ensures honest);
}
