use Rattle.std.proofs.Common.{ℕ, List, refl, subst}
use Rattle.ucspi_tools.specs.Choices.{wanted}
use Rattle.ucspi_tools.specs.Runs.{Parts, Ran, Told, name_told}
use Rattle.ucspi_tools.proofs.program.run_words.Goals as goal

-- nothing was to be told before the run, and what it left is told with its fault
pub returns : goal.returns
returns g c =
    let parts : Parts g.row.I.Denot g.row.O.Denot g.row.C.Denot = record { lent = g.C.Calls.lent; left = g.I.Read.remaining; holds = g.O.Write.contents } in
    record {
      asked = wanted c.choose-choice.result;
      calls = c.choose-choice.ensures;
      between = c.run-answer.new.program;
      causes = c.run-answer.new.causes.items;
      answer = c.run-answer.result;
      ran =
          subst (λ (before : List ℕ). Ran parts (wanted c.choose-choice.result) c.args.program.now c.run-answer.new.program before c.run-answer.new.causes.items c.run-answer.result)
          c.new-causes.ensures.items c.run-answer.ensures;
      told =
          subst (λ (causes : List ℕ). Told g.C.Calls.lent (name_told (wanted c.choose-choice.result)) c.run-answer.result causes
          c.run-answer.new.program.calls c.end.new.calls) c.deref.ensures.value c.end.ensures.told;
      kept = (refl {a = c.run-answer.new.program.input}, refl {a = c.run-answer.new.program.output});
      exit = c.end.ensures.exit;
    }
