use Rattle.std.proofs.lemmas.Option.{IfSome_then}
use Rattle.stream_tools.proofs.between.serve.Goals as goal

pub returns-clause-input : goal.returns-clause-input
returns-clause-input g c =
    IfSome_then c.pump_both.result c.pump_both.ensures.input (λ pumps ran. record {
      to = c.in-Some.to;
      watched = c.new.result;
      reader = c.new.ensures.reader;
      ran = ran;
    })

pub returns-clause-output : goal.returns-clause-output
returns-clause-output g c =
    IfSome_then c.pump_both.result c.pump_both.ensures.output (λ pumps ran. record { from = c.in-Some.from; ran = ran })
