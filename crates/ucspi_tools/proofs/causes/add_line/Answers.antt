use Rattle.std.proofs.Common.{ℕ, List, Result, Ok, Err, inl, inr}
use Rattle.byte_text.specs.Outcomes.{AppendsLine}
use Rattle.fault_hints.specs.Lines.{line_text}
use Rattle.fault_hints.specs.declared.voice.Detail.TheVariants.{Hint}
use Rattle.rule_lines.specs.declared.fault.LineKind.{LineKind}
use Rattle.ucspi_tools.specs.Causes.{TellsFaulty}
use Rattle.ucspi_tools.proofs.causes.add_line.Goals as goal

-- the line was appended, or there was no memory for it
may_show : {E : Type 0} (kind : LineKind) (address instructions old new : List ℕ) (result : Result (Unit {0}) E) → AppendsLine (line_text kind address instructions) old new result → TellsFaulty Hint kind old new
may_show kind address instructions old new (Ok done) told = inr (address, instructions, told)
may_show kind address instructions old new (Err e) told = inl told

pub returns : goal.returns
returns c =
    may_show c.args.kind c.args.address.now c.args.instructions.now c.args.lines.now.items c.append_line.new.out.items c.append_line.result c.append_line.ensures
