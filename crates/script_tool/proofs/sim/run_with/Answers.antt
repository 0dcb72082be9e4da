use Rattle.std.proofs.Common.{◌<◌, inl, arith, length, refl, ap, Err}
use Rattle.script_words.specs.declared.fault.SimFault.TheVariants.{ReadFault}
use Rattle.script_tool.specs.declared.sim.LineOutcome.TheVariants as LineOutcome
use Rattle.script_tool.specs.Sim.{after, start}
use Rattle.script_tool.proofs.RunLemmas.{at_bad_line, at_end, at_fault, at_line, at_log, at_no_memory, leads_to, at_write_fault, runs_from_start}
use Rattle.script_tool.proofs.sim.run_with.Goals as goal

pub loop-number-init : goal.loop-number-init
loop-number-init g c =
    ((start, c.requires), runs_from_start (g.W.Write.contents c.args.writer.now) (g.R.Read.remaining c.args.reader.now) c.args.kept.now c.requires)

pub returns-in-Ok-eq0 : goal.returns-in-Ok-eq0
returns-in-Ok-eq0 g c =
    at_end (g.W.Write.contents c.args.writer.now) _ (g.R.Read.remaining c.loop-number.reader) c.loop-number.number c.loop-number.kept (c.in-Ok-eq0.ensures.end c.in-Ok-eq0.field-0-test) (g.R.Read.remaining c.args.reader.now) c.loop-number.invariant.1

pub returns-in-Err-write_out : goal.returns-in-Err-write_out
returns-in-Err-write_out g c = at_write_fault (g.R.Read.remaining c.args.reader.now)

pub returns-in-Err-Bad : goal.returns-in-Err-Bad
returns-in-Err-Bad g c =
    let some : 0 < length c.read_until.new.buf.items = omega (arith, c.in-Ok.ensures.ok, c.read_until.new.buf.ok.0) in
    at_bad_line (g.W.Write.contents c.args.writer.now) _ (g.R.Read.remaining c.loop-number.reader) c.loop-number.number c.loop-number.kept c.read_until.new.buf.items c.clear.new.self.items c.clear.ensures.items c.in-Ok.ensures.bytes some (g.R.Read.remaining c.args.reader.now) (λ state at. (rw c.as_slice.ensures.value at c.in-Err-Bad.ensures.refused) state at (ap Err c.in-Err-Bad.field-0-is)) c.loop-number.invariant.1

pub loop-number-preserved : goal.loop-number-preserved
loop-number-preserved g c =
    let some : 0 < length c.read_until.new.buf.items = omega (arith, c.in-Ok.ensures.ok, c.read_until.new.buf.ok.0) in
    let leads = leads_to c.in-Ok-Printed.field-0 (LineOutcome.Printed c.in-Ok-Printed.out) c.in-Ok-Printed.field-0-is _ _ c.as_slice.ensures.value c.loop-number.kept c.answer.new.sim c.in-Ok-Printed.ensures.done in
    let carried = leads c.loop-number.invariant.0.0 c.loop-number.invariant.0.1 in (
      (after c.loop-number.invariant.0.0 carried.command, carried.state_now),
      at_line (g.W.Write.contents c.args.writer.now) (g.W.Write.contents c.loop-number.writer) (g.R.Read.remaining c.loop-number.reader) c.loop-number.number c.loop-number.kept c.read_until.new.buf.items c.clear.new.self.items c.clear.ensures.items c.in-Ok.ensures.bytes some (g.R.Read.remaining c.args.reader.now)
          (g.W.Write.contents c.write_out.new.writer) (g.R.Read.remaining c.read_until.new.self) c.answer.new.sim c.in-Ok-Printed.out.items leads c.in-Ok.ensures.rest (rw c.as_slice-in-Ok-Printed.ensures.value at c.in-Ok-write_out.ensures) c.loop-number.invariant.1,
    )

pub returns-in-Err : goal.returns-in-Err
returns-in-Err g c =
    at_fault (g.W.Write.contents c.args.writer.now) _ (g.R.Read.remaining c.loop-number.reader) c.loop-number.number c.loop-number.kept (g.R.Read.remaining c.args.reader.now) c.read_fault.result c.read_fault.ensures c.loop-number.invariant.1

pub returns-in-Err-OutOfMemory : goal.returns-in-Err-OutOfMemory
returns-in-Err-OutOfMemory g c =
    at_no_memory (g.W.Write.contents c.args.writer.now) _ (g.R.Read.remaining c.loop-number.reader) c.loop-number.number c.loop-number.kept (g.R.Read.remaining c.args.reader.now) c.loop-number.invariant.1

pub returns : goal.returns
returns g c =
    at_fault (g.W.Write.contents c.args.writer.now) _ (g.R.Read.remaining c.loop-number.reader) c.loop-number.number c.loop-number.kept (g.R.Read.remaining c.args.reader.now) ReadFault (inl refl) c.loop-number.invariant.1

pub read_log-requires : goal.read_log-requires
read_log-requires g c =
    let follows = leads_to c.in-Ok-LogFollows.field-0 LineOutcome.LogFollows c.in-Ok-LogFollows.field-0-is _ _ c.as_slice.ensures.value c.loop-number.kept c.answer.new.sim c.in-Ok-LogFollows.ensures.done in
    (c.loop-number.invariant.0.0, (follows c.loop-number.invariant.0.0 c.loop-number.invariant.0.1).0)

pub returns-in-Ok-LogFollows : goal.returns-in-Ok-LogFollows
returns-in-Ok-LogFollows g c =
    let some : 0 < length c.read_until.new.buf.items = omega (arith, c.in-Ok.ensures.ok, c.read_until.new.buf.ok.0) in
    let follows = leads_to c.in-Ok-LogFollows.field-0 LineOutcome.LogFollows c.in-Ok-LogFollows.field-0-is _ _ c.as_slice.ensures.value c.loop-number.kept c.answer.new.sim c.in-Ok-LogFollows.ensures.done in
    at_log (g.W.Write.contents c.args.writer.now) (g.W.Write.contents c.loop-number.writer) (g.R.Read.remaining c.loop-number.reader) c.loop-number.number c.loop-number.kept c.read_until.new.buf.items c.clear.new.self.items c.clear.ensures.items c.in-Ok.ensures.bytes some (g.R.Read.remaining c.args.reader.now)
    (g.W.Write.contents c.read_log.new.writer) (g.R.Read.remaining c.read_until.new.self) c.answer.new.sim c.read_log.result follows c.in-Ok.ensures.rest c.read_log.ensures c.loop-number.invariant.1
