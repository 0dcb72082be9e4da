use Rattle.std.proofs.Common.{◌<◌, inl, inr, arith, length, refl, ap, ◌∙◌}
use Rattle.std.specs.Io.BufRead.{strip_last}
use Rattle.script_words.specs.declared.fault.SimFault.TheVariants.{ReadFault, OutOfMemory}
use Rattle.script_tool.proofs.LogLemmas.{AreAtMost-line, judged_as, log_at_end, log_at_fault, log_at_line, log_from_start}
use Rattle.script_tool.proofs.verdicts.compare_log.Goals as goal
use Rattle.script_words.specs.LogLines.{reading}

pub loop-number-init : goal.loop-number-init
loop-number-init g c =
    (record { told = omega arith; changed = omega arith; unread = omega arith }, λ text reads. log_from_start text (g.W.Write.contents c.args.writer.now) (g.R.Read.remaining c.args.reader.now) _ refl refl refl)

pub returns-in-Ok-eq0 : goal.returns-in-Ok-eq0
returns-in-Ok-eq0 g c = λ text reads.
    log_at_end text (g.W.Write.contents c.args.writer.now) (g.W.Write.contents c.loop-number.writer) (g.R.Read.remaining c.loop-number.reader) c.loop-number.sums (g.R.Read.remaining c.args.reader.now) (g.W.Write.contents c.write_sums.new.writer) c.write_sums.result
    (c.in-Ok-eq0.ensures.end c.in-Ok-eq0.field-0-test) c.write_sums.ensures (c.loop-number.invariant.1 text reads)

pub returns-in-Err : goal.returns-in-Err
returns-in-Err g c = λ text reads.
    log_at_fault text (g.W.Write.contents c.args.writer.now) (g.W.Write.contents c.loop-number.writer) (g.R.Read.remaining c.loop-number.reader) c.loop-number.sums (g.R.Read.remaining c.args.reader.now) c.read_fault.result c.read_fault.ensures (c.loop-number.invariant.1 text reads)

pub judge-requires-clause-room : goal.judge-requires-clause-room
judge-requires-clause-room g c =
    let most = c.loop-number.invariant.0 in
    record { told = omega (arith, most.told); changed = omega (arith, most.changed); unread = omega (arith, most.unread) }

pub returns-in-Err-judge : goal.returns-in-Err-judge
returns-in-Err-judge g c = λ text reads.
    log_at_fault text (g.W.Write.contents c.args.writer.now) (g.W.Write.contents c.loop-number.writer) (g.R.Read.remaining c.loop-number.reader) c.loop-number.sums (g.R.Read.remaining c.args.reader.now) OutOfMemory (inr refl) (c.loop-number.invariant.1 text reads)

pub loop-number-preserved : goal.loop-number-preserved
loop-number-preserved g c =
    let some : 0 < length c.read_until.new.buf.items = omega (arith, c.in-Ok.ensures.ok, c.read_until.new.buf.ok.0) in
    let line = c.without_feed.ensures ∙ ap (strip_last 10) c.as_slice.ensures.value in
    let here = c.in-Ok-judge.ensures c.requires.0 c.requires.1 in (
      AreAtMost-line c.requires.0 (reading c.without_feed.result.now) c.loop-number.sums c.judge.new.sums c.loop-number._number c.loop-number.invariant.0 here.sums,
      λ text reads.
          log_at_line text (g.W.Write.contents c.args.writer.now) (g.W.Write.contents c.loop-number.writer) (g.R.Read.remaining c.loop-number.reader) c.loop-number.sums c.read_until.new.buf.items c.clear.new.self.items c.clear.ensures.items c.in-Ok.ensures.bytes some (g.R.Read.remaining c.args.reader.now)
          (g.W.Write.contents c.write_all.new.self) (g.R.Read.remaining c.read_until.new.self) c.judge.new.sums c.in-Ok-judge.out.items (judged_as text _ _ _ _ _ line (c.in-Ok-judge.ensures text reads)) c.in-Ok.ensures.rest (rw c.as_slice-in-Ok-judge.ensures.value at c.in-Ok-write_all.ensures.bytes) (c.loop-number.invariant.1 text reads),
    )

pub returns : goal.returns
returns g c = λ text reads.
    log_at_fault text (g.W.Write.contents c.args.writer.now) (g.W.Write.contents c.loop-number.writer) (g.R.Read.remaining c.loop-number.reader) c.loop-number.sums (g.R.Read.remaining c.args.reader.now) ReadFault (inl refl) (c.loop-number.invariant.1 text reads)
