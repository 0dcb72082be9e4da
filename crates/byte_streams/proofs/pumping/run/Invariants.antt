use Rattle.std.proofs.Common.{◌≡◌, ◌<◌, false, length}
use Rattle.byte_streams.specs.Chains.{has_failed, wrappers_of}
use Rattle.byte_streams.specs.Wrappers.{through}
use Rattle.byte_streams.specs.Taps.{shown_to}
use Rattle.byte_streams.specs.Pumps.{ends_of}
use Rattle.byte_streams.specs.Pieces.{ReadAndPassed}
use Rattle.byte_streams.specs.declared.pumping.Why.TheVariants.{ReadsOver}
use Rattle.byte_streams.proofs.pumping.run.Given as goal

abbrev pub invariant-loop-read : goal.invariant-loop-read
invariant-loop-read g l = record {
  read_and_passed : ReadAndPassed
      (ends_of g.R.Read.remaining g.W.Write.contents g.S.LineWrapper.rest l.initial.reader l.initial.writer l.initial.chain)
      (ends_of g.R.Read.remaining g.W.Write.contents g.S.LineWrapper.rest l.reader l.writer l.chain)
      (shown_to g.T.Tap.watches g.T.Tap.sees g.T.Tap.ends l.initial.tap l.tap) l._read ReadsOver;
  counted : l.reads.made ≡ l._read;
  room : 0 < length l.buffer.items;
  goes_on : has_failed l.chain ≡ false;
  wholes : through g.S.LineWrapper.whole (wrappers_of l.chain) ≡ through g.S.LineWrapper.whole (wrappers_of l.initial.chain);
  same : g.T.Tap.watches l.tap ≡ g.T.Tap.watches l.initial.tap;
}
