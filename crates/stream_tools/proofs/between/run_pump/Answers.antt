use Rattle.stream_tools.proofs.between.run_pump.Goals as goal

pub returns : goal.returns
returns g c = record {
  ran = record {
    reader-now = c.pump.new.reader;
    writer-now = c.pump.new.writer;
    chain-now = c.pump.new.chain;
    tap-now = c.pump.new.tap;
    pumped = c.pump.ensures.pumped;
    over = c.pump.ensures.over;
    ready = λ is_open failed. cc (c.pump.ensures.failed failed);
  };
}
