use Rattle.std.proofs.Common.{sym, arith}
use Rattle.byte_streams.proofs.WrapperLemmas.{last_cr-some, note_feeds}
use Rattle.byte_streams.proofs.wrappers.note_return.Goals as goal

pub returns-in-len1-up-clause-fed : goal.returns-in-len1-up-clause-fed
returns-in-len1-up-clause-fed c =
    note_feeds c.args.after_cr c.requires c.in_ok-extend_from_slice.ensures.items (sym (last_cr-some c.args.bytes.now c.args.after_cr (omega arith)))
