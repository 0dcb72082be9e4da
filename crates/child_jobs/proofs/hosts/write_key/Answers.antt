use Rattle.std.proofs.Common.{◌∙◌}
use Rattle.child_jobs.proofs.RoomLemmas.{address_length, key_written}
use Rattle.child_jobs.proofs.hosts.write_key.Goals as goal

pub returns-clause-key : goal.returns-clause-key
returns-clause-key c =
    key_written c.args.room.now c.args.ip c.args.name.now c.copy_from_slice.new.self c.copy_from_slice-2.new.self c.make_ascii_lowercase.new.self c.told-room c.if-name-gt-LONGEST.false c.copy_from_slice.ensures.len c.copy_from_slice.ensures.after (c.copy_from_slice-2.ensures.after ∙ c.as_bytes.ensures.value) c.make_ascii_lowercase.ensures.after

pub returns-clause-address : goal.returns-clause-address
returns-clause-address c =
    address_length c.args.room.now c.copy_from_slice.new.self c.args.ip c.told-room c.copy_from_slice.ensures.len c.copy_from_slice.ensures.after
