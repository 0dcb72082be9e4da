use Rattle.std.proofs.Common.{◌≡◌, true, Some, is_some, sym, ap, ◌∙◌}
use Rattle.rule_lookup.specs.Peers.{may_be_name}
use Rattle.script_words.proofs.ScriptLemmas.{peer_of-made, peer_of-no_address}
use Rattle.script_words.proofs.script.make_peer.Goals as goal

pub returns-in_default-clause-refused : goal.returns-in_default-clause-refused
returns-in_default-clause-refused c =
    peer_of-no_address c.args.ip.now c.args.info c.args.host (sym c.parse_address.ensures ∙ c.in_default.is)

pub returns-in-Ok-clause-read : goal.returns-in-Ok-clause-read
returns-in-Ok-clause-read c =
    peer_of-made c.args.ip.now c.args.info c.args.host c.in-Some.ip (sym c.parse_address.ensures ∙ c.in-Some.is) c.in-Ok.ensures.host_fits c.in-Ok.ensures.info_fits ∙ ap Some (sym c.in-Ok.ensures.kept)

pub returns-in-Err-OutOfMemory-clause-refused : goal.returns-in-Err-OutOfMemory-clause-refused
returns-in-Err-OutOfMemory-clause-refused c =
    let fit : (may_be_name c.args.host ≡ true) × (may_be_name c.args.info ≡ true) = rw c.in-Err-OutOfMemory.field-0-is at c.in-Err-OutOfMemory.ensures.refused in
    ap is_some (peer_of-made c.args.ip.now c.args.info c.args.host c.in-Some.ip (sym c.parse_address.ensures ∙ c.in-Some.is) fit.0 fit.1)
