use Rattle.std.proofs.Common.{◌∙◌, ap}
use Rattle.rule_lookup.specs.Peers.{given}
use Rattle.child_jobs.proofs.WordLemmas.{host_name_read}
use Rattle.child_jobs.proofs.hosts.host_name.Goals as goal

pub returns-then-is_host_name : goal.returns-then-is_host_name
returns-then-is_host_name c =
    ap given c.ok.ensures.value ∙ host_name_read c.args.bytes.now _ c.from_utf8.result c.if-is_host_name.ensures c.from_utf8.ensures.cases
