use Rattle.std.proofs.Common.{ap, ◌∙◌, Some, option_map}
use Rattle.std.specs.Prelude.{string_bytes}
use Rattle.rule_lookup.specs.Peers.{given}
use Rattle.child_jobs.specs.Hosts.{Hosts, name_of}
use Rattle.child_jobs.proofs.NameLemmas.{lookup-named}
use Rattle.child_jobs.proofs.hosts.HostTable.name_of.Goals as goal

pub returns-in_err-name : goal.returns-in_err-name
returns-in_err-name c =
    ap given c.from_residual.ensures
    ∙ ap (option_map string_bytes) c.in_err-name.ensures.value
    ∙ lookup-named c.self.inside.names c.args.ip
    ∙ ap (λ (hosts : Hosts). name_of hosts c.args.ip) c.self.view_is

pub returns : goal.returns
returns c =
    ap Some c.as_str.ensures.value
    ∙ ap (option_map string_bytes) c.in_ok-name.ensures.value
    ∙ lookup-named c.self.inside.names c.args.ip
    ∙ ap (λ (hosts : Hosts). name_of hosts c.args.ip) c.self.view_is
