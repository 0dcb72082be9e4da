use Rattle.std.proofs.Common.{ap, ◌∙◌}
use Rattle.child_jobs.specs.Hosts.{Hosts, confirms}
use Rattle.child_jobs.proofs.KeyLemmas.{confirms_by_key}
use Rattle.child_jobs.proofs.hosts.HostTable.confirms.Goals as goal

pub returns-in-Some : goal.returns-in-Some
returns-in-Some c =
    let inside = c.self.inside in
    c.contains.ensures
    ∙ confirms_by_key inside.names inside.addresses c.args.name.now c.args.ip c.in-Some.key.now c.in-Some.ensures.address c.in-Some.ensures.key
    ∙ ap (λ (hosts : Hosts). confirms hosts c.args.name.now c.args.ip) c.self.view_is
