use Rattle.std.proofs.Common.{◌≡◌, ◌||◌, None, Some, rules, ap, sym, subst, ◌∙◌}
use Rattle.child_jobs.specs.declared.hosts.Said.{Said}
use Rattle.child_jobs.specs.HostMaps.{HasHostName, hosts_in, option_or, row_said}
use Rattle.child_jobs.specs.HostRows.{gives, lower, name_in, says, says_so}
use Rattle.child_jobs.specs.Hosts.{Hosts, confirms, name_of}
use Rattle.child_jobs.proofs.KeyLemmas.{address_added}
use Rattle.child_jobs.proofs.NameLemmas.{hosts_given, hosts_kept}
use Rattle.child_jobs.proofs.hosts.HostTable.add.Goals as goal

pub returns-in_ok-insert-in-Gives-clause-names : goal.returns-in_ok-insert-in-Gives-clause-names
returns-in_ok-insert-in-Gives-clause-names c q =
    let inside = c.self.inside in
    let row = gives c.in-Gives.ip (lower c.in-Gives.name.now) in
    let had = sym c.contains_key.ensures ∙ c.if-not-contains_key.true in
    let given =
    hosts_given inside.names inside.addresses c.in-Gives.ip (lower c.in-Gives.name.now) q c.insert.new.self c.in_ok-to_ascii_lowercase-in-Gives.field-0 had (c.in_ok-insert-in-Gives.ensures.updates.0 q) c.in_ok-to_ascii_lowercase-in-Gives.ensures.ok
    ∙ ap (λ (hosts : Hosts). option_or (name_of hosts q) (name_in row q None)) c.self.view_is
    ∙ ap (λ (said : Said). option_or (name_of c.args.self.now q) (name_in (row_said said) q None)) (sym c.in-Gives.is) in
    let same : c.match-branch-3.self ≡ hosts_in c.insert.new.self inside.addresses = search rules in
    ap (λ (hosts : Hosts). name_of hosts q) same ∙ given

pub returns-else-not-contains_key-clause-names : goal.returns-else-not-contains_key-clause-names
returns-else-not-contains_key-clause-names c q =
    let inside = c.self.inside in
    let row = gives c.in-Gives.ip (lower c.in-Gives.name.now) in
    ap (λ (hosts : Hosts). name_of hosts q) (sym c.self.view_is)
    ∙ hosts_kept inside.names inside.addresses c.in-Gives.ip (lower c.in-Gives.name.now) q (sym c.if-not-contains_key.ensures)
    ∙ ap (λ (hosts : Hosts). option_or (name_of hosts q) (name_in row q None)) c.self.view_is
    ∙ ap (λ (said : Said). option_or (name_of c.args.self.now q) (name_in (row_said said) q None)) (sym c.in-Gives.is)

pub returns-in_ok-insert-in-Has-clause-addresses :
    goal.returns-in_ok-insert-in-Has-clause-addresses
returns-in_ok-insert-in-Has-clause-addresses c other q four =
    let inside = c.self.inside in
    let named = subst HasHostName c.in-Has.is c.requires in
    let row = says (lower c.in-Has.name.now) c.in-Has.ip in
    address_added inside.names inside.addresses c.insert-in-Some.new.self c.in_ok-from_slice-in-Has.field-0 c.in-Has.name.now c.in-Has.ip c.in_ok-insert-in-Has.ensures.keys (ap Some c.in_ok-from_slice-in-Has.ensures.items ∙ c.in-Some.ensures.key) c.in-Some.ensures.address named other q
    ∙ ap (λ (hosts : Hosts). confirms hosts other q || says_so other q row) c.self.view_is
    ∙ ap (λ (said : Said). confirms c.args.self.now other q || says_so other q (row_said said)) (sym c.in-Has.is)
