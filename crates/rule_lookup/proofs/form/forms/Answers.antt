use Rattle.std.proofs.Common.{◌≡◌, ◌++◌, ◌∷◌, [], List, ℕ, map, string_bytes, rules, ap, ◌∙◌}
use Rattle.std.specs.Net.Text.{ipv4_text}
use Rattle.rule_lookup.specs.Spread.{folded}
use Rattle.rule_lookup.specs.Forms.{user_at_address, user_at_host, host_alone, dotted_fronts, host_ends, any_host}
use Rattle.rule_lookup.proofs.FormLemmas.{forms_joined}
use Rattle.rule_lookup.proofs.form.forms.Goals as goal

pub returns : goal.returns
returns c =
    let peer = c.args.peer.now in
    let ip = ipv4_text peer.ip in
    let text : string_bytes c.in_ok-ip.ip ≡ ip = search rules in
    let v1 = map string_bytes c.new-forms.result.items in
    let v2 = map string_bytes c.push_user_forms.new.forms.items in
    let v3 = map string_bytes c.push_form.new.forms.items in
    let v4 = map string_bytes c.push_host.new.forms.items in
    let v5 = map string_bytes c.push_fronts.new.forms.items in
    let v6 = map string_bytes c.push_host_forms.new.forms.items in
    forms_joined (user_at_address peer.info ip ++ user_at_host peer.info peer.host) (host_alone peer.host) (dotted_fronts ip) (host_ends peer.host) (any_host peer.host)
    v1 v2 v3 v4 v5 v6 (map string_bytes c.push_form-2.new.forms.items) ip
    (ap (map string_bytes) c.new-forms.ensures.items)
    (c.in_ok-push_user_forms.ensures ∙ ap (λ (t : List ℕ). v1 ++ map folded (user_at_address peer.info t ++ user_at_host peer.info peer.host)) (c.as_str.ensures.value ∙ text))
    (c.in_ok-push_form.ensures ∙ ap (λ (t : List ℕ). v2 ++ folded t ∷ []) (c.as_str-2.ensures.value ∙ text))
    c.in_ok-push_host.ensures
    (c.in_ok-push_fronts.ensures ∙ ap (λ (t : List ℕ). v4 ++ map folded (dotted_fronts t)) (c.as_str-3.ensures.value ∙ text))
    c.in_ok-push_host_forms.ensures
    c.in_ok-push_form-2.ensures
