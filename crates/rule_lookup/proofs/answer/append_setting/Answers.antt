use Rattle.std.proofs.Common.{codes, ◌++◌, List, ℕ, ap, ◌∙◌}
use Rattle.rule_lookup.proofs.AppendLemmas.{append_five}
use Rattle.rule_lookup.proofs.answer.append_setting.Goals as goal

pub returns : goal.returns
returns c =
    let s = c.args.setting.now in
    append_five c.args.out.now.items (codes "set environment variable ") s.name (codes "=") s.value (codes "\n") c.extend_from_slice.new.self.items c.extend_from_slice-2.new.self.items c.extend_from_slice-3.new.self.items c.extend_from_slice-4.new.self.items c.extend_from_slice-5.new.self.items
    c.in_ok-extend_from_slice.ensures.items (c.in_ok-extend_from_slice-2.ensures.items ∙ ap (λ (t : List ℕ). c.extend_from_slice.new.self.items ++ t) (c.as_bytes.ensures.value ∙ c.name.ensures)) c.in_ok-extend_from_slice-3.ensures.items
    (c.in_ok-extend_from_slice-4.ensures.items ∙ ap (λ (t : List ℕ). c.extend_from_slice-3.new.self.items ++ t) (c.as_bytes-2.ensures.value ∙ c.value.ensures)) c.in_ok-extend_from_slice-5.ensures.items
