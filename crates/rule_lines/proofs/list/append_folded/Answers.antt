-- What was added is put into lower case from its first `=` on.
use Rattle.std.proofs.Common.{◌≡◌, ◌∙◌, ◌+◌, eqb, length, arith, length-append}
use Rattle.std.specs.List.{position_or_len}
use Rattle.memchr.specs.Find.{is_byte}
use Rattle.rule_lines.proofs.FoldLemmas.{append_folded-is}
use Rattle.rule_lookup.proofs.FoundLemmas.{position_or_len-search}
use Rattle.rule_lines.proofs.list.append_folded.Goals as goal

pub returns-clause-ok : goal.returns-clause-ok
returns-clause-ok c =
    let out = c.args.out.now.items in
    let address = c.args.address.now in
    let position : c.unwrap_or-position.result ≡ position_or_len (λ b. eqb b 61) address =
    c.unwrap_or-position.ensures ∙ position_or_len-search (is_byte 61) address c.memchr.result c.memchr.ensures in
    let start : c.len-start.result ≡ length out = omega arith in
    append_folded-is out address c.deref_mut.result.now c.make_ascii_lowercase.new.self _ (c.len-start.result + c.unwrap_or-position.result) c.extend_from_slice.new.self.len
    (c.deref_mut.ensures.value ∙ c.in_ok-extend_from_slice.ensures.items)
    (omega arith)
    c.make_ascii_lowercase.ensures.after
    (omega (arith, c.in_ok-extend_from_slice.ensures.len, length-append out address))
