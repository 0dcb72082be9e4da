use Rattle.std.proofs.Common.{◌≡◌, ℕ, ◌+◌, ◌<◌, ◌++◌, List, false, length, sym, arith, length-append}
use Rattle.rule_warnings.specs.Clients.{is_whole}
use Rattle.rule_warnings.proofs.WholeLemmas.{not_whole, length-IsDotted}
use Rattle.rule_warnings.proofs.client.is_whole_with.Goals as goal

too_long : (address rest : List ℕ) → 15 < length address + length rest → false ≡ is_whole (address ++ rest)
too_long address rest long =
    sym (not_whole (address ++ rest) λ octets dotted. omega (arith, length-IsDotted (address ++ rest) octets dotted, length-append address rest))

pub returns-in-Err-try_extend_from_slice : goal.returns-in-Err-try_extend_from_slice
returns-in-Err-try_extend_from_slice c = too_long c.args.address.now c.args.rest.now (grind (arith, c.in-Err-try_extend_from_slice.ensures.variant, c.in-Ok.ensures.len, c.new-whole.ensures))

pub returns-in-Err : goal.returns-in-Err
returns-in-Err c = too_long c.args.address.now c.args.rest.now (grind (arith, c.in-Err.ensures.variant, c.new-whole.ensures))
