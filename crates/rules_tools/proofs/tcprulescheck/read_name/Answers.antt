use Rattle.std.proofs.Common.{◌≡◌, ◌≢◌, Option, Some, None, refl, subst, rules, ◌∙◌}
use Rattle.std.specs.Option.{MatchOption, IsSome}
use Rattle.dir_calls.specs.Names.{name_fault}
use Rattle.dir_calls.specs.declared.name.NameFault.{NameFault}
use Rattle.dir_calls.specs.declared.name.NameFault.TheVariants as name
use Rattle.rules_tools.proofs.tcprulescheck.read_name.Goals as goal

-- a rule is broken where another fault than want of memory is told
broken : (rule : Option NameFault) (told : NameFault) (P : NameFault → Type 0) → MatchOption rule (told ≡ name.OutOfMemory) P → told ≢ name.OutOfMemory → IsSome rule
broken None told P fails other = absurd (other fails)
broken (Some fault) told P fails other = refl

pub returns-in-Ok-clause-kept : goal.returns-in-Ok-clause-kept
returns-in-Ok-clause-kept c = c.in-Ok.ensures.kept ∙ c.as_bytes.ensures.value

pub returns-in-Err : goal.returns-in-Err
returns-in-Err c = record {
  kept = tt;
  refused = subst (λ bytes. IsSome (name_fault bytes)) c.as_bytes.ensures.value (broken (name_fault c.as_bytes.result.now) c.in-Err.field-0 _ c.in-Err.ensures.refused (search rules));
}
