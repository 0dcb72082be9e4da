use Rattle.std.proofs.Common.{◌∙◌, ap}
use Rattle.std.specs.Cmp.Lexicographic.{pointwise, texts_ties}
use Rattle.std.specs.Prelude.{nat_eq}
use Rattle.memory_dirs.proofs.entries.has_name.Goals as goal

pub returns : goal.returns
returns c = c.eq.ensures ∙ ap (λ l. pointwise nat_eq c.args.name.now l) c.as_slice.ensures.value ∙ texts_ties c.args.name.now c.args.entry.now.name.items
