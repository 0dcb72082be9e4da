use Rattle.std.proofs.Common.{◌≡◌, rules, [], ◌∷◌, ◌++◌, ◌∙◌, ap}
use Rattle.std.proofs.lemmas.List.{map-append}
use Rattle.std.specs.Prelude.{map}
use Rattle.std.specs.Ordering.{nat_cmp}
use Rattle.std.specs.Cmp.Lexicographic.{slice_cmp}
use Rattle.std.specs.FinMap.{from_entries}
use Rattle.dir_calls.specs.Pairs.{Pairs, others as other_pairs}
use Rattle.memory_dirs.specs.Entries.{pair_of, names_in}
use Rattle.dir_calls.proofs.Pairs.{from_others}
use Rattle.memory_dirs.proofs.entries.with_name.Goals as goal

pub returns : goal.returns
returns c =
    let same : c.in_ok-to_vec.field-0.items ≡ c.args.to.now = search rules in
    let whole : map pair_of c.in_ok-kept.kept.items ≡ other_pairs c.args.from.now c.args.to.now (map pair_of c.args.names.now) = c.in_ok-kept.ensures in
    ap names_in c.in_ok-push.ensures.items ∙ ap (λ (l : Pairs). from_entries {R = slice_cmp nat_cmp} l) (map-append pair_of c.in_ok-kept.kept.items _ ∙ (λ j. whole j ++ (same j, c.args.number) ∷ []))
    ∙ from_others c.args.from.now c.args.to.now c.args.number (map pair_of c.args.names.now)
