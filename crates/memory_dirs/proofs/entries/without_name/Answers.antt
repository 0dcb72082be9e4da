use Rattle.std.proofs.Common.{◌∙◌, ap}
use Rattle.std.specs.Prelude.{map}
use Rattle.std.specs.Ordering.{nat_cmp}
use Rattle.std.specs.Cmp.Lexicographic.{slice_cmp}
use Rattle.std.specs.FinMap.{from_entries}
use Rattle.dir_calls.specs.Pairs.{Pairs}
use Rattle.memory_dirs.specs.Entries.{pair_of}
use Rattle.dir_calls.proofs.Pairs.{from_others_one}
use Rattle.memory_dirs.proofs.Results.{if_ok_then}
use Rattle.memory_dirs.proofs.entries.without_name.Goals as goal

pub returns : goal.returns
returns c = if_ok_then c.others.result _ _ (λ kept is. ap (λ (l : Pairs). from_entries {R = slice_cmp nat_cmp} l) is ∙ from_others_one c.args.name.now (map pair_of c.args.names.now)) c.others.ensures
