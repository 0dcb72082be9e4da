use Rattle.std.proofs.Common.{◌∙◌}
use Rattle.rule_lookup.specs.Pairs.{pairs_of}
use Rattle.cdb_files.specs.Compiled.{stored}
use Rattle.cdb_files.proofs.AnyKey.{reading_is}
use Rattle.cdb_files.proofs.StoredRules.{first_value-stored}
use Rattle.cdb_files.proofs.laws.same_as_list.Goals as goal

pub returns : goal.returns
returns c file text address compiled =
    reading_is file (stored (pairs_of text)) compiled address ∙ first_value-stored (pairs_of text) address
