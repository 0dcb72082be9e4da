use Rattle.script_tool.proofs.KeptLemmas.{cdb_is_name, tmp_is_name}
use Rattle.script_tool.proofs.simulation.names.Goals as goal

pub name-requires : goal.name-requires
name-requires c = cdb_is_name

pub name-requires-2 : goal.name-requires-2
name-requires-2 c = tmp_is_name
