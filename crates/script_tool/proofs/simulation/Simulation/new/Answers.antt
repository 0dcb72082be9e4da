use Rattle.std.proofs.Common.{refl, sym, subst}
use Rattle.dir_calls.specs.Directory.{Directory}
use Rattle.script_tool.specs.Kept.{HasTexts}
use Rattle.script_tool.specs.Texts.{no_texts}
use Rattle.script_tool.proofs.KeptLemmas.{cdb_is_name, HasTexts-empty}
use Rattle.script_tool.proofs.ReaderLemmas.{Reads-empty}
use Rattle.script_tool.proofs.simulation.Simulation.new.Goals as goal

pub name-requires : goal.name-requires
name-requires c = cdb_is_name

pub returns : goal.returns
returns c = record {
  pending = c.new.ensures.items;
  name = c.in_ok-name.ensures;
  texts = subst (λ (d : Directory). HasTexts d no_texts) (sym c.new-2.ensures) HasTexts-empty;
  begun = tt;
  readers = Reads-empty c.new-3.result c.new-3.ensures.empty;
  history = refl;
}
