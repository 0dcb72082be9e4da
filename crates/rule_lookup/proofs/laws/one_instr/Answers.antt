use Rattle.rule_lookup.proofs.CodeLemmas.{code_of_same}
use Rattle.rule_lookup.proofs.laws.one_instr.Goals as goal

pub returns : goal.returns
returns c = λ i j first second same. code_of_same i j same first second
