-- A step changes how far the installation has come, and nothing that its struct promises.
use Rattle.std.proofs.lemmas.Option.{same_Some}
use Rattle.rules_install.specs.Installs.{installing}
use Rattle.rules_install.proofs.StepNoted.{has_begun, fault_answer, fault_noted}
use Rattle.rules_install.proofs.install.Install.note.Goals as goal

pub invariant_of-self : goal.invariant_of-self
invariant_of-self c = record {
  rest_is = c.args.self.now.rest_is;
  taken_fits = c.args.self.now.taken_fits;
  filled_fits = c.args.self.now.filled_fits;
  small = c.args.self.now.small;
  whole = c.args.self.now.whole;
  not_begun = has_begun c.args.next _;
  unfilled = λ is. c.requires.unfilled (same_Some _ _ is);
}

pub invariant_of-self-in_default : goal.invariant_of-self-in_default
invariant_of-self-in_default c = record {
  rest_is = c.args.self.now.rest_is;
  taken_fits = c.args.self.now.taken_fits;
  filled_fits = c.args.self.now.filled_fits;
  small = c.args.self.now.small;
  whole = c.args.self.now.whole;
  not_begun = c.args.self.now.not_begun;
  unfilled = c.args.self.now.unfilled;
}

pub returns-in_default : goal.returns-in_default
returns-in_default c = record {
  answer = fault_answer c.args.next c.args.outcome c.in-Err.fault c.in-Err.is c.in_default.not-OutOfMemory;
  noted = fault_noted c.args.next c.args.outcome c.in-Err.fault c.in-Err.is c.in_default.not-OutOfMemory (installing c.args.self.now);
}
