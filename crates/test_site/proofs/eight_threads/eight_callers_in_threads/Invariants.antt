use Rattle.std.specs.Prelude.{None, false, true}
use Rattle.rule_lookup.specs.declared.decision.WhenMissing.TheVariants.{Deny}
use Rattle.test_site.proofs.eight_threads.eight_callers_in_threads.Given as goal

abbrev pub ghosts-eight-L-Ledger : goal.ghosts-eight-L-Ledger
ghosts-eight-L-Ledger g a = record { name = a.places.name; parts = a.places.parts }

abbrev pub ghosts-eight-L-Assumptions : goal.ghosts-eight-L-Assumptions
ghosts-eight-L-Assumptions g a = record { met = false }

abbrev pub ghosts-eight-L-Places : goal.ghosts-eight-L-Places
ghosts-eight-L-Places g a = record { installs = true; missing = Deny; admissions = None }

abbrev pub ghosts-eight-N-Ledger : goal.ghosts-eight-N-Ledger
ghosts-eight-N-Ledger g a = record { name = a.parts.name; parts = a.parts.parts }

abbrev pub ghosts-eight-N-Callers : goal.ghosts-eight-N-Callers
ghosts-eight-N-Callers g a = record { before = 0 }
