use Rattle.std.specs.Prelude.{false}
use Rattle.ucspi.specs.Rules.{rules_missing}
use Rattle.ucspi.proofs.tool.listen_and_run.Given as goal

abbrev pub ghosts-run_in_yard-L-Ledger : goal.ghosts-run_in_yard-L-Ledger
ghosts-run_in_yard-L-Ledger g a = record { name = a.places.name; parts = a.places.parts }

abbrev pub ghosts-run_in_yard-L-Places : goal.ghosts-run_in_yard-L-Places
ghosts-run_in_yard-L-Places g a = record { installs = false; admissions = a.server.now.limits.count; missing = rules_missing a.rules.now }
