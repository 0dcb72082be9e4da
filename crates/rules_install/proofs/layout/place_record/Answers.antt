-- The entry is the hash of the rule's address, and the next position.
use Rattle.std.proofs.Common.{ℕ, [], ◌∷◌, ◌++◌, ◌∙◌, ap, subst}
use Rattle.cdb_files.specs.Format.{hash_of}
use Rattle.cdb_files.specs.Tables.{HoldsByTable}
use Rattle.rules_install.proofs.layout.place_record.Goals as goal

pub returns-clause-tables : goal.returns-clause-tables
returns-clause-tables c = λ entries held.
    subst (λ (h : ℕ). HoldsByTable c.push.new.self (entries ++ (h, c.args.layout.now.end) ∷ [])) (c.hash.ensures ∙ ap hash_of c.deref.ensures.value) (c.in_ok-push.ensures.added entries held)
