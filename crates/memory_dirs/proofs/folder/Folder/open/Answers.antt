use Rattle.std.proofs.Common.{rules, ◌≡◌, ◌≤◌, List, ℕ, Global, Vec, length, sym, ◌∙◌, ap, arith}
use Rattle.std.proofs.lemmas.Bool.Decides.{nat_tests}
use Rattle.std.proofs.lemmas.Result.{IfOk-from_err}
use Rattle.std.specs.Arc.{arc_value}
use Rattle.std.specs.Prelude.{Some}
use Rattle.dir_calls.specs.Directory.{number_of}
use Rattle.memory_dirs.specs.Folder.{directory_of}
use Rattle.memory_dirs.specs.declared.stored.Stored.TheVariants.{Open, Synced}
use Rattle.memory_dirs.proofs.InMemory.{bytes_read, bytes_nowhere, bytes_of_none}
use Rattle.memory_dirs.proofs.folder.Folder.open.Goals as goal

pub returns-in_default : goal.returns-in_default
returns-in_default c = sym (bytes_of_none c.args.self.now.files.items (number_of (directory_of c.args.self.now) c.args.name.now) (sym c.number.ensures ∙ c.in_default.is))

pub returns-in-None : goal.returns-in-None
returns-in-None c =
    let files = c.args.self.now.files.items in
    let past : length files ≤ c.in-Some.number = grind (arith, nat_tests, ap length c.deref.ensures.value) in
    sym (bytes_nowhere files (number_of (directory_of c.args.self.now) c.args.name.now) c.in-Some.number (sym c.number.ensures ∙ c.in-Some.is) past)

pub returns-in_ok-to_vec-in-Some-Open : goal.returns-in_ok-to_vec-in-Some-Open
returns-in_ok-to_vec-in-Some-Open c =
    let at = c.in-Some-Open.ensures.lookup in
    let same : c.in_ok-to_vec-in-Some-Open.field-0.items ≡ c.in-Some-Open.bytes.items = search rules in
    ap (λ (b : List ℕ). Some b) (c.new.ensures ∙ same)
    ∙ sym (bytes_read c.deref.result.now c.args.self.now.files.items (number_of (directory_of c.args.self.now) c.args.name.now) c.in-Some.number c.in-Some-Open.field-0.now (Open c.in-Some-Open.bytes)
    c.deref.ensures.value (sym c.number.ensures ∙ c.in-Some.is) at.3.0 at.1 c.in-Some-Open.field-0-is)

pub returns-in_err-to_vec-in-Some-Open : goal.returns-in_err-to_vec-in-Some-Open
returns-in_err-to_vec-in-Some-Open c = IfOk-from_err c.from_residual.result _ c.from_residual.ensures.0

pub returns-in_ok-try_clone-in-Some-Synced : goal.returns-in_ok-try_clone-in-Some-Synced
returns-in_ok-try_clone-in-Some-Synced c =
    let at = c.in-Some-Synced.ensures.lookup in
    let same : arc_value c.in_ok-try_clone-in-Some-Synced.field-0 ≡ arc_value c.in-Some-Synced.bytes = c.in_ok-try_clone-in-Some-Synced.ensures in
    ap (λ (b : List ℕ). Some b) (c.shared.ensures ∙ ap (λ (v : Vec ℕ Global). v.items) same)
    ∙ sym (bytes_read c.deref.result.now c.args.self.now.files.items (number_of (directory_of c.args.self.now) c.args.name.now) c.in-Some.number c.in-Some-Synced.field-0.now (Synced c.in-Some-Synced.bytes)
    c.deref.ensures.value (sym c.number.ensures ∙ c.in-Some.is) at.3.0 at.1 c.in-Some-Synced.field-0-is)

pub returns-in_err-try_clone-in-Some-Synced : goal.returns-in_err-try_clone-in-Some-Synced
returns-in_err-try_clone-in-Some-Synced c = IfOk-from_err c.from_residual-in_err-try_clone-in-Some-Synced.result _ c.from_residual-in_err-try_clone-in-Some-Synced.ensures.0
