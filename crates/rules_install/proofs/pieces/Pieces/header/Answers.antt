-- Once each rule has its position, the tables are those of the file.
use Rattle.std.proofs.Common.{◌≡◌, ℕ, List, IfOk, ap, ◌∙◌, subst, arith}
use Rattle.rule_lookup.specs.Pairs.{Rule}
use Rattle.cdb_files.specs.Image.{header_bytes, pointers_of}
use Rattle.cdb_files.specs.Compiled.{stored}
use Rattle.rules_install.proofs.LayoutLemmas.{AreTablesOf-all}
use Rattle.rules_install.proofs.pieces.Pieces.header.Goals as goal

pub returns-clause-header : goal.returns-clause-header
returns-clause-header c =
    let list = c.self.inside.list in
    let tables = AreTablesOf-all list c.place_all.new.layout (omega (arith, c.in_ok-place_all.ensures.all)) c.place_all.ensures.placed in
    let pointers : c.deref.result.now ≡ pointers_of (stored c.args.self.now) =
    c.deref.ensures.value ∙ c.in_ok-pointers.ensures (stored list) tables
    ∙ ap (λ (rules : List Rule). pointers_of (stored rules)) c.self.view_is in
    subst (λ (ps : List (ℕ × ℕ)). IfOk c.header.result (λ header. header.items ≡ header_bytes ps)) pointers c.header.ensures
