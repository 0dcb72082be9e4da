use Rattle.std.proofs.Common.{rules, ◌≡◌, List, [], ◌∷◌, ◌++◌, ℕ, ◌∙◌, ap}
use Rattle.std.specs.Prelude.{Some}
use Rattle.dir_calls.specs.Calls.{makes, after}
use Rattle.memory_dirs.specs.Folder.{directory_of}
use Rattle.memory_dirs.proofs.History.{records_makes, elapses_more, includes_more}
use Rattle.memory_dirs.proofs.mem_dir.MemDirDir.fresh.Goals as goal

pub returns-clause-time : goal.returns-clause-time
returns-clause-time c = λ honest.
    let m = c.args.self.now in
    let name = c.args.name.now in
    let does : directory_of c.make.new.self ≡ after (makes name) (directory_of m.folder) = search rules in
    let pushed : c.and-past.result.items ≡ m.past.items ++ (m.folder, Some name) ∷ [] = c.and-past.ensures ∙ ap (λ (n : List ℕ). m.past.items ++ (m.folder, Some n) ∷ []) c.in_ok-copy.ensures in
    elapses_more m.past.items c.and-past.result.items (m.folder, Some name) (makes name) (directory_of m.folder) (directory_of c.make.new.self) pushed
    (records_makes name (directory_of m.folder) (directory_of c.make.new.self) does)

pub returns-clause-within : goal.returns-clause-within
returns-clause-within c = λ honest.
    let m = c.args.self.now in
    let name = c.args.name.now in
    let does : directory_of c.make.new.self ≡ after (makes name) (directory_of m.folder) = search rules in
    let pushed : c.and-past.result.items ≡ m.past.items ++ (m.folder, Some name) ∷ [] = c.and-past.ensures ∙ ap (λ (n : List ℕ). m.past.items ++ (m.folder, Some n) ∷ []) c.in_ok-copy.ensures in
    includes_more m.past.items c.and-past.result.items (m.folder, Some name) (makes name) (directory_of m.folder) (directory_of c.make.new.self) pushed
    (records_makes name (directory_of m.folder) (directory_of c.make.new.self) does)
