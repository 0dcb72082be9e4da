use Rattle.std.proofs.Common.{rules, ◌≡◌}
use Rattle.std.specs.Prelude.{None}
use Rattle.dir_calls.specs.Calls.{appends, after}
use Rattle.memory_dirs.specs.Folder.{directory_of}
use Rattle.memory_dirs.proofs.History.{records_plain, elapses_more, includes_more}
use Rattle.memory_dirs.proofs.mem_dir.MemDirDir.append.Goals as goal

pub returns-clause-time : goal.returns-clause-time
returns-clause-time c =
    let m = c.args.self.now in
    let does : directory_of c.append.new.self ≡ after (appends c.args.piece.now) (directory_of m.folder) = search rules in
    elapses_more m.past.items c.and-past.result.items (m.folder, None) (appends c.args.piece.now) (directory_of m.folder) (directory_of c.append.new.self) c.and-past.ensures
    (records_plain (appends c.args.piece.now) (directory_of m.folder) (directory_of c.append.new.self) does (λ state passes. passes))

pub returns-clause-within : goal.returns-clause-within
returns-clause-within c =
    let m = c.args.self.now in
    let does : directory_of c.append.new.self ≡ after (appends c.args.piece.now) (directory_of m.folder) = search rules in
    includes_more m.past.items c.and-past.result.items (m.folder, None) (appends c.args.piece.now) (directory_of m.folder) (directory_of c.append.new.self) c.and-past.ensures
    (records_plain (appends c.args.piece.now) (directory_of m.folder) (directory_of c.append.new.self) does (λ state passes. passes))
