use Rattle.std.proofs.Common.{◌≡◌, inl, inr, ℕ, List, Some, None, refl, sym, ◌∙◌, ap, subst}
use Rattle.std.specs.Prelude.{Option, Err, option_and_then}
use Rattle.std.proofs.lemmas.Result.{IfOk-weaker, IfErr-weaker, err_from_is_err_and}
use Rattle.dir_calls.specs.Directory.{Directory, content}
use Rattle.dir_disk.specs.declared.os_dir.FolderFault.{FolderFault}
use Rattle.dir_disk.specs.declared.os_dir.FolderFault.TheVariants as folder
use Rattle.rule_lookup.specs.declared.decision.Decision.{Decision}
use Rattle.rule_lookup.specs.Peers.{Client}
use Rattle.rules_tools.specs.Paths.{IsSplit, folder_path}
use Rattle.rules_tools.specs.Told.{DecidesAt, DecidesThere, DirectoriesByPath, FailsAt, HasNone, NameFails, bytes_at, told_folder}
use Rattle.rules_tools.specs.declared.tcprulescheck.CheckFault.{CheckFault}
use Rattle.rules_tools.specs.declared.tcprulescheck.CheckFault.TheVariants.{BadIp, BadHost, BadInfo, NoFile, Device, ReadFault, Damaged, WriteFault, OutOfMemory}
use Rattle.rules_tools.proofs.tcprulescheck.decide_in.Goals as goal

-- a last part that is no name has no file
name_fails : (name : List ℕ) (file : Option (List ℕ)) (peer : Client) (fault : CheckFault) → NameFails name fault → HasNone name file peer fault
name_fails name file peer NoFile fails = inl fails
name_fails name file peer OutOfMemory fails = tt
name_fails name file peer BadIp fails = fails
name_fails name file peer BadHost fails = fails
name_fails name file peer BadInfo fails = fails
name_fails name file peer Device fails = absurd fails
name_fails name file peer ReadFault fails = absurd fails
name_fails name file peer Damaged fails = absurd fails
name_fails name file peer WriteFault fails = fails

-- the bytes of a file in a directory, where one stands there
abbrev bytes_in : List ℕ → Option Directory → Option (List ℕ)
bytes_in name there = option_and_then (λ d. content d name) there

-- and a folder that is not there has no files
folder_fails : (name : List ℕ) (there : Option Directory) (peer : Client) (fault : FolderFault) → (fault ≡ folder.NoFolder → there ≡ None)
    → HasNone name (bytes_in name there) peer (told_folder fault)
folder_fails name there peer folder.NoFolder missing = inr (ap (bytes_in name) (missing refl))
folder_fails name there peer folder.Device missing = tt
folder_fails name there peer folder.OutOfMemory missing = tt

-- what stands in a folder that was looked for at its path
module _ (stands : DirectoriesByPath) (path folder name : List ℕ) (peer : Client) (parts : IsSplit path folder name) (at : List ℕ) (at_is : at ≡ folder_path folder) where
  fails_at : (fault : CheckFault) → HasNone name (bytes_in name (stands at)) peer fault → FailsAt stands path peer fault
  fails_at fault fails = record {
    folder = folder;
    name = name;
    parts = parts;
    fails = subst (λ p. HasNone name (bytes_in name (stands p)) peer fault) at_is fails;
  }

  module _ (dir : Directory) (found : stands at ≡ Some dir) (text : List ℕ) (kept : text ≡ name) where
    bytes_are : content dir text ≡ bytes_in name (stands at)
    bytes_are = ap (content dir) kept ∙ ap (bytes_in name) (sym found)

    fails_there : (fault : CheckFault) → HasNone text (content dir text) peer fault → FailsAt stands path peer fault
    fails_there fault fails = fails_at fault (subst (λ n. HasNone n (bytes_in name (stands at)) peer fault) kept (subst (λ file. HasNone text file peer fault) bytes_are fails))

    decides_there : (decision : Decision) → DecidesThere (content dir text) peer decision → DecidesAt stands path peer decision
    decides_there decision there = record {
      folder = folder;
      name = name;
      parts = parts;
      there = subst (λ p. DecidesThere (bytes_in name (stands p)) peer decision) at_is (subst (λ file. DecidesThere file peer decision) bytes_are there);
    }

pub returns-in_err-name-clause-refused : goal.returns-in_err-name-clause-refused
returns-in_err-name-clause-refused g c honest =
    let p = err_from_is_err_and c.from_residual.result c.from_residual.ensures.1 in
    let stands = g.F.Folders.stands c.args.folders.now in
    let split = c.split_path.result in
    rw (p.1, p.2)
    (fails_at stands c.args.cdb.now split.0.now split.1.now c.args.peer.now c.split_path.ensures (folder_path split.0.now) refl c.in_err-name.field-0.0
    (name_fails split.1.now (bytes_at stands split.0.now split.1.now) c.args.peer.now c.in_err-name.field-0.0 c.in_err-name.ensures.refused))

pub returns-in-Err-clause-refused : goal.returns-in-Err-clause-refused
returns-in-Err-clause-refused g c honest =
    let stands = g.F.Folders.stands c.args.folders.now in
    let split = c.split_path.result in
    rw c.into.ensures
    (fails_at stands c.args.cdb.now split.0.now split.1.now c.args.peer.now c.split_path.ensures c.folder_path.result.now c.folder_path.ensures (told_folder c.in-Err.fault)
    (folder_fails split.1.now (stands c.folder_path.result.now) c.args.peer.now c.in-Err.fault (λ is. c.in-Err.ensures.missing honest (ap Err is))))

pub returns-clause-decided : goal.returns-clause-decided
returns-clause-decided g c honest =
    IfOk-weaker c.decide_there-decided.result _ _
    (decides_there (g.F.Folders.stands c.args.folders.now) c.args.cdb.now c.split_path.result.0.now c.split_path.result.1.now c.args.peer.now c.split_path.ensures
    c.folder_path.result.now c.folder_path.ensures (g.F.Folder.Dir.state c.in-Ok.dir) (c.in-Ok.ensures.found honest) c.in_ok-name.name c.in_ok-name.ensures.kept)
    (c.decide_there-decided.ensures.decided (g.met.F.Folders.honest_folders honest))

pub returns-clause-refused : goal.returns-clause-refused
returns-clause-refused g c honest =
    IfErr-weaker c.decide_there-decided.result _ _
    (fails_there (g.F.Folders.stands c.args.folders.now) c.args.cdb.now c.split_path.result.0.now c.split_path.result.1.now c.args.peer.now c.split_path.ensures
    c.folder_path.result.now c.folder_path.ensures (g.F.Folder.Dir.state c.in-Ok.dir) (c.in-Ok.ensures.found honest) c.in_ok-name.name c.in_ok-name.ensures.kept)
    (c.decide_there-decided.ensures.refused (g.met.F.Folders.honest_folders honest))
