-- The folder of the paths is opened, and the run is made there.
use Rattle.std.proofs.Common.{inl, inr, refl, subst}
use Rattle.std.proofs.lemmas.Result.{err_from_is_err_and}
use Rattle.rules_tools.specs.declared.tcprules.TcprulesFault.TheVariants.{OutOfMemory}
use Rattle.rules_tools.proofs.tcprules.run_tcprules.Goals as goal

pub returns-in_err-names : goal.returns-in_err-names
returns-in_err-names g c =
    let p = err_from_is_err_and c.from_residual.result c.from_residual.ensures.1 in
    record {
      runs = record {
        folder = c.split_path.result.0.now;
        other = c.split_path-2.result.0.now;
        names = record { cdb = c.split_path.result.1.now; tmp = c.split_path-2.result.1.now };
        of_cdb = c.split_path.ensures;
        of_tmp = c.split_path-2.ensures;
        one_folder = c.are_one-one_folder.result;
        told = c.are_one-one_folder.ensures;
        runs = inl (record { fault = c.in_err-names.field-0.0; refused = c.in_err-names.ensures; told = rw (p.1, p.2) refl; same = refl });
      };
    }

pub returns-in_err-dir : goal.returns-in_err-dir
returns-in_err-dir g c =
    let p = err_from_is_err_and c.from_residual-in_err-dir.result c.from_residual-in_err-dir.ensures.1 in
    record {
      runs = record {
        folder = c.split_path.result.0.now;
        other = c.split_path-2.result.0.now;
        names = record { cdb = c.split_path.result.1.now; tmp = c.split_path-2.result.1.now };
        of_cdb = c.split_path.ensures;
        of_tmp = c.split_path-2.ensures;
        one_folder = c.are_one-one_folder.result;
        told = c.are_one-one_folder.ensures;
        runs = inl (record { fault = OutOfMemory; refused = c.in_ok-names.ensures.0; told = rw (p.1, p.2) refl; same = c.in_err-dir.ensures.unopened });
      };
    }

pub returns : goal.returns
returns g c =
    record {
      runs = record {
        folder = c.split_path.result.0.now;
        other = c.split_path-2.result.0.now;
        names = record { cdb = c.split_path.result.1.now; tmp = c.split_path-2.result.1.now };
        of_cdb = c.split_path.ensures;
        of_tmp = c.split_path-2.ensures;
        one_folder = c.are_one-one_folder.result;
        told = c.are_one-one_folder.ensures;
        runs = inr (record {
          placed = c.in_ok-names.ensures.0;
          opened = c.in_ok-dir.dir;
          between = c.open.new.self;
          opens = subst (λ path. g.F.InstallFolders.opens c.args.folders.now path c.in_ok-dir.dir c.open.new.self) c.folder_path.ensures c.in_ok-dir.ensures.opened;
          there = c.run_there.ensures.runs;
        });
      };
    }
