use Rattle.std.proofs.Common.{refl, sym, subst}
use Rattle.std.specs.Prelude.{Bool, Ok, Err}
use Rattle.std.proofs.lemmas.Result.{err_from_is_err_and}
use Rattle.rules_install.specs.NamePair.{NamePair}
use Rattle.rules_tools.specs.FolderParts.{folder_dir, folder_left}
use Rattle.rules_tools.specs.Installed.{FailsInput, Installs}
use Rattle.rules_tools.specs.Paths.{AreNames}
use Rattle.rules_tools.specs.declared.tcprules.TcprulesFault.{TcprulesFault}
use Rattle.rules_tools.proofs.InstalledLemmas.{memory_alone, memory_fails, tells, tells_fault, unchanged}
use Rattle.rules_tools.proofs.installing.install_text.Goals as goal

pub returns-in_err-names-clause-runs : goal.returns-in_err-names-clause-runs
returns-in_err-names-clause-runs g c =
    let p = err_from_is_err_and c.from_residual.result c.from_residual.ensures.1 in
    let names : NamePair = record { cdb = c.split_path.result.1.now; tmp = c.split_path-2.result.1.now } in
    let fault = c.in_err-names.field-0.0 in
    let placed = subst (λ (one : Bool). AreNames one names (Err fault)) c.eq.ensures c.in_err-names.ensures in
    let input = g.R.Read.remaining c.args.reader.now in
    let d = folder_dir c.args.folder.now in
    rw (p.1, p.2)
    (record {
      folder = c.split_path.result.0.now;
      other = c.split_path-2.result.0.now;
      names = names;
      first = c.split_path.ensures;
      second = c.split_path-2.ensures;
      told = tells_fault _ names fault placed;
      installs = λ none.
          unchanged _ names fault refl (λ is image left. g.met.D.Dir.only_now d image is left)
          (subst (λ (f : TcprulesFault). FailsInput input f) (sym (memory_alone _ names fault placed none)) (memory_fails input));
    })

pub returns-clause-runs : goal.returns-clause-runs
returns-clause-runs g c =
    let pair : NamePair = record { cdb = c.split_path.result.1.now; tmp = c.split_path-2.result.1.now } in
    let placed = subst (λ (one : Bool). AreNames one pair (Ok c.in_ok-names.names)) c.eq.ensures c.in_ok-names.ensures in
    record {
      folder = c.split_path.result.0.now;
      other = c.split_path-2.result.0.now;
      names = pair;
      first = c.split_path.ensures;
      second = c.split_path-2.ensures;
      told = tells _ pair c.install_named.result c.install_named.ensures.of_text placed.0;
      installs = λ none.
          subst (λ (names : NamePair). Installs {D = g.row.D.Denot} (record {
            tells = g.D.Dir;
            left = folder_left c.install_named.new.folder;
            input = g.R.Read.remaining c.args.reader.now;
            old = folder_dir c.args.folder.now;
            new = folder_dir c.install_named.new.folder;
          }) names c.install_named.result) placed.1 c.install_named.ensures.installs;
    }
