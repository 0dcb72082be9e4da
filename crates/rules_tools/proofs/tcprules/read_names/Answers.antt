use Rattle.std.proofs.Common.{◌≡◌, ℕ, Bool, true, false, ◌||◌, cond, List, Option, Some, None, Err, is_some, bytes_eq, refl, sym, ap, ◌∙◌}
use Rattle.std.specs.Prelude.{IsSome}
use Rattle.std.specs.Option.{ok_or}
use Rattle.std.proofs.lemmas.Bool.{or_left, or_right}
use Rattle.std.proofs.lemmas.Result.{err_from_is_err_and}
use Rattle.dir_calls.specs.Names.{name_fault}
use Rattle.rules_install.specs.NamePair.{NamePair}
use Rattle.rules_tools.specs.Paths.{AreNames, paths_fault}
use Rattle.rules_tools.specs.declared.tcprules.TcprulesFault.{TcprulesFault}
use Rattle.rules_tools.specs.declared.tcprules.TcprulesFault.TheVariants.{BadName, OtherFolder, SameName}
use Rattle.rules_tools.proofs.tcprules.read_names.Goals as goal

-- what is wrong, by the tests: a name is bad, the folders are one, the names are one
abbrev fault_by : Bool → Bool → Bool → Option TcprulesFault
fault_by bad one_folder one_name =
    cond bad (Some BadName) (cond one_folder (cond one_name (Some SameName) None) (Some OtherFolder))

module _ (one : Bool) (first second : List ℕ) where
  abbrev names : NamePair
  names = record { cdb = first; tmp = second }

  -- a bad name among them
  bad_name : (is_some (name_fault first) || is_some (name_fault second)) ≡ true → paths_fault one names ≡ Some BadName
  bad_name bad = ap (λ b. fault_by b one (bytes_eq first second)) bad

  refuses_first : (fault : TcprulesFault) → (fault ≡ BadName) × IsSome (name_fault first) → AreNames one names (Err fault)
  refuses_first fault is = rw is.0 (bad_name (or_left (is_some (name_fault first)) (is_some (name_fault second)) is.1))

  refuses_second : (fault : TcprulesFault) → (fault ≡ BadName) × IsSome (name_fault second) → AreNames one names (Err fault)
  refuses_second fault is = rw is.0 (bad_name (or_right (is_some (name_fault first)) (is_some (name_fault second)) is.1))

  -- two good names, in different folders or one name
  fault-good : (one_folder one_name : Bool) → name_fault first ≡ None → name_fault second ≡ None → one ≡ one_folder → bytes_eq first second ≡ one_name → paths_fault one names ≡ fault_by false one_folder one_name
  fault-good one_folder one_name good_first good_second folders same =
      ap (λ b. fault_by b one (bytes_eq first second)) (ap (λ o. is_some o || is_some (name_fault second)) good_first ∙ ap is_some good_second)
      ∙ ap (λ b. fault_by false b (bytes_eq first second)) folders ∙ ap (λ b. fault_by false one_folder b) same

-- the fault where there is no value
not_there : {T E : Type 0} (o : Option T) (fault given : E) → Err fault ≡ ok_or o given → fault ≡ given
not_there None fault given is = cc
not_there (Some x) fault given is = cc

pub returns-in_err-cdb_name : goal.returns-in_err-cdb_name
returns-in_err-cdb_name c =
    let p = err_from_is_err_and c.from_residual.result c.from_residual.ensures.1 in
    rw (p.1, p.2) (refuses_first c.args.one_folder c.args.cdb.now c.args.tmp.now _ c.in_err-cdb_name.ensures.refused)

pub returns-in_err-tmp_name : goal.returns-in_err-tmp_name
returns-in_err-tmp_name c =
    let p = err_from_is_err_and c.from_residual-in_err-tmp_name.result c.from_residual-in_err-tmp_name.ensures.1 in
    rw (p.1, p.2) (refuses_second c.args.one_folder c.args.cdb.now c.args.tmp.now _ c.in_err-tmp_name.ensures.refused)

pub returns-then-not-one_folder : goal.returns-then-not-one_folder
returns-then-not-one_folder c =
    fault-good c.args.one_folder c.args.cdb.now c.args.tmp.now false _ c.in_ok-cdb_name.ensures.good c.in_ok-tmp_name.ensures.good c.if-not-one_folder.true refl

pub returns-then-eq : goal.returns-then-eq
returns-then-eq c =
    fault-good c.args.one_folder c.args.cdb.now c.args.tmp.now true true c.in_ok-cdb_name.ensures.good c.in_ok-tmp_name.ensures.good c.if-not-one_folder.false (sym c.eq.ensures ∙ c.if-eq.true)

pub returns-in_err-cdb_name-2 : goal.returns-in_err-cdb_name-2
returns-in_err-cdb_name-2 c =
    let p = err_from_is_err_and c.from_residual-in_err-cdb_name-2.result c.from_residual-in_err-cdb_name-2.ensures.1 in
    rw (p.1, p.2, not_there _ _ _ c.in_err-cdb_name-2.ensures.value)
    (fault-good c.args.one_folder c.args.cdb.now c.args.tmp.now true false c.in_ok-cdb_name.ensures.good c.in_ok-tmp_name.ensures.good c.if-not-one_folder.false (sym c.eq.ensures ∙ c.if-eq.false))

pub returns-in_err-tmp_name-2 : goal.returns-in_err-tmp_name-2
returns-in_err-tmp_name-2 c =
    let p = err_from_is_err_and c.from_residual-in_err-tmp_name-2.result c.from_residual-in_err-tmp_name-2.ensures.1 in
    rw (p.1, p.2, not_there _ _ _ c.in_err-tmp_name-2.ensures.value)
    (fault-good c.args.one_folder c.args.cdb.now c.args.tmp.now true false c.in_ok-cdb_name.ensures.good c.in_ok-tmp_name.ensures.good c.if-not-one_folder.false (sym c.eq.ensures ∙ c.if-eq.false))
