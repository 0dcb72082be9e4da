-- How a proof tells names and directories apart.
use Rattle.std.specs.Prelude.{◌≡◌, ℕ, zero, suc, Bool, List, [], Option, refl}
use Rattle.std.specs.FinMap.{code}
use Rattle.std.specs.Coded.{Coded, Coded-set, code_by, coded×, coded_ℕ, coded_bool, coded_list, coded_option}
use Rattle.dir_calls.specs.NameTable.{Names, NameTable, NameChange, takes, puts, moves}
use Rattle.dir_calls.specs.Directory.{Directory, FileState}

coded_names : Coded Names
coded_names = code (coded_list coded_ℕ) coded_ℕ

pub same_names-prop : (a b : Names) → IsProp (a ≡ b)
same_names-prop a b = Coded-set coded_names a b

abbrev Parts : Type 0
Parts = ℕ × (List ℕ × (List ℕ × ℕ))

abbrev parts_of : NameChange → Parts
parts_of (takes name) = (0, (name, ([], 0)))
parts_of (puts name number) = (1, (name, ([], number)))
parts_of (moves from to number) = (2, (from, (to, number)))

abbrev change_of_kind : ℕ → List ℕ → List ℕ → ℕ → NameChange
change_of_kind zero a b n = takes a
change_of_kind (suc zero) a b n = puts a n
change_of_kind (suc (suc k)) a b n = moves a b n

abbrev of_parts : Parts → NameChange
of_parts p = change_of_kind p.0 p.1.0 p.1.1.0 p.1.1.1

whole : (c : NameChange) → of_parts (parts_of c) ≡ c
whole (takes name) = refl
whole (puts name number) = refl
whole (moves from to number) = refl

coded_change : Coded NameChange
coded_change = code_by Parts (coded× coded_ℕ (coded× (coded_list coded_ℕ) (coded× (coded_list coded_ℕ) coded_ℕ))) parts_of of_parts whole

coded_table : Coded NameTable
coded_table =
    code_by (Names × List NameChange) (coded× coded_names (coded_list coded_change)) (λ t. (t.settled, t.pending))
    (λ p. record { settled = p.0; pending = p.1 }) (λ _. refl)

coded_file : Coded FileState
coded_file =
    code_by (List ℕ × Bool) (coded× (coded_list coded_ℕ) coded_bool) (λ f. (f.bytes, f.synced))
    (λ p. record { bytes = p.0; synced = p.1 }) (λ _. refl)

coded_directory : Coded Directory
coded_directory =
    code_by (NameTable × (List FileState × Option ℕ)) (coded× coded_table (coded× (coded_list coded_file) (coded_option coded_ℕ)))
    (λ d. (d.names, (d.files, d.scratch))) (λ p. record { names = p.0; files = p.1.0; scratch = p.1.1 }) (λ _. refl)

pub same_directory-prop : (d e : Directory) → IsProp (d ≡ e)
same_directory-prop d e = Coded-set coded_directory d e
