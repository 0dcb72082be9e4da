-- The names of a table's addresses.
use Rattle.std.proofs.Common.{◌≡◌, ℕ, List, [], ◌∷◌, Bool, true, false, cond, map, Option, Some, None, option_map, refl, sym, ap, ◌∙◌, bytes_eq}
use Rattle.std.specs.Prelude.{string_bytes, is_some}
use Rattle.std.specs.BTreeMap.{BTreeMap, get, is_at}
use Rattle.std.specs.BTreeSet.{BTreeSet}
use Rattle.std.specs.Global.{Vec}
use Rattle.std.specs.Cmp.Lexicographic.{slice_cmp}
use Rattle.std.specs.Map.{lookup}
use Rattle.std.specs.Ordering.{nat_cmp}
use Rattle.std.specs.declared.alloc.Global.{Global}
use Rattle.std.specs.declared.string.String.{String}
use Rattle.std.proofs.lemmas.Map.Text.{is_eq-slice_cmp}
use Rattle.std.proofs.lemmas.Slice.Eq.{bytes_eq-Decides}
use Rattle.child_jobs.specs.HostMaps.{hosts_in, option_or}
use Rattle.child_jobs.specs.HostRows.{gives, name_in}
use Rattle.child_jobs.specs.Hosts.{name_of}

-- the names of a map
abbrev pub Names : Type 0
Names = BTreeMap (List ℕ) (String Global)

-- a map's entries, with the names as bytes
abbrev pub named : Names → List (List ℕ × List ℕ)
named names = map (λ (e : List ℕ × String Global). (e.0, string_bytes e.1)) names.entries

-- the name that a map has at an address
abbrev pub name_at : Names → List ℕ → Option (List ℕ)
name_at names ip = option_map string_bytes (get (slice_cmp nat_cmp) names ip)

-- it is the one that is looked up among the bytes
lookup-entries : (es : List (List ℕ × String Global)) (ip : List ℕ) → option_map string_bytes (lookup (is_at (slice_cmp nat_cmp ip)) es) ≡ lookup (bytes_eq ip) (map (λ (e : List ℕ × String Global). (e.0, string_bytes e.1)) es)
lookup-entries [] ip = refl
lookup-entries (e ∷ es) ip =
    let rest = lookup-entries es ip in
    ap (λ b. option_map string_bytes (cond b (Some e.1) (lookup (is_at (slice_cmp nat_cmp ip)) es))) (is_eq-slice_cmp ip e.0)
    ∙ (elim (bytes_eq ip e.0) as (λ b. option_map string_bytes (cond b (Some e.1) (lookup (is_at (slice_cmp nat_cmp ip)) es)) ≡ cond b (Some (string_bytes e.1)) (lookup (bytes_eq ip) (map (λ (e : List ℕ × String Global). (e.0, string_bytes e.1)) es))) [
      | true ↦ refl
      | false ↦ rest
    ])

pub lookup-named : (names : Names) (ip : List ℕ) → name_at names ip ≡ lookup (bytes_eq ip) (named names)
lookup-named names ip = lookup-entries names.entries ip

option_or-none : (o : Option (List ℕ)) → option_or o None ≡ o
option_or-none None = refl
option_or-none (Some name) = refl

-- an address that has a name keeps it
pub name_kept : (names : Names) (ip name q : List ℕ) → is_some (get (slice_cmp nat_cmp) names ip) ≡ true → name_at names q ≡ option_or (name_at names q) (name_in (gives ip name) q None)
name_kept names ip name q had = by_cases (bytes_eq ip q) refl where
  has_one : (o : Option (String Global)) → is_some o ≡ true → option_map string_bytes o ≡ option_or (option_map string_bytes o) (Some name)
  has_one None h = cc
  has_one (Some s) h = refl

  by_cases : (b : Bool) → bytes_eq ip q ≡ b → name_at names q ≡ option_or (name_at names q) (cond b (Some name) None)
  by_cases false e = sym (option_or-none (name_at names q))
  by_cases true e = has_one (get (slice_cmp nat_cmp) names q) (ap (λ i. is_some (get (slice_cmp nat_cmp) names i)) (sym ((bytes_eq-Decides ip q).0 e)) ∙ had)

-- an address that has none is given one
pub name_given : (names more : Names) (ip : List ℕ) (name : String Global) (q : List ℕ) → is_some (get (slice_cmp nat_cmp) names ip) ≡ false → get (slice_cmp nat_cmp) more q ≡ cond (is_at (slice_cmp nat_cmp ip) q) (Some name) (get (slice_cmp nat_cmp) names q) → name_at more q ≡ option_or (name_at names q) (name_in (gives ip (string_bytes name)) q None)
name_given names more ip name q had now =
    ap (option_map string_bytes) (now ∙ ap (λ b. cond b (Some name) (get (slice_cmp nat_cmp) names q)) (is_eq-slice_cmp ip q))
    ∙ by_cases (bytes_eq ip q) refl
  where
    has_none : (o : Option (String Global)) → is_some o ≡ false → Some (string_bytes name) ≡ option_or (option_map string_bytes o) (Some (string_bytes name))
    has_none None h = refl
    has_none (Some s) h = cc

    by_cases : (b : Bool) → bytes_eq ip q ≡ b → option_map string_bytes (cond b (Some name) (get (slice_cmp nat_cmp) names q)) ≡ option_or (name_at names q) (cond b (Some (string_bytes name)) None)
    by_cases false e = sym (option_or-none (name_at names q))
    by_cases true e = has_none (get (slice_cmp nat_cmp) names q) (ap (λ i. is_some (get (slice_cmp nat_cmp) names i)) (sym ((bytes_eq-Decides ip q).0 e)) ∙ had)

-- so it is with what the table knows
module _ (names : Names) (keys : BTreeSet (Vec ℕ)) (ip name q : List ℕ) where
  pub hosts_kept : is_some (get (slice_cmp nat_cmp) names ip) ≡ true → name_of (hosts_in names keys) q ≡ option_or (name_of (hosts_in names keys) q) (name_in (gives ip name) q None)
  hosts_kept had =
      sym (lookup-named names q)
      ∙ name_kept names ip name q had
      ∙ ap (λ o. option_or o (name_in (gives ip name) q None)) (lookup-named names q)

  pub hosts_given : (more : Names) (text : String Global) → is_some (get (slice_cmp nat_cmp) names ip) ≡ false → get (slice_cmp nat_cmp) more q ≡ cond (is_at (slice_cmp nat_cmp ip) q) (Some text) (get (slice_cmp nat_cmp) names q) → string_bytes text ≡ name → name_of (hosts_in more keys) q ≡ option_or (name_of (hosts_in names keys) q) (name_in (gives ip name) q None)
  hosts_given more text had now is =
      sym (lookup-named more q)
      ∙ name_given names more ip text q had now
      ∙ ap (λ o. option_or o (name_in (gives ip (string_bytes text)) q None)) (lookup-named names q)
      ∙ ap (λ n. option_or (name_of (hosts_in names keys) q) (name_in (gives ip n) q None)) is
