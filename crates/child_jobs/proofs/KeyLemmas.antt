-- The addresses of a table's names: an address and a name, as the one key that they make.
use Rattle.std.proofs.Common.{◌≡◌, ℕ, List, [], ◌∷◌, ◌++◌, length, take, drop, Bool, true, false, cond, ◌&&◌, ◌||◌, map, refl, sym, ap, ◌∙◌, bytes_eq, Some, None, arith}
use Rattle.std.specs.Prelude.{nat_le}
use Rattle.std.specs.BTreeSet.{BTreeSet, contains_by, insert_key}
use Rattle.std.specs.BTreeMap.{BTreeMap, is_at}
use Rattle.std.specs.Cmp.{both_ways}
use Rattle.std.specs.Cmp.Lexicographic.{slice_cmp}
use Rattle.std.specs.Global.{Vec}
use Rattle.std.specs.List.{list_any}
use Rattle.std.specs.Ordering.{is_eq, match_ordering, nat_cmp}
use Rattle.std.specs.declared.cmp.Ordering.{Ordering}
use Rattle.std.specs.declared.cmp.Ordering.TheVariants.{Less, Equal, Greater}
use Rattle.std.specs.declared.alloc.Global.{Global}
use Rattle.std.specs.declared.string.String.{String}
use Rattle.std.proofs.lemmas.List.{length-map, take-append-drop}
use Rattle.std.proofs.lemmas.Map.Text.{is_eq-slice_cmp}
use Rattle.std.proofs.lemmas.Slice.Eq.{bytes_eq-Decides}
use Rattle.child_jobs.specs.HostMaps.{hosts_in, key_of}
use Rattle.child_jobs.specs.HostRows.{is_host_name, lower, says, says_so}
use Rattle.child_jobs.specs.Hosts.{confirms}
use Rattle.child_jobs.proofs.WordLemmas.{both_hold, host_name_short}

-- the two parts of a key
abbrev pub parts_of : List ℕ → List ℕ × List ℕ
parts_of key = (drop 4 key, take 4 key)

-- whether they are a name and an address
abbrev pub are_these : List ℕ → List ℕ → List ℕ × List ℕ → Bool
are_these name ip parts = bytes_eq parts.0 name && bytes_eq parts.1 ip

abbrev Keys : Type 0
Keys = List (Vec ℕ)

-- a key has the parts that it was made of
parts_of-append : (ip name : List ℕ) → length ip ≡ 4 → parts_of (ip ++ name) ≡ (name, ip)
parts_of-append (a ∷ b ∷ c ∷ d ∷ []) name four = refl
parts_of-append [] name four = cc
parts_of-append (a ∷ []) name four = absurd (omega arith)
parts_of-append (a ∷ b ∷ []) name four = absurd (omega arith)
parts_of-append (a ∷ b ∷ c ∷ []) name four = absurd (omega arith)
parts_of-append (a ∷ b ∷ c ∷ d ∷ e ∷ more) name four = absurd (omega arith)

-- a key is found by the parts that it is made of
key_is : (ip name key : List ℕ) → length ip ≡ 4 → bytes_eq (ip ++ name) key ≡ are_these name ip (parts_of key)
key_is ip name key four = both_ways (bytes_eq (ip ++ name) key) (are_these name ip (parts_of key)) made whole where
  made : bytes_eq (ip ++ name) key ≡ true → are_these name ip (parts_of key) ≡ true
  made e =
      let parts : parts_of key ≡ (name, ip) = ap parts_of (sym ((bytes_eq-Decides (ip ++ name) key).0 e)) ∙ parts_of-append ip name four in
      ap (are_these name ip) parts
      ∙ ap (λ b. b && bytes_eq ip ip) ((bytes_eq-Decides name name).1 refl)
      ∙ (bytes_eq-Decides ip ip).1 refl

  whole : are_these name ip (parts_of key) ≡ true → bytes_eq (ip ++ name) key ≡ true
  whole e =
      let (is_name, is_ip) = both_hold (bytes_eq (drop 4 key) name) (bytes_eq (take 4 key) ip) e in
      (bytes_eq-Decides (ip ++ name) key).1 (ap (λ i. i ++ name) (sym ((bytes_eq-Decides (take 4 key) ip).0 is_ip)) ∙ ap (λ n. take 4 key ++ n) (sym ((bytes_eq-Decides (drop 4 key) name).0 is_name)) ∙ take-append-drop 4 key)

-- the parts of some keys
abbrev pub all_parts : Keys → List (List ℕ × List ℕ)
all_parts keys = map (λ (k : Vec ℕ). parts_of k.items) keys

keys-find : (ip name : List ℕ) (keys : Keys) → length ip ≡ 4 → list_any (is_at (λ (k : Vec ℕ). slice_cmp nat_cmp (ip ++ name) k.items)) keys ≡ list_any (are_these name ip) (all_parts keys)
keys-find ip name [] four = refl
keys-find ip name (k ∷ keys) four =
    ap (λ b. b || list_any (is_at (λ (k : Vec ℕ). slice_cmp nat_cmp (ip ++ name) k.items)) keys) (is_eq-slice_cmp (ip ++ name) k.items ∙ key_is ip name k.items four)
    ∙ ap (λ b. are_these name ip (parts_of k.items) || b) (keys-find ip name keys four)

-- so the key of a name finds whether it is confirmed
pub confirms_by_key : (names : BTreeMap (List ℕ) (String Global)) (keys : BTreeSet (Vec ℕ)) (name ip key : List ℕ) → length ip ≡ 4 → Some key ≡ key_of name ip → contains_by (λ (k : Vec ℕ). slice_cmp nat_cmp key k.items) keys ≡ confirms (hosts_in names keys) name ip
confirms_by_key names keys name ip key four made =
    elim (nat_le (length name) 255) as (λ b. Some key ≡ cond b (Some (ip ++ lower name)) None → contains_by (λ (k : Vec ℕ). slice_cmp nat_cmp key k.items) keys ≡ (b && list_any (are_these (lower name) ip) (all_parts keys.keys))) [
      | true ↦ λ e. (let same : key ≡ ip ++ lower name = cc in ap (λ q. contains_by (λ (k : Vec ℕ). slice_cmp nat_cmp q k.items) keys) same ∙ keys-find ip (lower name) keys.keys four)
      | false ↦ λ e. cc
    ] made

-- a key that is put among them
abbrev pub key_cmp : Vec ℕ → Vec ℕ → Ordering
key_cmp x y = slice_cmp nat_cmp x.items y.items

same_items : (x y : Vec ℕ) → key_cmp x y ≡ Equal → x.items ≡ y.items
same_items x y e = (bytes_eq-Decides x.items y.items).0 (sym (is_eq-slice_cmp x.items y.items) ∙ ap is_eq e)

or_swap : (a b c : Bool) → (a || (b || c)) ≡ (b || (a || c))
or_swap true true c = refl
or_swap true false c = refl
or_swap false b c = refl

or_twice : (a b c : Bool) → a ≡ b → (a || c) ≡ (b || (a || c))
or_twice true b c e = cc
or_twice false true c e = cc
or_twice false false c e = refl

list_any-insert_key : (p : List ℕ × List ℕ → Bool) (key : Vec ℕ) (keys : Keys) → list_any p (all_parts (insert_key key_cmp keys key)) ≡ (p (parts_of key.items) || list_any p (all_parts keys))
list_any-insert_key p key [] = refl
list_any-insert_key p key (k ∷ keys) = by_order (key_cmp key k) (list_any-insert_key p key keys) refl where
  by_order : (o : Ordering) → list_any p (all_parts (insert_key key_cmp keys key)) ≡ (p (parts_of key.items) || list_any p (all_parts keys)) → key_cmp key k ≡ o → list_any p (all_parts (match_ordering o (key ∷ k ∷ keys) (k ∷ keys) (k ∷ insert_key key_cmp keys key))) ≡ (p (parts_of key.items) || (p (parts_of k.items) || list_any p (all_parts keys)))
  by_order Less rest e = refl
  by_order Equal rest e =
      or_twice (p (parts_of k.items)) (p (parts_of key.items)) (list_any p (all_parts keys)) (ap (λ i. p (parts_of i)) (sym (same_items key k e)))
  by_order Greater rest e =
      ap (λ b. p (parts_of k.items) || b) rest
      ∙ or_swap (p (parts_of k.items)) (p (parts_of key.items)) (list_any p (all_parts keys))

-- a row that says that a name has an address is confirmed, and no other
regroup : (fits here there : Bool) → (here ≡ true → fits ≡ true) → (fits && (here || there)) ≡ ((fits && there) || here)
regroup true true true h = refl
regroup true true false h = refl
regroup true false true h = refl
regroup true false false h = refl
regroup false true there h = (let no = h refl in cc)
regroup false false there h = refl

same_short : (name other : List ℕ) → is_host_name name ≡ true → lower name ≡ lower other → nat_le (length other) 255 ≡ true
same_short name other h e =
    let long : length other ≡ length name = simp length-map at (ap length (sym e)) in
    ap (λ n. nat_le n 255) long ∙ host_name_short name h

pub address_added : (names : BTreeMap (List ℕ) (String Global)) (keys more : BTreeSet (Vec ℕ)) (key : Vec ℕ) (name ip : List ℕ) → more.keys ≡ insert_key key_cmp keys.keys key → Some key.items ≡ key_of name ip → length ip ≡ 4 → is_host_name name ≡ true → (other q : List ℕ) → confirms (hosts_in names more) other q ≡ (confirms (hosts_in names keys) other q || says_so other q (says (lower name) ip))
address_added names keys more key name ip put made four named other q =
    let p = are_these (lower other) q in
    let it : Some key.items ≡ Some (ip ++ lower name) = made ∙ ap (λ b. cond b (Some (ip ++ lower name)) None) (host_name_short name named) in
    let whole : key.items ≡ ip ++ lower name = cc in
    let parts : parts_of key.items ≡ (lower name, ip) = ap parts_of whole ∙ parts_of-append ip (lower name) four in
    let fits = λ (h : p (lower name, ip) ≡ true). same_short name other named ((bytes_eq-Decides (lower name) (lower other)).0 ((both_hold (bytes_eq (lower name) (lower other)) (bytes_eq ip q) h).0)) in
    ap (λ (ks : Keys). nat_le (length other) 255 && list_any p (all_parts ks)) put
    ∙ ap (λ b. nat_le (length other) 255 && b) (list_any-insert_key p key keys.keys ∙ ap (λ a. p a || list_any p (all_parts keys.keys)) parts)
    ∙ regroup (nat_le (length other) 255) (p (lower name, ip)) (list_any p (all_parts keys.keys)) fits
