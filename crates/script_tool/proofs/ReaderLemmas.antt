-- The files that stand, and those that readers opened.
use Rattle.std.proofs.Common.{◌≡◌, Bool, true, false, cond, List, [], ℕ, None, Some, Option, String, bytes_eq, slice_get, refl, sym, ap, subst, ◌∙◌}
use Rattle.std.proofs.lemmas.Bool.Decides.{Decides-like, same_from_decides}
use Rattle.std.proofs.lemmas.Option.{none-some, same_Some}
use Rattle.std.proofs.lemmas.Slice.Eq.{bytes_eq-Decides}
use Rattle.std.specs.BTreeMap.{BTreeMap, IsEmpty, get_by_text, is_at}
use Rattle.std.specs.Cmp.Lexicographic.{slice_cmp}
use Rattle.std.specs.Map.{lookup, update}
use Rattle.std.specs.Option.{IsSomeAnd, MatchOption, option_and_then, option_map}
use Rattle.std.specs.Ordering.{nat_cmp}
use Rattle.std.specs.String.{string_bytes}
use Rattle.dir_calls.specs.Directory.{Directory, FileState, content, names_of}
use Rattle.script_tool.specs.Kept.{IsFileOf, Reads, Shows, sim_names}
use Rattle.rule_lookup.specs.Settings.{Assignment}
use Rattle.rule_lookup.specs.declared.instr.Verdict.TheVariants.{Deny}
use Rattle.rule_lookup.specs.declared.decision.Found.TheVariants.{NoFile}
use Rattle.rule_lookup.specs.Peers.{Client}
use Rattle.script_tool.specs.Logs.{decided_now}
use Rattle.script_tool.specs.Sim.{with_reader}

-- an empty map has no readers
pub Reads-empty : {Y : Type 0} (readers : BTreeMap (String Y) (List ℕ)) → IsEmpty readers → (name : List ℕ) → Reads (get_by_text readers name) None
Reads-empty {Y} readers empty name =
    subst (λ (entries : List (String Y × List ℕ)). Reads (lookup (is_at (λ (key : String Y). slice_cmp nat_cmp name (string_bytes key))) entries) None) (sym empty) tt

-- the file that stands under the name of the rules file is of the text that stands
pub Reads-content : (d : Directory) (text : Option (List ℕ)) → Shows (names_of d) d.files text → Reads (content d (sim_names.cdb)) text
Reads-content d None shows =
    subst (λ (o : Option ℕ). Reads (option_map (λ (f : FileState). f.bytes) (option_and_then (λ number. slice_get d.files number) o)) None) (sym shows) tt
Reads-content d (Some text) (file, stands, is, other) =
    subst (λ (o : Option FileState). Reads (option_map (λ (f : FileState). f.bytes) o) (Some text)) (sym stands) is

-- what is made of a file, if there is one, is that file
pub map_same : (found made : Option (List ℕ)) → MatchOption found (made ≡ None) (λ file. IsSomeAnd made (λ new. new ≡ file)) → made ≡ option_map (λ (file : List ℕ). file) found
map_same None made cases = cases
map_same (Some file) None cases = absurd cases
map_same (Some file) (Some new) cases = ap Some cases

-- a file that is of some text, if there is one
pub record IsOf (text : Option (List ℕ)) (file : List ℕ) : Type 0 where
  pub of : List ℕ
  pub is : text ≡ Some of
  pub file_of : IsFileOf of file

pub IsOf-some : (found text : Option (List ℕ)) (file : List ℕ) → found ≡ Some file → Reads found text → IsOf text file
IsOf-some None text file is reads = absurd (none-some file is)
IsOf-some (Some found) None file is reads = absurd reads
IsOf-some (Some found) (Some text) file is reads =
    record { of = text; is = refl; file_of = subst (IsFileOf text) (same_Some found file is) reads }

-- one reader more, in place of the one with its name
bytes_eq-comm : (xs ys : List ℕ) → bytes_eq xs ys ≡ bytes_eq ys xs
bytes_eq-comm xs ys =
    same_from_decides (bytes_eq xs ys) (bytes_eq ys xs) (bytes_eq-Decides xs ys) (Decides-like (bytes_eq ys xs) sym sym (bytes_eq-Decides ys xs))

Reads-chosen : (b : Bool) (file text : List ℕ) (found had : Option (List ℕ)) → IsFileOf text file → Reads found had → Reads (cond b (Some file) found) (cond b (Some text) had)
Reads-chosen true file text found had is reads = is
Reads-chosen false file text found had is reads = reads

module _ {Y : Type 0} (map new : BTreeMap (String Y) (List ℕ)) (readers : List ℕ → Option (List ℕ)) (key name file : List ℕ) (named : key ≡ name) (updated : (other : List ℕ) → get_by_text new other ≡ update bytes_eq (get_by_text map) key (Some file) other) (reads : (other : List ℕ) → Reads (get_by_text map other) (readers other)) where
  updated_by : (other : List ℕ) → get_by_text new other ≡ cond (bytes_eq other name) (Some file) (get_by_text map other)
  updated_by other =
      updated other ∙ ap (λ b. cond b (Some file) (get_by_text map other)) (ap (λ k. bytes_eq k other) named ∙ bytes_eq-comm name other)

  pub Reads-with_reader : (standing : Option (List ℕ)) → IsOf standing file → (other : List ℕ) → Reads (get_by_text new other) (with_reader name standing readers other)
  Reads-with_reader standing read other =
      let chosen = Reads-chosen (bytes_eq other name) file read.of (get_by_text map other) (readers other) read.file_of (reads other) in
      let at : Reads (get_by_text new other) (with_reader name (Some read.of) readers other) = subst (λ (found : Option (List ℕ)). Reads found (with_reader name (Some read.of) readers other)) (sym (updated_by other)) chosen in
      subst (λ (text : Option (List ℕ)). Reads (get_by_text new other) (with_reader name text readers other)) (sym read.is) at

-- without a file there is no text
pub Reads-none : (found text : Option (List ℕ)) → found ≡ None → Reads found text → text ≡ None
Reads-none None None is reads = refl
Reads-none None (Some text) is reads = absurd reads
Reads-none (Some file) text is reads = absurd (none-some file (sym is))

-- and the decision is that of a missing file
pub decided_without : (text : Option (List ℕ)) (settings : List Assignment) (peer : Client) → text ≡ None → settings ≡ [] → record { found = NoFile; verdict = Deny; settings = settings } ≡ decided_now text peer
decided_without text settings peer none empty =
    ap (λ (s : List Assignment). record { found = NoFile; verdict = Deny; settings = s }) empty ∙ sym (ap (λ (t : Option (List ℕ)). decided_now t peer) none)
