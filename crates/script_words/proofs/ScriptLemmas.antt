-- Words, options and peers of a script.
use Rattle.std.proofs.Common.{◌≡◌, ◌≢◌, ℕ, Bool, true, false, ◌&&◌, cond, eqb, List, [], ◌∷◌, ◌++◌, map, length, drop, Option, Some, None, MatchOption, ◌<◌, ◌≤◌, arith, refl, sym, ap, ◌∙◌}
use Rattle.std.specs.Borrow.{Bor}
use Rattle.std.specs.List.{starts_with}
use Rattle.std.specs.Option.{ok_or, option_map}
use Rattle.std.specs.Result.{IsErrAnd}
use Rattle.std.specs.Char.{to_ascii_lowercase}
use Rattle.std.specs.Bool.{Decides}
use Rattle.std.proofs.lemmas.Slice.Eq.{bytes_eq-Decides}
use Rattle.std.proofs.lemmas.Bool.{eq-eqb, eqb-true, false≢true}
use Rattle.rule_lookup.specs.Peers.{Client, given, lowered, may_be_name}
use Rattle.rule_lookup.specs.Addresses.{ipv4_in}
use Rattle.std.specs.Str.{is_utf8}
use Rattle.std.specs.Prelude.{IsUtf8, IfErr, Result, Ok, Err, bytes_eq, codes, not}
use Rattle.std.proofs.lemmas.Str.{is_utf8-from_IsUtf8, IsUtf8-from_is_utf8}
use Rattle.script_words.specs.declared.script.LineEnd.{LineEnd}
use Rattle.script_words.specs.declared.script.LineEnd.TheVariants.{Bad, OutOfMemory}
use Rattle.script_words.specs.declared.script.Command.{Command as Read}
use Rattle.script_words.specs.Readings.{RefusesAs, RefusesLine, meaning, texts}
use Rattle.script_words.specs.Scripts.{Command, Skip, Add, other_command, command_in, command_of, has_words, words_of, option_in, fits, peer_at, peer_of}

-- a text begins with what it was made to begin with
starts_with-append : (mark rest : List ℕ) → starts_with eqb (mark ++ rest) mark ≡ true
starts_with-append [] rest = refl
starts_with-append (m ∷ mark) rest =
    ap (λ t. t && starts_with eqb (mark ++ rest) mark) (eq-eqb m m refl) ∙ starts_with-append mark rest

-- and one that begins so is that and more
both_begin : (m w : ℕ) (mark word rest : List ℕ) (b : Bool) → eqb m w ≡ b → (b && starts_with eqb word mark) ≡ true → (starts_with eqb word mark ≡ true → word ≡ mark ++ rest) → w ∷ word ≡ m ∷ (mark ++ rest)
both_begin m w mark word rest true same starts later =
    ap (λ x. x ∷ word) (sym (eqb-true m w same)) ∙ ap (λ (xs : List ℕ). m ∷ xs) (later starts)
both_begin m w mark word rest false same starts later = absurd (false≢true starts)

starts_with-parts : (mark word : List ℕ) → starts_with eqb word mark ≡ true → word ≡ mark ++ drop (length mark) word
starts_with-parts [] word starts = refl
starts_with-parts (m ∷ mark) [] starts = absurd (false≢true starts)
starts_with-parts (m ∷ mark) (w ∷ word) starts =
    both_begin m w mark word (drop (length mark) word) (eqb m w) refl starts (starts_with-parts mark word)

-- a word that does not begin with the mark has no option
none_in : (mark word : List ℕ) (b : Bool) → starts_with eqb word mark ≡ b → ((rest : List ℕ) → word ≢ mark ++ rest) → cond b (Some (drop (length mark) word)) None ≡ None
none_in mark word true starts apart =
    absurd (apart (drop (length mark) word) (starts_with-parts mark word starts))
none_in mark word false starts apart = refl

-- what `strip_prefix` gives is the option
pub option_in-stripped : (mark word : List ℕ) (B : Type 0) (L : Bor (List ℕ) → ℕ → Type 0) (r : Option (Bor (List ℕ))) → MatchOption r ((rest : List ℕ) → word ≢ mark ++ rest) (λ x. (n : ℕ) × ((n ≡ length mark) × (word ≡ mark ++ drop n word) × B) × (x.now ≡ drop n word) × L x n) → given r ≡ option_in mark word
option_in-stripped mark word B L None h = sym (none_in mark word (starts_with eqb word mark) refl h)
option_in-stripped mark word B L (Some x) h =
    let starts : starts_with eqb word mark ≡ true = ap (λ w. starts_with eqb w mark) h.1.1 ∙ starts_with-append mark (drop h.0 word) in
    sym (ap (λ b. cond b (Some (drop (length mark) word)) None) starts ∙ ap Some (ap (λ n. drop n word) (sym h.1.0) ∙ sym h.2))

-- names that were given are those that may be known
fits-given : (name : Option (Bor (List ℕ))) → fits (given name) ≡ may_be_name name
fits-given None = refl
fits-given (Some name) = refl

lowered-given : (host : Option (Bor (List ℕ))) → option_map (λ (name : List ℕ). map to_ascii_lowercase name) (given host) ≡ lowered host
lowered-given None = refl
lowered-given (Some host) = refl

abbrev no_client : Option Client
no_client = None

cond-none : (b : Bool) → cond b no_client no_client ≡ no_client
cond-none true = refl
cond-none false = refl

module _ (ip : List ℕ) (info host : Option (Bor (List ℕ))) where
  pub peer_of-made : (octets : List ℕ) → ipv4_in ip ≡ Some octets → may_be_name host ≡ true → may_be_name info ≡ true → peer_of ip (given info) (given host) ≡ Some (record { ip = octets; port = 0; host = lowered host; info = given info })
  peer_of-made octets address host_fits info_fits =
      ap (λ b. cond (b && fits (given info)) (option_map (peer_at (given info) (given host)) (ipv4_in ip)) None) (fits-given host ∙ host_fits)
      ∙ ap (λ b. cond b (option_map (peer_at (given info) (given host)) (ipv4_in ip)) None) (fits-given info ∙ info_fits)
      ∙ ap (option_map (peer_at (given info) (given host))) address
      ∙ ap (λ (name : Option (List ℕ)). Some (record { ip = octets; port = 0; host = name; info = given info })) (lowered-given host)

  pub peer_of-no_address : ipv4_in ip ≡ None → peer_of ip (given info) (given host) ≡ None
  peer_of-no_address address =
      ap (λ (o : Option (List ℕ)). cond (fits (given host) && fits (given info)) (option_map (peer_at (given info) (given host)) o) None) address
      ∙ cond-none (fits (given host) && fits (given info))

  pub peer_of-bad_host : may_be_name host ≡ false → peer_of ip (given info) (given host) ≡ None
  peer_of-bad_host unfit =
      ap (λ b. cond (b && fits (given info)) (option_map (peer_at (given info) (given host)) (ipv4_in ip)) None) (fits-given host ∙ unfit)

  pub peer_of-bad_info : may_be_name host ≡ true → may_be_name info ≡ false → peer_of ip (given info) (given host) ≡ None
  peer_of-bad_info host_fits unfit =
      ap (λ b. cond (b && fits (given info)) (option_map (peer_at (given info) (given host)) (ipv4_in ip)) None) (fits-given host ∙ host_fits)
      ∙ ap (λ b. cond b (option_map (peer_at (given info) (given host)) (ipv4_in ip)) None) (fits-given info ∙ unfit)

-- a line that is a command's
module _ (first : ℕ) (line rest : List ℕ) (is : line ≡ first ∷ rest) (no_comment : eqb first 35 ≡ false) (no_bar : eqb first 124 ≡ false) where
  at_words : (b : Bool) → is_utf8 line ≡ b → command_of line ≡ cond b (command_in (words_of line)) None
  at_words b text =
      ap command_of is
      ∙ ap (λ t. cond t (Some Skip) (cond (eqb first 124) (Some (Add rest)) (cond (is_utf8 (first ∷ rest)) (command_in (words_of (first ∷ rest))) None))) no_comment
      ∙ ap (λ t. cond t (Some (Add rest)) (cond (is_utf8 (first ∷ rest)) (command_in (words_of (first ∷ rest))) None)) no_bar
      ∙ ap (λ (l : List ℕ). cond (is_utf8 l) (command_in (words_of l)) None) (sym is)
      ∙ ap (λ t. cond t (command_in (words_of line)) None) text

  pub command_of-words : IsUtf8 line → command_of line ≡ command_in (words_of line)
  command_of-words text = at_words true (is_utf8-from_IsUtf8 line text)

  has_words-text : IsUtf8 line → has_words line ≡ true
  has_words-text text =
      ap has_words is
      ∙ ap (λ t. not t && not (eqb first 124) && is_utf8 (first ∷ rest)) no_comment
      ∙ ap (λ t. not t && is_utf8 (first ∷ rest)) no_bar
      ∙ ap is_utf8 (sym is)
      ∙ is_utf8-from_IsUtf8 line text

  -- why the words of a text give no command
  pub refuses_line : {X : Type 0} → IsUtf8 line → (result : Result X LineEnd) → (result ≡ Err Bad → command_in (words_of line) ≡ None) → IfErr result (RefusesLine line)
  refuses_line text (Ok x) refused = tt
  refuses_line text (Err Bad) refused = command_of-words text ∙ refused refl
  refuses_line text (Err OutOfMemory) refused = has_words-text text

  pub command_of-no_text : ¬ IsUtf8 line → command_of line ≡ None
  command_of-no_text no_text = at_words (is_utf8 line) refl ∙ none (is_utf8 line) refl where
    none : (b : Bool) → is_utf8 line ≡ b → cond b (command_in (words_of line)) None ≡ None
    none true text = absurd (no_text (IsUtf8-from_is_utf8 line text))
    none false text = refl

-- ---- why words give no command

-- what is made of what is wanted is refused as that
refuses_made : {X Y : Type 0} (made : X → Y) (wanted : Option X) (end : LineEnd) → RefusesAs wanted end → RefusesAs (option_map made wanted) end
refuses_made made None Bad refused = refl
refuses_made made None OutOfMemory refused = refused
refuses_made made (Some x) Bad refused = absurd (cc)
refuses_made made (Some x) OutOfMemory refused = refl

pub refuses_later : {X Y T : Type 0} (made : X → Y) (wanted : Option X) (named : Option Y) (end : LineEnd) (r : Result T LineEnd) → IsErrAnd r (λ other. other ≡ end)
    → RefusesAs wanted end → option_map made wanted ≡ named → IfErr r (RefusesAs named)
refuses_later made wanted named end (Ok x) is refused same = tt
refuses_later made wanted named end (Err other) is refused same = rw (is, ← same) (refuses_made made wanted end refused)

-- a command that is not found is bad
pub refuses_none : (found : Option Read) (wanted : Option Command) → option_map meaning found ≡ wanted → IfErr (ok_or found Bad) (RefusesAs wanted)
refuses_none None wanted is = sym is
refuses_none (Some command) wanted is = tt

-- ---- the number of words

pub three_or_more : (name : List ℕ) (words : List (Bor (List ℕ))) → 3 ≤ length words → None ≡ other_command name (texts words)
three_or_more name [] many = absurd (omega (arith, many))
three_or_more name (first ∷ []) many = absurd (omega (arith, many))
three_or_more name (first ∷ second ∷ []) many = absurd (omega (arith, many))
three_or_more name (first ∷ second ∷ third ∷ words) many = refl

fails : {P : Type 0} (b : Bool) → Decides b P → ¬ P → b ≡ false
fails true is not_so = absurd (not_so (is.0 refl))
fails false is not_so = refl

pub two_others : (name : List ℕ) (words : List (Bor (List ℕ))) → 2 ≤ length words → length words < 3 → name ≢ codes "events" → None ≡ other_command name (texts words)
two_others name [] least most other = absurd (omega (arith, least))
two_others name (first ∷ []) least most other = absurd (omega (arith, least))
two_others name (first ∷ second ∷ []) least most other =
    rw (fails (bytes_eq name (codes "events")) (bytes_eq-Decides name (codes "events")) other) refl
two_others name (first ∷ second ∷ third ∷ words) least most other = absurd (omega (arith, most))
