-- The warnings of a text, read line by line.
use Rattle.std.proofs.Common.{◌≡◌, ℕ, zero, suc, ◌+◌, ◌<◌, ◌≤◌, Bool, true, false, not, ◌&&◌, ◌||◌, ◌==◌, cond, List, [], ◌∷◌, ◌++◌, map, length, Option, None, Some, bytes_eq, is_some, flat_map, refl, sym, ap, subst, ◌∙◌, arith, length-append, append_assoc, ne_eqb}
use Rattle.std.specs.Prelude.{is_none}
use Rattle.std.specs.Io.KnownBytes.{Appends}
use Rattle.std.specs.List.{list_all, list_any, filter_map}
use Rattle.std.proofs.KnownBytes.{Appends-nil, Appends-trans}
use Rattle.std.proofs.lemmas.List.{append-nil}
use Rattle.std.proofs.lemmas.List.Concat.{flat_map-append}
use Rattle.std.proofs.lemmas.Option.{none-some, same_Some}
use Rattle.rule_lines.specs.declared.fault.LineKind.{LineKind}
use Rattle.rule_lines.specs.declared.fault.LineKind.TheVariants.{NoVerdict, BadSetting, BadRange}
use Rattle.rule_lines.specs.declared.fault.LineFault.{LineFault}
use Rattle.rule_lookup.specs.declared.instr.Verdict.{Verdict}
use Rattle.rule_lines.specs.Faults.{fault_beside, fault_in, fault_under, first_faulty, or_later}
use Rattle.rule_lookup.specs.Lines.{Line, lines_of, onto_line, trimmed}
use Rattle.rule_lookup.specs.Pairs.{address_in, instructions_in, is_ignored, settings_after, verdict_of}
use Rattle.rule_lookup.specs.Spread.{is_bad_range}
use Rattle.rule_warnings.specs.declared.warning.Warning.{Warning}
use Rattle.rule_warnings.specs.declared.warning.WarningKind.{WarningKind}
use Rattle.rule_warnings.specs.declared.warning.WarningKind.TheVariants.{NoClient, UnknownUser, BlankName, NobodyElse, Ignored}
use Rattle.rule_warnings.specs.Names.{has_blank_name, names_host}
use Rattle.rule_warnings.specs.Tables.{noted_all}
use Rattle.rule_warnings.specs.Warnings.{addresses_in, decided_by, first_from, first_in, has_no_client, has_user, kinds_between, kinds_by, looks_ignored, lines_report, report_of, table_report, trimmed_lines, warning_line, warnings_at, warnings_behind, warnings_of, when, when_decided}

-- equal searches find the same line
all_alike : (f g : List ℕ → Option ℕ) → ((a : List ℕ) → f a ≡ g a) → (addresses : List (List ℕ)) → list_all (λ a. is_some (f a)) addresses ≡ list_all (λ a. is_some (g a)) addresses
all_alike f g alike [] = refl
all_alike f g alike (a ∷ rest) = rw (alike a, all_alike f g alike rest) refl

lines_alike : (f g : List ℕ → Option ℕ) → ((a : List ℕ) → f a ≡ g a) → (addresses : List (List ℕ)) → filter_map f addresses ≡ filter_map g addresses
lines_alike f g alike [] = refl
lines_alike f g alike (a ∷ rest) = rw (alike a, lines_alike f g alike rest) refl

decided_by-alike : (f g : List ℕ → Option ℕ) → ((a : List ℕ) → f a ≡ g a) → (addresses : List (List ℕ)) → decided_by f addresses ≡ decided_by g addresses
decided_by-alike f g alike addresses = rw (all_alike f g alike addresses, lines_alike f g alike addresses) refl

-- one more line
among : (b : Bool) (n : ℕ) → cond b (Some n) None ≡ cond false None (cond b (Some n) None)
among b n = refl

pick : (t : Bool) (o : Option ℕ) (x n : ℕ) (b : Bool) → cond t (Some x) (cond (is_some o) o (cond b (Some n) None)) ≡ cond (is_some (cond t (Some x) o)) (cond t (Some x) o) (cond b (Some n) None)
pick true o x n b = refl
pick false o x n b = refl

first_from-push : (n k : ℕ) (lines : List (List ℕ)) (line address : List ℕ) → n + length lines ≡ k → first_from n (lines ++ line ∷ []) address ≡ cond (is_some (first_from n lines address)) (first_from n lines address) (cond (list_any (bytes_eq address) (addresses_in line)) (Some k) None)
first_from-push n k [] line address here =
    let same : n ≡ k = omega (arith, here) in
    ap (λ j. cond (list_any (bytes_eq address) (addresses_in line)) (Some j) None) same
first_from-push n k (l ∷ lines) line address here =
    ap (λ o. cond (list_any (bytes_eq address) (addresses_in l)) (Some n) o) (first_from-push (n + 1) k lines line address (omega arith))
    ∙ pick (list_any (bytes_eq address) (addresses_in l)) (first_from (n + 1) lines address) n k (list_any (bytes_eq address) (addresses_in line))

-- so what is noted of a line is what its text and those before it have
pub seen-push : (f g : List ℕ → Option ℕ) (earlier : List (List ℕ)) (line : List ℕ) (n : ℕ) → length earlier + 1 ≡ n → ((a : List ℕ) → f a ≡ first_in earlier a) → ((a : List ℕ) → g a ≡ noted_all f (addresses_in line) n a) → (a : List ℕ) → g a ≡ first_in (earlier ++ line ∷ []) a
seen-push f g earlier line n here before noted a =
    noted a ∙ ap (λ o. cond (is_some o) o (cond (list_any (bytes_eq a) (addresses_in line)) (Some n) None)) (before a)
    ∙ sym (first_from-push 1 n earlier line a (omega (arith, here)))

-- the line of an address is one of those so far
within_test : (t : Bool) (o : Option ℕ) (n k m : ℕ) → (o ≡ Some k → k < n + 1 + m) → cond t (Some n) o ≡ Some k → k < n + suc m
within_test true o n k m later is = omega (arith, same_Some n k is)
within_test false o n k m later is = omega (arith, later is)

from-within : (n k : ℕ) (lines : List (List ℕ)) (address : List ℕ) → first_from n lines address ≡ Some k → k < n + length lines
from-within n k [] address is = absurd (none-some k is)
from-within n k (line ∷ lines) address is =
    within_test (list_any (bytes_eq address) (addresses_in line)) (first_from (n + 1) lines address) n k (length lines) (from-within (n + 1) k lines address) is

pub seen-within : (table : List ℕ → Option ℕ) (earlier : List (List ℕ)) (number : ℕ) → length earlier ≡ number → ((a : List ℕ) → table a ≡ first_in earlier a) → (a : List ℕ) (n : ℕ) → table a ≡ Some n → n ≤ number + 1
seen-within table earlier number counted seen a n is = omega (arith, counted, from-within 1 n earlier a (sym (seen a) ∙ is))

some_length : (n : ℕ) → (suc n == 0) ≡ false
some_length n = ne_eqb (suc n) 0 (λ same. omega (arith, same))

-- a text has lines where it isn't empty
onto-some : (b : ℕ) (lines : List Line) → (length (onto_line b lines) == 0) ≡ false
onto-some b [] = refl
onto-some b (line ∷ lines) = some_length (length lines)

lines-some : (b : ℕ) (bs : List ℕ) (t : Bool) → (length (cond t (record { bytes = []; ended = true } ∷ lines_of bs) (onto_line b (lines_of bs))) == 0) ≡ false
lines-some b bs true = some_length (length (lines_of bs))
lines-some b bs false = onto-some b (lines_of bs)

length-trimmed : (lines : List Line) → (length (map (λ (line : Line). trimmed line.bytes) lines) == 0) ≡ (length lines == 0)
length-trimmed [] = refl
length-trimmed (line ∷ lines) = some_length _ ∙ sym (some_length (length lines))

pub no_lines : (text : List ℕ) → (length (trimmed_lines text) == 0) ≡ (length text == 0)
no_lines [] = refl
no_lines (b ∷ bs) = length-trimmed (lines_of (b ∷ bs)) ∙ lines-some b bs (b == 10) ∙ sym (some_length (length bs))

-- a faultless line
some-none : {P : Type 0} (kind : LineKind) → Some kind ≡ None → P
some-none kind is = absurd (cc)

beside : (b : Bool) (o : Option LineKind) → cond b (Some BadRange) o ≡ None → b ≡ false
beside false o is = refl
beside true o is = some-none BadRange is

settled : (b : Bool) (o : Option LineKind) → cond b (Some BadSetting) o ≡ None → o ≡ None
settled false o is = is
settled true o is = some-none BadSetting is

under : (limit : ℕ) (line : List ℕ) (verdict : Option Verdict) → fault_under limit line verdict ≡ None → is_bad_range (address_in line) ≡ false
under limit line None is = some-none NoVerdict is
under limit line (Some verdict) is = beside (is_bad_range (address_in line)) _ (settled (is_none (settings_after _ verdict (instructions_in line))) (fault_beside limit line) is)

rule_of : (b : Bool) (o : Option LineKind) → b ≡ false → cond b None o ≡ None → o ≡ None
rule_of false o rule is = is
rule_of true o rule is = absurd (cc)

pub readable : (limit : ℕ) (line : List ℕ) → fault_in limit line ≡ None → is_ignored line ≡ false → is_bad_range (address_in line) ≡ false
readable limit line faultless rule = under limit line (verdict_of (instructions_in line)) (rule_of (is_ignored line) _ rule faultless)

first_none : (n : ℕ) (o : Option LineKind) (later : Option LineFault) → or_later n o later ≡ None → (o ≡ None) × (later ≡ None)
first_none n None later is = (refl, is)
first_none n (Some kind) later is = absurd (cc)

-- the first line and those after it have no fault
pub faultless-lines : (limit n : ℕ) (rest line after : List ℕ) (ended : Bool) → lines_of rest ≡ record { bytes = line; ended = ended } ∷ lines_of after → first_faulty limit n (lines_of rest) ≡ None → (fault_in limit (trimmed line) ≡ None) × (first_faulty limit (n + 1) (lines_of after) ≡ None)
faultless-lines limit n rest line after ended cut faultless =
    first_none n (fault_in limit (trimmed line)) (first_faulty limit (n + 1) (lines_of after)) (sym (ap (first_faulty limit n) cut) ∙ faultless)

-- the report of lines
abbrev pub report_behind : List (List ℕ) → List (List ℕ) → List ℕ
report_behind earlier lines = flat_map warning_line (warnings_behind earlier lines)

pub lines_report-some : (text : List ℕ) → 0 < length text → lines_report text ≡ report_behind [] (trimmed_lines text)
lines_report-some [] some = absurd (omega arith)
lines_report-some (b ∷ bs) some = refl

-- lines were read up to a rest, and their warnings were written
pub record IsWrittenUpTo (limit : ℕ) (text rest : List ℕ) (number : ℕ) (table : List ℕ → Option ℕ) (warned : Bool) (old new : Option (List ℕ)) : Type 0 where
  pub earlier : List (List ℕ)
  pub written : List ℕ
  pub counted : length earlier ≡ number
  pub room : number + length rest ≤ length text
  pub seen : (a : List ℕ) → table a ≡ first_in earlier a
  pub faultless : first_faulty limit (number + 1) (lines_of rest) ≡ None
  pub appended : Appends old new written
  pub left : written ++ report_behind earlier (trimmed_lines rest) ≡ report_behind [] (trimmed_lines text)
  pub told : warned ≡ not (length written == 0)

-- the kinds of warning, by the line that decides
abbrev kinds_with : List ℕ → Option ℕ → Bool → List WarningKind
kinds_with line decided leaves =
    when (has_no_client line) NoClient ++ when (has_user line) UnknownUser ++ when_decided decided ++ when (has_blank_name line) BlankName ++ when leaves NobodyElse ++ when (looks_ignored line) Ignored

kinds-same : (f g : List ℕ → Option ℕ) (earlier : List (List ℕ)) (line after : List ℕ) (is_last : Bool) → is_last ≡ (length after == 0) → ((a : List ℕ) → f a ≡ first_in earlier a) → ((a : List ℕ) → g a ≡ first_in (earlier ++ line ∷ []) a) → kinds_by f line (is_last && is_none (g [])) ≡ kinds_between earlier line (trimmed_lines after)
kinds-same f g earlier line after is_last last before now =
    ap (λ d. kinds_with line d (is_last && is_none (g []))) (decided_by-alike f (first_in earlier) before (addresses_in line))
    ∙ ap (λ b. kinds_with line (decided_by (first_in earlier) (addresses_in line)) (b && is_none (g []))) (last ∙ sym (no_lines after))
    ∙ ap (λ o. kinds_with line (decided_by (first_in earlier) (addresses_in line)) ((length (trimmed_lines after) == 0) && is_none o)) (now [])

either : (m n : ℕ) → (not (m == 0) || not (n == 0)) ≡ not (m + n == 0)
either zero n = let same : n ≡ zero + n = omega arith in ap (λ k. not (k == 0)) same
either (suc m) n = ap (λ b. not b || not (n == 0)) (some_length m) ∙ sym (ap not (ne_eqb (suc m + n) 0 (λ same. omega (arith, same))))

-- a line more was read, and its warnings were written
pub written-more : (limit : ℕ) (text rest line after : List ℕ) (ended : Bool) (number : ℕ) (f g : List ℕ → Option ℕ) (warned now : Bool) (old new newer : Option (List ℕ)) (lines : List ℕ) (kinds : List WarningKind) (is_last : Bool) → lines_of rest ≡ record { bytes = line; ended = ended } ∷ lines_of after → length after < length rest → is_last ≡ (length after == 0) → kinds ≡ kinds_by f (trimmed line) (is_last && is_none (g [])) → ((a : List ℕ) → g a ≡ noted_all f (addresses_in (trimmed line)) (number + 1) a) → lines ≡ flat_map warning_line (warnings_at (number + 1) kinds) → Appends new newer lines → now ≡ (warned || not (length lines == 0)) → IsWrittenUpTo limit text rest number f warned old new → IsWrittenUpTo limit text after (number + 1) g now old newer
written-more limit text rest line after ended number f g warned now old new newer lines kinds is_last cut shorter last found noted made appended told so_far =
    let earlier = so_far.earlier in
    let one = trimmed line in
    let later = trimmed_lines after in
    let seen = seen-push f g earlier one (number + 1) (omega (arith, so_far.counted)) so_far.seen noted in
    let kinds_are : kinds ≡ kinds_between earlier one later = found ∙ kinds-same f g earlier one after is_last last so_far.seen seen in
    let lines_are : lines ≡ flat_map warning_line (warnings_at (length earlier + 1) (kinds_between earlier one later)) = made ∙ ap (λ n. flat_map warning_line (warnings_at (n + 1) kinds)) (sym so_far.counted) ∙ ap (λ (ks : List WarningKind). flat_map warning_line (warnings_at (length earlier + 1) ks)) kinds_are in
    let rest_is : report_behind earlier (trimmed_lines rest) ≡ lines ++ report_behind (earlier ++ one ∷ []) later =
    ap (λ (ls : List Line). report_behind earlier (map (λ (line : Line). trimmed line.bytes) ls)) cut
    ∙ flat_map-append warning_line (warnings_at (length earlier + 1) (kinds_between earlier one later)) (warnings_behind (earlier ++ one ∷ []) later)
    ∙ ap (λ (ls : List ℕ). ls ++ report_behind (earlier ++ one ∷ []) later) (sym lines_are) in
    record {
      earlier = earlier ++ one ∷ [];
      written = so_far.written ++ lines;
      counted = omega (arith, so_far.counted, length-append earlier (one ∷ []));
      room = omega (arith, so_far.room, shorter);
      seen = seen;
      faultless = (faultless-lines limit (number + 1) rest line after ended cut so_far.faultless).1;
      appended = Appends-trans old new newer so_far.written lines so_far.appended appended;
      left = append_assoc so_far.written lines (report_behind (earlier ++ one ∷ []) later) ∙ ap (λ (ls : List ℕ). so_far.written ++ ls) (sym rest_is) ∙ so_far.left;
      told = told ∙ ap (λ b. b || not (length lines == 0)) so_far.told ∙ either (length so_far.written) (length lines) ∙ ap (λ n. not (n == 0)) (sym (length-append so_far.written lines));
    }

-- nothing was read
pub written-none : (limit : ℕ) (text : List ℕ) (f : List ℕ → Option ℕ) (old : Option (List ℕ)) → ((a : List ℕ) → f a ≡ None) → first_faulty limit 1 (lines_of text) ≡ None → IsWrittenUpTo limit text text 0 f false old old
written-none limit text f old none faultless = record {
  earlier = [];
  written = [];
  counted = refl;
  room = omega arith;
  seen = none;
  faultless = faultless;
  appended = Appends-nil old;
  left = refl;
  told = refl;
}

-- all was read
pub written-all : (limit : ℕ) (text rest : List ℕ) (number : ℕ) (f : List ℕ → Option ℕ) (warned : Bool) (old new : Option (List ℕ)) → 0 < length text → length rest ≡ 0 → IsWrittenUpTo limit text rest number f warned old new → (Appends old new (lines_report text)) × (warned ≡ not (length (lines_report text) == 0))
written-all limit text [] number f warned old new some none so_far =
    let all : so_far.written ≡ lines_report text = sym (append-nil so_far.written) ∙ so_far.left ∙ sym (lines_report-some text some) in
    (subst (Appends old new) all so_far.appended, so_far.told ∙ ap (λ (bytes : List ℕ). not (length bytes == 0)) all)
written-all limit text (b ∷ bs) number f warned old new some none so_far = absurd (omega (arith, none))

-- and then what is told of rules by name
pub written-table : (text : List ℕ) (named : Bool) (old mid new : Option (List ℕ)) → 0 < length text → named ≡ list_any names_host (trimmed_lines text) → Appends old mid (lines_report text) → Appends mid new (table_report named) → Appends old new (report_of text)
written-table [] named old mid new some is first second = absurd (omega (arith, some))
written-table (b ∷ bs) named old mid new some is first second =
    subst (Appends old new) (ap (λ (t : Bool). lines_report (b ∷ bs) ++ table_report t) is)
    (Appends-trans old mid new (lines_report (b ∷ bs)) (table_report named) first second)

or_later_too : (a b c : Bool) → ((a || b) || c) ≡ (a || (b || c))
or_later_too true b c = refl
or_later_too false b c = refl

-- a line more was looked at for a rule by name
pub named-more : (named now total : Bool) (rest line after : List ℕ) (ended : Bool) → lines_of rest ≡ record { bytes = line; ended = ended } ∷ lines_of after → now ≡ (named || names_host (trimmed line)) → (named || list_any names_host (trimmed_lines rest)) ≡ total → (now || list_any names_host (trimmed_lines after)) ≡ total
named-more named now total rest line after ended cut found so_far =
    ap (λ b. b || list_any names_host (trimmed_lines after)) found
    ∙ or_later_too named (names_host (trimmed line)) (list_any names_host (trimmed_lines after))
    ∙ sym (ap (λ (ls : List Line). named || list_any names_host (map (λ (line : Line). trimmed line.bytes) ls)) cut)
    ∙ so_far

or_nothing : (a : Bool) → (a || false) ≡ a
or_nothing true = refl
or_nothing false = refl

-- all lines were looked at
pub named-all : (named total : Bool) (rest : List ℕ) → length rest ≡ 0 → (named || list_any names_host (trimmed_lines rest)) ≡ total → named ≡ total
named-all named total [] none is = sym (or_nothing named) ∙ is
named-all named total (b ∷ bs) none is = absurd (omega (arith, none))

-- a line is never empty, so there is a line exactly where there is a warning
pub warned-report : (text : List ℕ) → (length (lines_report text) == 0) ≡ (length (warnings_of text) == 0)
warned-report text = by_list (warnings_of text) where
  by_list : (warnings : List Warning) → (length (flat_map warning_line warnings) == 0) ≡ (length warnings == 0)
  by_list [] = refl
  by_list (warning ∷ warnings) = some_length _ ∙ sym (some_length (length warnings))
