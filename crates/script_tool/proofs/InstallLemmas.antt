-- The installation of the pending text.
use Rattle.std.proofs.Common.{◌≡◌, List, [], ◌∷◌, ◌++◌, ℕ, Option, None, Some, Result, Ok, Err, IfOk, OnOk, length, arith, refl, sym, ap, subst, ◌∙◌}
use Rattle.std.proofs.lemmas.List.{length-append}
use Rattle.std.proofs.lemmas.Option.{none-some, same_Some}
use Rattle.std.proofs.lemmas.Result.{IfOk-weaker}
use Rattle.dir_calls.specs.Directory.{Directory}
use Rattle.rule_lines.specs.declared.limits.Limits.{Limits}
use Rattle.rule_lines.specs.Faults.{IsAccepted}
use Rattle.rule_lookup.specs.Pairs.{pairs_of}
use Rattle.rules_install.specs.declared.fault.InstallFault.{InstallFault}
use Rattle.rules_install.specs.declared.install.Install.{Install}
use Rattle.rules_install.specs.Installing.{Fits, Installing, begun}
use Rattle.rules_install.specs.Installs.{installing}
use Rattle.rules_install.specs.NamePair.{NamePair}
use Rattle.rules_install.specs.Whole.{Begins, MayBeInstalled}
use Rattle.script_tool.specs.declared.simulation.Progress.{Progress}
use Rattle.script_tool.specs.Kept.{IsInstalling, MayBeInstalling, sim_names}
use Rattle.rules_tools.specs.Reviews.{profile}
use Rattle.script_tool.specs.Sim.{BegunInstall, Refusal, refusal_of, told}

-- limits with these numbers are those of the tools
limits_are : (limits : Limits) → limits.text ≡ profile.text → limits.line ≡ profile.line → limits.file ≡ profile.file → limits ≡ profile
limits_are limits text line file = λ i. record { text = text i; line = line i; file = file i }

-- what was begun with a text that is the pending one
module _ (r : Result Install InstallFault) (text pending : List ℕ) (same : text ≡ pending) where
  pub begun-pending : (names : NamePair) → names ≡ sim_names → IfOk r (λ install. installing install ≡ begun (pairs_of text) names) → IfOk r (λ install. installing install ≡ begun (pairs_of pending) sim_names)
  begun-pending names named =
      IfOk-weaker r _ _ (λ install is. is ∙ ap (λ t. begun (pairs_of t) names) same ∙ ap (begun (pairs_of pending)) named)

  pub Begins-pending : (limits : Limits) → limits.text ≡ profile.text → limits.line ≡ profile.line → limits.file ≡ profile.file → Begins limits text r → Begins profile pending r
  Begins-pending limits of_text of_line of_file begins =
      subst (λ l. Begins l pending r) (limits_are limits of_text of_line of_file) (subst (λ t. Begins limits t r) same begins)

-- an installation that was begun finds any directory as its steps left it, for it made none
pub IsInstalling-begun : (d : Directory) (install : Install) (text : List ℕ) → installing install ≡ begun (pairs_of text) sim_names → IsAccepted profile text → IsInstalling d (record { install = install; reached = None }) (record { text = text; reached = None })
IsInstalling-begun d install text is accepted = record {
  reached = refl;
  phase = ap (λ (s : Installing). s.reached) is;
  rules = ap (λ (s : Installing). s.rules) is;
  names = ap (λ (s : Installing). s.names) is;
  blank = λ early. ap (λ (s : Installing). s.patched) is;
  goes_on = ap (λ (s : Installing). s.over) is;
  fits = subst (λ (s : Installing). Fits s d) (sym is) (λ goes_on. tt);
  accepted = accepted;
}

-- where no installation is under way, none was begun, and the directory is no matter
pub begun-none : (d : Directory) (under_way : Option Progress) (begun : Option BegunInstall) → under_way ≡ None → MayBeInstalling d under_way begun → begun ≡ None
begun-none d None None is may = refl
begun-none d None (Some b) is may = absurd may
begun-none d (Some p) begun is may = absurd (none-some p (sym is))

pub MayBeInstalling-none : (d later : Directory) (under_way : Option Progress) → MayBeInstalling d under_way None → MayBeInstalling later under_way None
MayBeInstalling-none d later None none = tt
MayBeInstalling-none d later (Some p) none = absurd none

-- an installation under way is one that was begun
pub record IsOfBegun (d : Directory) (p : Progress) (begun : Option BegunInstall) : Type 0 where
  pub of : BegunInstall
  pub is : begun ≡ Some of
  pub installing : IsInstalling d p of

pub IsOfBegun-some : (d : Directory) (under_way : Option Progress) (p : Progress) (begun : Option BegunInstall) → under_way ≡ Some p → MayBeInstalling d under_way begun → IsOfBegun d p begun
IsOfBegun-some d None p begun is may = absurd (none-some p is)
IsOfBegun-some d (Some q) p None is may = absurd may
IsOfBegun-some d (Some q) p (Some b) is may =
    record { of = b; is = refl; installing = subst (λ progress. IsInstalling d progress b) (same_Some q p is) may }

-- a text that may be installed is not refused
pub refusal_of-none : (text : List ℕ) → MayBeInstalled profile text → refusal_of text ≡ None
refusal_of-none text may = grind arith

-- what is told in each choice of words is why a text was refused
words_differ : (old new : List ℕ) → new ≡ old ++ [] → new ≡ old ++ 0 ∷ [] → ⊥
words_differ old new none one = omega (arith, length-append old [], length-append old (0 ∷ []), ap length none, ap length one)

pub OnOk-refused : {T E : Type 0} (P : Option Refusal → Type 0) (r : Result T E) (refusal : Option Refusal) (words old new : List ℕ) → ((each : List ℕ) → OnOk r (new ≡ old ++ told each refusal)) → ((why : Refusal) → P (Some why)) → OnOk r (P refusal × (new ≡ old ++ told words refusal))
OnOk-refused P (Ok x) None words old new tells why = absurd (words_differ old new (tells []) (tells (0 ∷ [])))
OnOk-refused P (Ok x) (Some refusal) words old new tells why = (why refusal, tells words)
OnOk-refused P (Err e) refusal words old new tells why = tt
