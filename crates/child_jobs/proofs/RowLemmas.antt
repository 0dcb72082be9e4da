-- What a table says of the lines so far.
use Rattle.std.proofs.Common.{◌≡◌, ℕ, ◌+◌, ◌<◌, ◌≤◌, List, ◌∷◌, length, Bool, true, false, cond, ◌||◌, Option, Some, None, refl, sym, ap, ◌∙◌, bytes_eq, arith}
use Rattle.child_jobs.specs.declared.hosts.Said.{Said}
use Rattle.child_jobs.specs.declared.hosts.Said.TheVariants.{Nothing, Gives, Has}
use Rattle.child_jobs.specs.HostMaps.{option_or, row_said}
use Rattle.child_jobs.specs.HostRows.{Row, ignored, gives, says, bad, first_bad, first_name, is_bad, is_confirmed, name_in, rows_of, says_so}
use Rattle.child_jobs.specs.Hosts.{Hosts, confirms, name_of}

-- what a table says, together with the lines that are left, is what all lines say; and so it is with the number of the first bad line
pub record SaysSoFar (hosts : Hosts) (text rest : List ℕ) (number : ℕ) : Type 0 where
  pub within : number + length rest ≤ length text
  pub names : (ip : List ℕ) → length ip ≡ 4 → option_or (name_of hosts ip) (first_name (rows_of rest) ip) ≡ first_name (rows_of text) ip
  pub confirmed : (name ip : List ℕ) → length ip ≡ 4 → (confirms hosts name ip || is_confirmed (rows_of rest) name ip) ≡ is_confirmed (rows_of text) name ip
  pub first : first_bad (number + 1) (rows_of rest) ≡ first_bad 1 (rows_of text)

option_or-assoc : (a b c : Option (List ℕ)) → option_or (option_or a b) c ≡ option_or a (option_or b c)
option_or-assoc None b c = refl
option_or-assoc (Some name) b c = refl

or_assoc : (a b c : Bool) → ((a || b) || c) ≡ (a || (b || c))
or_assoc true b c = refl
or_assoc false b c = refl

-- the name in a line comes before those of later lines
name_in-or : (row : Row) (ip : List ℕ) (later : Option (List ℕ)) → option_or (name_in row ip None) later ≡ name_in row ip later
name_in-or ignored ip later = refl
name_in-or (says name other) ip later = refl
name_in-or bad ip later = refl
name_in-or (gives other name) ip later =
    elim (bytes_eq other ip) as (λ b. option_or (cond b (Some name) None) later ≡ cond b (Some name) later) [ true ↦ refl | false ↦ refl ]

module _ (hosts : Hosts) (text rest later : List ℕ) (number : ℕ) (row : Row) (cut : rows_of rest ≡ row ∷ rows_of later) (so_far : SaysSoFar hosts text rest number) where
  -- a line more
  pub says_more : (after : Hosts) → is_bad row ≡ false → length later < length rest → ((ip : List ℕ) → name_of after ip ≡ option_or (name_of hosts ip) (name_in row ip None)) → ((name ip : List ℕ) → length ip ≡ 4 → confirms after name ip ≡ (confirms hosts name ip || says_so name ip row)) → SaysSoFar after text later (number + 1)
  says_more after good shorter names confirmed = record {
    within = omega (arith, so_far.within);
    names = λ ip four.
        ap (λ o. option_or o (first_name (rows_of later) ip)) (names ip)
        ∙ option_or-assoc (name_of hosts ip) (name_in row ip None) (first_name (rows_of later) ip)
        ∙ ap (option_or (name_of hosts ip)) (name_in-or row ip (first_name (rows_of later) ip))
        ∙ ap (λ rows. option_or (name_of hosts ip) (first_name rows ip)) (sym cut)
        ∙ so_far.names ip four;
    confirmed = λ name ip four.
        ap (λ b. b || is_confirmed (rows_of later) name ip) (confirmed name ip four)
        ∙ or_assoc (confirms hosts name ip) (says_so name ip row) (is_confirmed (rows_of later) name ip)
        ∙ ap (λ rows. confirms hosts name ip || is_confirmed rows name ip) (sym cut)
        ∙ so_far.confirmed name ip four;
    first =
        ap (λ b. cond b (Some (number + 1)) (first_bad (number + 1 + 1) (rows_of later))) (sym good)
        ∙ ap (first_bad (number + 1)) (sym cut)
        ∙ so_far.first;
  }

-- what is read of a good line is not bad
pub said_good : (said : Said) → is_bad (row_said said) ≡ false
said_good Nothing = refl
said_good (Gives ip name) = refl
said_good (Has name ip) = refl
