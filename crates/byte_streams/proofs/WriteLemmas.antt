-- What a writer takes of bytes, write by write.
use Rattle.std.proofs.Common.{◌≡◌, ℕ, ◌<◌, List, [], ◌∷◌, ◌++◌, length, take, drop, Result, Ok, Err, refl, sym, ap, ◌∙◌, append_assoc, arith}
use Rattle.std.proofs.lemmas.List.{append-nil, take-append-drop}
use Rattle.std.proofs.lemmas.Result.{MatchResult-at_ok}
use Rattle.std.specs.declared.option.Option.{Option}
use Rattle.std.specs.Io.KnownBytes.{Appends, Keeps, WriteAppends}
use Rattle.std.proofs.KnownBytes.{Appends-kept, Appends-nil, Appends-trans}
use Rattle.byte_streams.specs.Pieces.{Wrote}
use Rattle.byte_streams.specs.declared.pumping.Why.TheVariants.{WriteFault, ZeroWrite}

-- the writer has taken bytes, and the rest stands behind them
pub record Goes (writer writer' : Option (List ℕ)) (bytes rest : List ℕ) : Type 0 where
  pub done : List ℕ
  pub cut : bytes ≡ done ++ rest
  pub writes : Appends writer writer' done

pub goes_none : (writer : Option (List ℕ)) (bytes : List ℕ) → Goes writer writer bytes bytes
goes_none writer bytes = record { done = []; cut = refl; writes = Appends-nil writer }

pub goes_more : {writer writer' writer'' : Option (List ℕ)} {bytes rest rest' : List ℕ} (n : ℕ) → Goes writer writer' bytes rest → Appends writer' writer'' (take n rest) → rest' ≡ drop n rest → Goes writer writer'' bytes rest'
goes_more {writer} {writer'} {writer''} {bytes} {rest} {rest'} n goes writes' is = record {
  done = goes.done ++ take n rest;
  cut =
      goes.cut ∙ ap (λ l. goes.done ++ l) (sym (take-append-drop n rest)) ∙ sym (append_assoc goes.done (take n rest) (drop n rest))
      ∙ ap (λ l. (goes.done ++ take n rest) ++ l) (sym is);
  writes = Appends-trans writer writer' writer'' goes.done (take n rest) goes.writes writes';
}

-- a write that failed took nothing
pub goes_kept : {writer writer' writer'' : Option (List ℕ)} {bytes rest : List ℕ} → Goes writer writer' bytes rest → Keeps writer' writer'' → Goes writer writer'' bytes rest
goes_kept {writer} {writer'} {writer''} goes keeps = record {
  done = goes.done;
  cut = goes.cut;
  writes = Appends-kept writer writer' writer'' goes.done goes.writes keeps;
}

-- so did one that took no byte
pub goes_zero : {E : Type 0} {writer writer' writer'' : Option (List ℕ)} {bytes rest : List ℕ} {n : ℕ} (result : Result ℕ E) → result ≡ Ok n → n ≡ 0 → Goes writer writer' bytes rest → WriteAppends writer' writer'' result rest → Goes writer writer'' bytes rest
goes_zero {E} {writer} {writer'} {writer''} {bytes} {rest} {n} result took none goes wrote =
    let writes' : Appends writer' writer'' [] = MatchResult-at_ok (λ k. Appends writer' writer'' (take k rest)) (λ _. Keeps writer' writer'') 0 (took ∙ ap Ok none) wrote in
    record {
      done = goes.done ++ [];
      cut = goes.cut ∙ ap (λ l. l ++ rest) (sym (append-nil goes.done));
      writes = Appends-trans writer writer' writer'' goes.done [] goes.writes writes';
    }

-- nothing is left
pub wrote_all : {writer writer' : Option (List ℕ)} {bytes rest : List ℕ} → Goes writer writer' bytes rest → rest ≡ [] → Wrote writer writer' bytes (Ok tt)
wrote_all goes none = record {
  written = goes.done;
  writes = goes.writes;
  all = goes.cut ∙ ap (λ l. goes.done ++ l) none ∙ append-nil goes.done;
  reason = tt;
}

-- the first byte that is left, and those behind it
pub record IsSome (bytes : List ℕ) : Type 0 where
  pub first : ℕ
  pub more : List ℕ
  pub is : bytes ≡ first ∷ more

pub some_left : (bytes : List ℕ) → 0 < length bytes → IsSome bytes
some_left [] some = absurd (omega arith)
some_left (b ∷ bs) some = record { first = b; more = bs; is = refl }

pub wrote_less : {writer writer' : Option (List ℕ)} {bytes rest : List ℕ} → Goes writer writer' bytes rest → IsSome rest → Wrote writer writer' bytes (Err WriteFault)
wrote_less goes some = record {
  written = goes.done;
  writes = goes.writes;
  all = (some.first, some.more, goes.cut ∙ ap (λ l. goes.done ++ l) some.is);
  reason = tt;
}

pub wrote_none : {writer writer' : Option (List ℕ)} {bytes rest : List ℕ} → Goes writer writer' bytes rest → IsSome rest → Wrote writer writer' bytes (Err ZeroWrite)
wrote_none goes some = record {
  written = goes.done;
  writes = goes.writes;
  all = (some.first, some.more, goes.cut ∙ ap (λ l. goes.done ++ l) some.is);
  reason = tt;
}
