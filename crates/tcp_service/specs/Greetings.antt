-- How the client of a connection is greeted: by a banner that is written before all else.
use Rattle.std.specs.Prelude.{◌≡◌, ◌++◌, ◌∷◌, ℕ, List, Option}
use Rattle.std.specs.Io.KnownBytes.{Appends}
use Rattle.child_jobs.specs.Programs.{ProgramText}
use Rattle.child_jobs.specs.Variables.{Variables}
use Rattle.child_jobs.specs.declared.outcome.NotStarted.{NotStarted}
use Rattle.tcp_service.specs.declared.guest.CutShort.{CutShort}
use Rattle.tcp_service.specs.declared.guest.Greeted.{Greeted}
use Rattle.tcp_service.specs.declared.guest.Guest.{Guest}
use Rattle.tcp_service.specs.declared.guest.Identity.{Identity}

-- which connection it is, and the connection itself: before its client was greeted, after that, and if that failed
abbrev pub guest_identity : {X : Type 0} → Guest X → Identity
guest_identity guest = guest.identity

abbrev pub guest_connection : {X : Type 0} → Guest X → X
guest_connection guest = guest.connection

abbrev pub greeted_identity : {X : Type 0} → Greeted X → Identity
greeted_identity greeted = greeted.identity

abbrev pub greeted_connection : {X : Type 0} → Greeted X → X
greeted_connection greeted = greeted.connection

abbrev pub cut_identity : {X : Type 0} → CutShort X → Identity
cut_identity cut = cut.identity

abbrev pub cut_connection : {X : Type 0} → CutShort X → X
cut_connection cut = cut.connection

-- the banner that its client was sent, or only a part of
abbrev pub greeted_with : {X : Type 0} → Greeted X → List ℕ
greeted_with greeted = greeted.banner.now

abbrev pub cut_with : {X : Type 0} → CutShort X → List ℕ
cut_with cut = cut.banner.now

-- of what was written to a connection
module _ {X : Type 0} (contents : X → Option (List ℕ)) (banner : List ℕ) where
  -- it is the whole banner, and nothing else
  abbrev pub IsGreeted : (old new : X) → Type 0
  IsGreeted old new = Appends (contents old) (contents new) banner

  -- it is a front of the banner, and not all of it
  pub record IsCutShort (old new : X) : Type 0 where
    pub written : List ℕ
    pub left : ℕ
    pub more : List ℕ
    pub whole : banner ≡ written ++ left ∷ more
    pub sent : Appends (contents old) (contents new) written

  -- why the program of a connection may be refused that was so, and then was greeted
  pub record RefusesGreeted (refuses : X → ProgramText → Variables → NotStarted → Type 0) (old : X)
      (program : ProgramText) (environment : Variables) (refusal : NotStarted) : Type 0 where
    pub connection : X
    pub greeted : IsGreeted old connection
    pub refused : refuses connection program environment refusal
