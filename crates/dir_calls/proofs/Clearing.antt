-- What stays under other names.
use Rattle.std.proofs.Common.{◌≡◌, ◌≢◌, inl, inr, ⊎_elim, ℕ, List, length, refl, sym, ◌∙◌, ap, subst}
use Rattle.std.proofs.lemmas.List.{take-append-drop}
use Rattle.std.proofs.lemmas.List.Sums.{fold-append}
use Rattle.std.specs.Prelude.{take, drop, Option, None, Some}
use Rattle.std.specs.FinMap.{get}
use Rattle.dir_calls.specs.NameTable.{Names, NameTable, NameChange, takes, puts, SettlesSome, after_change, after_changes, current, push}
use Rattle.dir_calls.specs.Directory.{Directory, KeepsSynced, number_of}
use Rattle.dir_calls.specs.Calls.{makes, settles, after, taken_from, without}
use Rattle.dir_calls.specs.Clearing.{LeavesBefore, SparesOthers, StaysUnder}
use Rattle.dir_calls.specs.Lasting.{LastsAmong, StandsFor}
use Rattle.dir_calls.specs.Outcomes.{Fails, Passes}
use Rattle.dir_calls.proofs.Lasting.{after_keeps, stays}
use Rattle.dir_calls.proofs.NamesOf.{get-insert_other}
use Rattle.dir_calls.proofs.NameTables.{current-push, left_current, left_push, left_settled, left_some}
use Rattle.dir_calls.proofs.Removals.{apart}

pub same_stays : (name : List ℕ) (d e : Directory) → e ≡ d → StaysUnder name d e
same_stays name d e is = subst (λ (x : Directory). StaysUnder name d x) (sym is) (record {
  now = refl;
  left = λ names left. (names, left, refl);
  files = record { each = λ number file there synced. there };
})

pub stays_on : (name : List ℕ) (d e f : Directory) → StaysUnder name d e → StaysUnder name e f → StaysUnder name d f
stays_on name d e f first second = record {
  now = second.now ∙ first.now;
  left = λ names left.
      let mid = second.left names left in
      let was = first.left mid.0 mid.1 in
      (was.0, was.1, mid.2 ∙ was.2);
  files = record { each = λ number file there synced. second.files.each number file (first.files.each number file there synced) synced };
}

-- what lasts there lasts there
pub stays_lasts : (name : List ℕ) (d e : Directory) (contents : List (Option (List ℕ))) → StaysUnder name d e → LastsAmong d name contents → LastsAmong e name contents
stays_lasts name d e contents same lasts = record {
  each = λ names left.
      let was = same.left names left in
      stays d.files e.files contents (get names name) same.files
      (subst (λ number. StandsFor d.files contents number) (sym was.2) (lasts.each was.0 was.1));
}

-- a change of another name
change_left : (old t : NameTable) (name : List ℕ) (c : NameChange) → LeavesBefore name old t → get (after_change (current t) c) name ≡ get (current old) name
    → LeavesBefore name old (push t c)
change_left old t name c before new names left =
    ⊎_elim (before names) (λ is. (current old, left_current old, ap (λ (m : Names). get m name) is ∙ new)) (left_push t c names left)

module _ (d : Directory) (name other : List ℕ) (differ : name ≢ other) where
  taken_left : (o : Option ℕ) → LeavesBefore other d.names (taken_from d.names name o)
  taken_left None = λ names left. (names, left, refl)
  taken_left (Some n) = change_left d.names d.names other (takes name) (λ names left. (names, left, refl))
      (sym (ap (λ (m : Names). get m other) (current-push d.names (takes name))) ∙ apart d.names name other differ (Some n))

  made_now : get (after_change (current (without d name).names) (puts name (length d.files))) other ≡ number_of d other
  made_now =
      get-insert_other (current (without d name).names) other name (length d.files) (λ same. differ (sym same))
      ∙ apart d.names name other differ (number_of d name)

  -- in each state of a file that is made
  within_now : (state : Directory) → Passes (makes name) d state → number_of state other ≡ number_of d other
  within_now state (inl is) = ap (λ (x : Directory). number_of x other) is
  within_now state (inr (inl is)) = ap (λ (x : Directory). number_of x other) is ∙ apart d.names name other differ (number_of d name)
  within_now state (inr (inr is)) =
      ap (λ (x : Directory). number_of x other) is
      ∙ ap (λ (m : Names). get m other) (current-push (without d name).names (puts name (length d.files))) ∙ made_now

  within_left : (state : Directory) → Passes (makes name) d state → LeavesBefore other d.names state.names
  within_left state (inl is) = subst (λ (x : Directory). LeavesBefore other d.names x.names) (sym is) (λ names left. (names, left, refl))
  within_left state (inr (inl is)) = subst (λ (x : Directory). LeavesBefore other d.names x.names) (sym is) (taken_left (number_of d name))
  within_left state (inr (inr is)) =
      subst (λ (x : Directory). LeavesBefore other d.names x.names) (sym is)
      (change_left d.names (without d name).names other (puts name (length d.files)) (taken_left (number_of d name)) made_now)

  fails_stays : (e : Directory) → Fails (makes name) d e → StaysUnder other d e
  fails_stays e fails = record {
    now = ap (λ (t : NameTable). get (current t) other) fails.names.2 ∙ within_now fails.names.0 fails.names.1;
    left = subst (λ (t : NameTable). LeavesBefore other d.names t) (sym fails.names.2) (within_left fails.names.0 fails.names.1);
    files = fails.files;
  }

-- a file is not made, or a name is taken away
pub fails_spares : (name : List ℕ) (d e : Directory) → Fails (makes name) d e → SparesOthers name d e
fails_spares name d e fails other differ = fails_stays d name other differ e fails

-- a file is made
pub makes_spares : (name : List ℕ) (d e : Directory) → e ≡ after (makes name) d → SparesOthers name d e
makes_spares name d e is = fails_spares name d e (record {
  names = (after (makes name) d, inr (inr refl), ap (λ (x : Directory). x.names) is);
  files = subst (λ (x : Directory). KeepsSynced d.files x.files) (sym is) (after_keeps (makes name) d);
})

-- the names are settled, or some changes of them
pub settles_stays : (name : List ℕ) (d e : Directory) → e ≡ after settles d → StaysUnder name d e
settles_stays name d e is = subst (λ (x : Directory). StaysUnder name d x) (sym is) (record {
  now = refl;
  left = λ names left. (current d.names, left_current d.names, ap (λ (m : Names). get m name) (left_settled d.names names left));
  files = after_keeps settles d;
})

current_some : (old new : NameTable) → SettlesSome old new → current new ≡ current old
current_some old new some =
    (λ i. after_changes (some.settled i) (some.pending i))
    ∙ sym (fold-append after_change old.settled (take some.count old.pending) (drop some.count old.pending))
    ∙ ap (after_changes old.settled) (take-append-drop some.count old.pending)

pub unsettled_stays : (name : List ℕ) (d e : Directory) → Fails settles d e → StaysUnder name d e
unsettled_stays name d e fails = record {
  now = ap (λ (m : Names). get m name) (current_some d.names e.names fails.names);
  left = λ names left. (names, left_some d.names e.names names fails.names left, refl);
  files = fails.files;
}
