-- What each change of a state's fields keeps true of them.
use Rattle.std.proofs.Common.{◌≡◌, ℕ, ◌+◌, ◌<◌, ◌≤◌, List, [], ◌∷◌, ◌++◌, Some, cond, sym, ap, ◌∙◌, arith, bytes_eq, unwrap_or, subst}
use Rattle.std.specs.Prelude.{if◌then◌else◌, All, option_map}
use Rattle.std.specs.BTreeMap.{BTreeMap, insert_entry, is_at, values}
use Rattle.std.specs.Map.{values_of, lookup, remove_entry, set_value}
use Rattle.std.specs.Ordering.{nat_cmp}
use Rattle.std.proofs.lemmas.List.Elements.{All-nil, All-push, All-weaker}
use Rattle.std.proofs.lemmas.Map.Entries.{sum_by-remove_entry}
use Rattle.std.proofs.lemmas.Slice.Eq.{bytes_eq-Decides}
use Rattle.rule_lookup.specs.Peers.{Client}
use Rattle.server_events.specs.Addresses.{count_of}
use Rattle.server_events.specs.contracts.state.State.{the_view}
use Rattle.server_events.specs.declared.addresses.AddressCounts.{AddressCounts}
use Rattle.server_events.specs.declared.event.Stage.{Stage}
use Rattle.server_events.specs.declared.state.Connection.{Connection}
use Rattle.server_events.specs.declared.state.State.TheInside.{Inside}
use Rattle.server_events.specs.Kept.{HasOwnSerial, IsUpTo, Kept}
use Rattle.server_events.specs.ServerState.{ServerState, count_from, with_stage, without, newcomer}
use Rattle.server_events.proofs.Entries.{finds_serial, insert_entry-above, values_of-push, values_of-remove_entry, values_of-set_value, All-remove_entry, All-set_value}
use Rattle.server_events.proofs.Limits.{one_from, count_from-push, count_from-with_stage}

-- the state that is seen of the fields, where the connections change
pub view_with : (s : Inside) (w : ServerState) (m : BTreeMap ℕ Connection) (f : List Connection → List Connection) → the_view s ≡ w → values m ≡ f (values s.connections) → the_view (record s { connections = m }) ≡ record w { connections = f w.connections }
view_with s w m f seen e =
    ap (λ (cs : List Connection). record (the_view s) { connections = cs }) e
    ∙ ap (λ (u : ServerState). record u { connections = f u.connections }) seen

pub kept_empty : (s : Inside) → s.connections.entries ≡ [] → ((q : List ℕ) → count_of s.addresses q ≡ 0) → Kept s
kept_empty s empty none = record {
  own = subst (λ (es : List (ℕ × Connection)). All HasOwnSerial es) (sym empty) (All-nil HasOwnSerial);
  up_to_last = subst (λ (es : List (ℕ × Connection)). All (IsUpTo s.last) es) (sym empty) (All-nil (IsUpTo s.last));
  counted = λ q. none q ∙ ap (λ (es : List (ℕ × Connection)). count_from q (values_of es)) (sym empty);
}

module _ (s : Inside) (kept : Kept s) where
  -- a connection that is found is counted at its address
  module _ (n : ℕ) (x : Connection) (found : lookup (is_at (nat_cmp n)) s.connections.entries ≡ Some x) where
    counted_without : (q : List ℕ) → count_from q (values_of (remove_entry (is_at (nat_cmp n)) s.connections.entries)) + one_from q x ≡ count_of s.addresses q
    counted_without q =
        let sums = sum_by-remove_entry (one_from q) (is_at (nat_cmp n)) s.connections.entries in
        let this = ap (λ o. unwrap_or (option_map (one_from q) o) 0) found in
        let all = kept.counted q in
        omega arith

    pub counted_here : (ip : List ℕ) → ip ≡ x.peer.ip → 0 < count_of s.addresses ip
    counted_here ip e =
        let rest = counted_without ip in
        let one : one_from ip x ≡ 1 = ap (λ b. cond b 1 0) ((bytes_eq-Decides x.peer.ip ip).1 (sym e)) in
        omega arith

  -- the connections are those of m
  module _ (m : BTreeMap ℕ Connection) where
    pub kept_same : (a : AddressCounts) → m.entries ≡ s.connections.entries → ((q : List ℕ) → count_of a q ≡ count_of s.addresses q) → Kept (record s { connections = m; addresses = a })
    kept_same a same counts = record {
      own = subst (λ (es : List (ℕ × Connection)). All HasOwnSerial es) (sym same) kept.own;
      up_to_last = subst (λ (es : List (ℕ × Connection)). All (IsUpTo s.last) es) (sym same) kept.up_to_last;
      counted = λ q.
          counts q
          ∙ kept.counted q
          ∙ ap (λ (es : List (ℕ × Connection)). count_from q (values_of es)) (sym same);
    }

    -- with a newcomer
    module _ (n : ℕ) (p : Client) (next : n ≡ s.last + 1) (entries : m.entries ≡ insert_entry nat_cmp s.connections.entries n (newcomer n p)) where
      entries_admitted : m.entries ≡ s.connections.entries ++ (n, newcomer n p) ∷ []
      entries_admitted =
          entries ∙ insert_entry-above n (newcomer n p) s.last s.connections.entries (omega arith) kept.up_to_last

      pub values_admitted : values m ≡ values s.connections ++ newcomer n p ∷ []
      values_admitted =
          ap (λ (es : List (ℕ × Connection)). values_of es) entries_admitted
          ∙ values_of-push n (newcomer n p) s.connections.entries

      pub kept_admitted : (a : AddressCounts) (ip : List ℕ) → ip ≡ p.ip → ((q : List ℕ) → count_of a q ≡ count_of s.addresses q + (if bytes_eq ip q then 1 else 0)) → Kept (record s { last = n; connections = m; addresses = a })
      kept_admitted a ip e counts =
          let es = s.connections.entries in
          let below = All-weaker (IsUpTo s.last) (IsUpTo n) (λ e l. omega arith) es kept.up_to_last in
          let at : n ≤ n = omega arith in
          record {
            own = subst (λ (xs : List (ℕ × Connection)). All HasOwnSerial xs) (sym entries_admitted) (All-push HasOwnSerial es (n, newcomer n p) kept.own (λ _. n));
            up_to_last = subst (λ (xs : List (ℕ × Connection)). All (IsUpTo n) xs) (sym entries_admitted) (All-push (IsUpTo n) es (n, newcomer n p) below at);
            counted = λ q.
                counts q
                ∙ ap (λ k. k + (if bytes_eq ip q then 1 else 0)) (kept.counted q)
                ∙ ap (λ i. count_from q (values s.connections) + (if bytes_eq i q then 1 else 0)) e
                ∙ sym (count_from-push q (values s.connections) (newcomer n p))
                ∙ ap (λ (cs : List Connection). count_from q cs) (sym values_admitted);
          }

    -- with another stage of one of them
    module _ (n : ℕ) (x : Connection) (found : lookup (is_at (nat_cmp n)) s.connections.entries ≡ Some x) (stage : Stage) (entries : m.entries ≡ set_value (is_at (nat_cmp n)) s.connections.entries (record x { stage = stage })) where
      pub values_staged : values m ≡ with_stage n stage (values s.connections)
      values_staged =
          ap (λ (es : List (ℕ × Connection)). values_of es) entries
          ∙ values_of-set_value (is_at (nat_cmp n)) n (finds_serial n) stage x s.connections.entries kept.own found

      pub kept_staged : Kept (record s { connections = m })
      kept_staged =
          let es = s.connections.entries in
          let y = record x { stage = stage } in
          record {
            own = subst (λ (xs : List (ℕ × Connection)). All HasOwnSerial xs) (sym entries) (All-set_value HasOwnSerial (is_at (nat_cmp n)) x y es (λ e same p. p ∙ ap (λ (c : Connection). c.serial) same) found kept.own);
            up_to_last = subst (λ (xs : List (ℕ × Connection)). All (IsUpTo s.last) xs) (sym entries) (All-set_value (IsUpTo s.last) (is_at (nat_cmp n)) x y es (λ e same p. p) found kept.up_to_last);
            counted = λ q.
                kept.counted q
                ∙ sym (count_from-with_stage q n stage (values s.connections))
                ∙ ap (λ (cs : List Connection). count_from q cs) (sym values_staged);
          }

    -- without one of them
    module _ (n : ℕ) (entries : m.entries ≡ remove_entry (is_at (nat_cmp n)) s.connections.entries) where
      pub values_removed : values m ≡ without n (values s.connections)
      values_removed =
          ap (λ (es : List (ℕ × Connection)). values_of es) entries
          ∙ values_of-remove_entry (is_at (nat_cmp n)) n (finds_serial n) s.connections.entries kept.own

      pub kept_removed : (x : Connection) → lookup (is_at (nat_cmp n)) s.connections.entries ≡ Some x → (a : AddressCounts) (ip : List ℕ) → ip ≡ x.peer.ip → ((q : List ℕ) → count_of a q + (if bytes_eq ip q then 1 else 0) ≡ count_of s.addresses q) → Kept (record s { connections = m; addresses = a })
      kept_removed x found a ip e counts =
          let es = s.connections.entries in
          record {
            own = subst (λ (xs : List (ℕ × Connection)). All HasOwnSerial xs) (sym entries) (All-remove_entry HasOwnSerial (is_at (nat_cmp n)) es kept.own);
            up_to_last = subst (λ (xs : List (ℕ × Connection)). All (IsUpTo s.last) xs) (sym entries) (All-remove_entry (IsUpTo s.last) (is_at (nat_cmp n)) es kept.up_to_last);
            counted = λ q.
                let before = counts q in
                let after = counted_without n x found q in
                let here : (if bytes_eq ip q then 1 else 0) ≡ one_from q x = ap (λ i. if bytes_eq i q then 1 else 0) e in
                let same = ap (λ (xs : List (ℕ × Connection)). count_from q (values_of xs)) entries in
                omega arith;
          }
