-- Who is alive by the events since a stop, and an event more.
use Rattle.std.proofs.Common.{◌≡◌, ℕ, List, [], ◌∷◌, ◌++◌, true, false, ◌&&◌, ◌==◌, not, cond, Option, None, refl, sym, ap, ◌∙◌, append-nil}
use Rattle.std.specs.List.{cons_option, filter, filter_map, list_any}
use Rattle.std.proofs.lemmas.List.Elements.{filter-append, filter_agree, filter_map-append}
use Rattle.rule_lookup.specs.Peers.{Client}
use Rattle.server_events.specs.declared.event.Event.{Event}
use Rattle.server_events.specs.declared.event.Event.TheVariants.{Admitted}
use Rattle.server_events.specs.ServerState.{ends}
use Rattle.server_events.specs.Live.{Life, admission}
use Rattle.server_events.proofs.ListLemmas.{list_any-push, filter-filter, filter-all, not_or}

-- who is alive by the events since a stop
abbrev pub alive : List Event → List Life
alive es = filter (λ (x : Life). not (list_any (ends x.serial) es)) (filter_map admission es)

-- by one event more: those that it does not end, and the one that it lets in, unless it was ended before
pub alive-push : (es : List Event) (e : Event) → alive (es ++ e ∷ []) ≡ filter (λ (x : Life). not (ends x.serial e)) (alive es) ++ filter (λ (x : Life). not (list_any (ends x.serial) es) && not (ends x.serial e)) (filter_map admission (e ∷ []))
alive-push es e =
    let before = λ (x : Life). not (list_any (ends x.serial) es) in
    let now = λ (x : Life). not (ends x.serial e) in
    let both = λ (x : Life). before x && now x in
    let admitted = filter_map admission es in
    let more = filter_map admission (e ∷ []) in
    let tests : filter (λ (x : Life). not (list_any (ends x.serial) (es ++ e ∷ []))) (filter_map admission (es ++ e ∷ [])) ≡ filter both (filter_map admission (es ++ e ∷ [])) = filter_agree (λ (x : Life). not (list_any (ends x.serial) (es ++ e ∷ []))) both (λ x. ap not (list_any-push (ends x.serial) es e) ∙ not_or (list_any (ends x.serial) es) (ends x.serial e)) (filter_map admission (es ++ e ∷ [])) in
    let parts : filter both (filter_map admission (es ++ e ∷ [])) ≡ filter both admitted ++ filter both more = ap (filter both) (filter_map-append admission es (e ∷ [])) ∙ filter-append both admitted more in
    let first : filter both admitted ≡ filter now (alive es) = sym (filter-filter now before admitted) in
    tests ∙ parts ∙ ap (λ (xs : List Life). xs ++ filter both more) first

-- an event that ends none and lets none in
pub alive-kept : (es : List Event) (e : Event) → ((n : ℕ) → ends n e ≡ false) → admission e ≡ None → alive (es ++ e ∷ []) ≡ alive es
alive-kept es e none lets_none =
    let both = λ (x : Life). not (list_any (ends x.serial) es) && not (ends x.serial e) in
    let kept : filter (λ (x : Life). not (ends x.serial e)) (alive es) ≡ alive es = filter-all (λ (x : Life). not (ends x.serial e)) (λ x. ap not (none x.serial)) (alive es) in
    let more : filter_map admission (e ∷ []) ≡ [] = ap (λ (o : Option Life). cons_option o []) lets_none in
    alive-push es e ∙ ap (λ (xs : List Life). xs ++ filter both (filter_map admission (e ∷ []))) kept ∙ ap (λ (xs : List Life). alive es ++ filter both xs) more ∙ append-nil (alive es)

-- an event that ends the connection m
pub alive-ended : (es : List Event) (e : Event) (m : ℕ) → ((n : ℕ) → ends n e ≡ (n == m)) → admission e ≡ None → alive (es ++ e ∷ []) ≡ filter (λ (x : Life). not (x.serial == m)) (alive es)
alive-ended es e m one lets_none =
    let both = λ (x : Life). not (list_any (ends x.serial) es) && not (ends x.serial e) in
    let others = filter (λ (x : Life). not (x.serial == m)) (alive es) in
    let kept : filter (λ (x : Life). not (ends x.serial e)) (alive es) ≡ others = filter_agree (λ (x : Life). not (ends x.serial e)) (λ (x : Life). not (x.serial == m)) (λ x. ap not (one x.serial)) (alive es) in
    let more : filter_map admission (e ∷ []) ≡ [] = ap (λ (o : Option Life). cons_option o []) lets_none in
    alive-push es e ∙ ap (λ (xs : List Life). xs ++ filter both (filter_map admission (e ∷ []))) kept ∙ ap (λ (xs : List Life). others ++ filter both xs) more ∙ append-nil others

-- a connection is let in, that no event has ended
pub alive-admitted : (es : List Event) (n : ℕ) (p : Client) → list_any (ends n) es ≡ false → alive (es ++ Admitted n p ∷ []) ≡ alive es ++ record { serial = n; peer = p } ∷ []
alive-admitted es n p none =
    let life : Life = record { serial = n; peer = p } in
    let kept : filter (λ (x : Life). true) (alive es) ≡ alive es = filter-all (λ (x : Life). true) (λ x. refl) (alive es) in
    alive-push es (Admitted n p) ∙ ap (λ (xs : List Life). xs ++ cond (not (list_any (ends n) es) && true) (life ∷ []) []) kept ∙ ap (λ b. alive es ++ cond (not b && true) (life ∷ []) []) none
