use Rattle.server_events.specs.JournalParts.{books_of_journal}
use Rattle.std.proofs.Common.{List, [], Option, refl, sym, ap, ◌∙◌}
use Rattle.std.specs.Prelude.{is_some}
use Rattle.server_events.specs.Journals.{Books}
use Rattle.server_events.specs.ServerState.{ServerState}
use Rattle.rule_lookup.specs.Pairs.{Rule}
use Rattle.server_yard.proofs.Histories.{history_same, none_yet}
use Rattle.whole_yard.specs.Kept.{lists_of, rules_of}
use Rattle.whole_yard.proofs.Installs.{installed_same, none_installed, none_stored}
use Rattle.whole_yard.proofs.Keeping.{is_some-map, none_not_some}
use Rattle.whole_yard.proofs.yard.WholeYard.new.Goals as goal

pub invariant_of-result : goal.invariant_of-result
invariant_of-result g c =
    let made = c.in_ok-new.ensures.made in
    let server = made.empty in
    let books = ap books_of_journal made.has_journal in
    let none = c.requires.journal in
    record {
      honest = λ met. (c.requires.begins met).0;
      installs = c.requires.installs;
      told = c.requires.missing;
      phase = sym (ap (λ (u : ServerState). u.phase) server);
      going = λ s is. absurd (none_not_some s is);
      finds = λ honest s is. absurd (none_not_some s is);
      listed =
          ap (λ (o : Option (List (List Rule))). is_some o) c.no_lists-lists.ensures ∙ is_some-map _ (books_of_journal c.args.journal).notes
          ∙ sym (ap (λ (b : Books). is_some b.notes) books);
      installed = λ met. ∣ record {
        history = [];
        is_history = history_same (ap (λ (b : Books). b.report) books) (ap (λ (b : Books). b.count) books) (ap (λ (b : Books). b.notes) books) server [] (none_yet _ c.args.limit c.args.per_address none.tells none.stores);
        installed = installed_same refl refl refl (ap (λ (u : ServerState). u.phase) server) refl refl (none_installed (lists_of c.no_lists-lists.result) (g.D.Dir.state c.args.dir) (rules_of c.args.rules) c.args.limit c.args.per_address (none_stored _ _ c.no_lists-lists.ensures) (c.requires.begins met).1);
      } ∣₁;
    }
