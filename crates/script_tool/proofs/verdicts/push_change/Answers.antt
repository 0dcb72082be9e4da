use Rattle.std.proofs.Common.{◌≡◌, ◌++◌, ◌∙◌, List, ℕ, ap, append_assoc, codes}
use Rattle.std.proofs.lemmas.Result.{on_ok_weaker}
use Rattle.script_tool.specs.Logs.{now_text, verdict_name, was_text}
use Rattle.script_words.specs.Meanings.{told_of}
use Rattle.script_tool.proofs.AskLemmas.{OnOk-same}
use Rattle.script_tool.proofs.verdicts.push_change.Goals as goal

-- the parts of a line, in a row
in_a_row : (front before rule after end : List ℕ) → front ++ before ++ rule ++ after ++ end ≡ front ++ (before ++ rule ++ after) ++ end
in_a_row front before rule after end = simp append_assoc

pub returns : goal.returns
returns c =
    let was = was_text (told_of c.args.told.now) in
    let now = c.args.now.now in
    let found = c.found_words.result in
    let front = codes ", now " ++ verdict_name now.verdict ++ codes " " in
    let line = front ++ found.0.now ++ found.1.now ++ found.2.now ++ codes "\n" in
    let row = in_a_row front found.0.now found.1.now found.2.now (codes "\n") ∙ ap (λ (words : List ℕ). front ++ words ++ codes "\n") c.found_words.ensures in
    on_ok_weaker c.append_line.result (λ e. e ∙ ap (λ (l : List ℕ). l ++ now_text now) c.in_ok-push_was.ensures ∙ append_assoc c.args.out.now.items was (now_text now))
    (OnOk-same line (now_text now) c.push_was.new.out.items c.append_line.new.out.items c.append_line.result row (rw c.verdict_name.ensures at c.append_line.ensures))
