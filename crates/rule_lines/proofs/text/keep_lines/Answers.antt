-- Each line leaves what is kept of it behind what was kept before.
use Rattle.std.proofs.Common.{◌≡◌, ◌+◌, ◌-◌, ◌++◌, ◌∙◌, ◌<◌, None, length, take, drop, refl, sym, ap, subst, arith}
use Rattle.rule_lines.specs.Kept.{IsKeptOf}
use Rattle.rule_lookup.specs.Lines.{has_byte, trimmed}
use Rattle.rule_lines.specs.Faults.{fault_in}
use Rattle.rule_lines.specs.RuleFaults.{IsPlain}
use Rattle.rule_lines.proofs.KeepLemmas.{IsKeptUpTo, IsKeptUpTo-more, plain-parts, room-kept, trimmed-part}
use Rattle.rule_lines.proofs.PlainLemmas.{IsPlain-trimmed}
use Rattle.rule_lines.proofs.TallyLemmas.{IfSome-is}
use Rattle.rule_lines.proofs.text.keep_lines.Goals as goal
use Rattle.rule_lines.proofs.text.keep_lines.Goals.{After-trim_blanks, After-deref-in-loop-start}

pub keep_line-requires-clause-one_line : goal.keep_line-requires-clause-one_line
keep_line-requires-clause-one_line c = ap (has_byte 10) c.trim_blanks.ensures ∙ (trimmed-part c.first_line.result.0.now c.first_line.ensures.one_line).0

-- what was read, where the text is as it stands in memory
up : (c : After-trim_blanks) → IsKeptUpTo c.args.plain c.args.limit c.args.text.now.items c.deref.result.now c.loop-start.start c.loop-start.end c.loop-start.number c.loop-start.tally
up c = subst (λ t. IsKeptUpTo c.args.plain c.args.limit c.args.text.now.items t c.loop-start.start c.loop-start.end c.loop-start.number c.loop-start.tally) (sym c.deref.ensures.value) c.loop-start.invariant

pub keep_line-requires-clause-plain : goal.keep_line-requires-clause-plain
keep_line-requires-clause-plain c = λ plain.
    let at = (goal.at.keep_line-requires-clause-plain c).After-trim_blanks in
    subst IsPlain (sym c.trim_blanks.ensures) (IsPlain-trimmed c.first_line.result.0.now
    (plain-parts c.args.plain c.args.limit c.args.text.now.items c.deref.result.now c.first_line.result.0.now c.first_line.result.1.now c.loop-start.start c.loop-start.end c.loop-start.number c.loop-start.tally (up at) c.first_line.ensures.lines c.first_line.ensures.cut plain).0)

is_kept : (c : After-deref-in-loop-start) → IsKeptOf (trimmed c.first_line.result.0.now) c.deref-in-loop-start.result.now c.in-Ok.more
is_kept c =
    subst (λ kept. IsKeptOf (trimmed c.first_line.result.0.now) kept c.in-Ok.more) (sym c.deref-in-loop-start.ensures.value)
    (subst (λ line. IsKeptOf line c.keep_line.new.kept.items c.in-Ok.more) c.trim_blanks.ensures c.in-Ok.ensures.kept)

faultless : (c : After-deref-in-loop-start) → fault_in c.args.limit (trimmed c.first_line.result.0.now) ≡ None
faultless c = ap (fault_in c.args.limit) (sym c.trim_blanks.ensures) ∙ c.in-Ok.ensures.faultless

pub overwrite-requires : goal.overwrite-requires
overwrite-requires c =
    let at = (goal.at.overwrite-requires c).After-deref-in-loop-start in
    let read = (goal.at.overwrite-requires c).After-trim_blanks in
    let text = c.deref.result.now in
    let line = c.first_line.result.0.now in
    let after = c.first_line.result.1.now in
    let room = room-kept c.args.plain c.args.limit c.args.text.now.items text line after c.loop-start.start c.loop-start.end c.loop-start.number c.loop-start.tally (up read) c.first_line.ensures.lines c.deref-in-loop-start.result.now c.in-Ok.more (length text - length after)
    (omega (arith, c.loop-start-test.true, c.len.ensures, ap length c.deref.ensures.value)) c.first_line.ensures.follows c.first_line.ensures.shorter c.first_line.ensures.parts c.first_line.ensures.one_line c.first_line.ensures.cut (is_kept at) (faultless at) refl in
    record { inside = omega (arith, room, ap length c.deref.ensures.value) }

pub loop-start-preserved : goal.loop-start-preserved
loop-start-preserved c =
    let at = (goal.at.loop-start-preserved c).After-deref-in-loop-start in
    let read = (goal.at.loop-start-preserved c).After-trim_blanks in
    let text = c.deref.result.now in
    let line = c.first_line.result.0.now in
    let after = c.first_line.result.1.now in
    let kept = c.deref-in-loop-start.result.now in
    let next = c.len-in-loop-start.result - length after in
    let ends : c.loop-start.end + c.len-end.result ≡ c.loop-start.end + length kept = omega (arith, c.len-end.ensures, ap length c.deref-in-loop-start.ensures.value) in
    let here : next ≡ length text - length after = omega (arith, c.len-in-loop-start.ensures, ap length c.deref.ensures.value) in
    let start_in : c.loop-start.start < length text = omega (arith, c.loop-start-test.true, c.len.ensures, ap length c.deref.ensures.value) in
    let room = room-kept c.args.plain c.args.limit c.args.text.now.items text line after c.loop-start.start c.loop-start.end c.loop-start.number c.loop-start.tally (up read) c.first_line.ensures.lines kept c.in-Ok.more next start_in c.first_line.ensures.follows c.first_line.ensures.shorter c.first_line.ensures.parts c.first_line.ensures.one_line c.first_line.ensures.cut (is_kept at) (faultless at) here in
    subst (λ e. IsKeptUpTo c.args.plain c.args.limit c.args.text.now.items c.overwrite.new.text.items next e (c.loop-start.number + 1) c.in_ok-tally-in-Ok.tally) (sym ends)
    (IsKeptUpTo-more c.args.plain c.args.limit c.args.text.now.items text line after c.loop-start.start c.loop-start.end c.loop-start.number c.loop-start.tally (up read) c.first_line.ensures.lines kept c.in-Ok.more next start_in c.first_line.ensures.follows c.first_line.ensures.shorter c.first_line.ensures.parts c.first_line.ensures.one_line c.first_line.ensures.cut (is_kept at) (faultless at) here
    c.overwrite.new.text.items c.in_ok-tally-in-Ok.tally
    (c.overwrite.ensures.front ∙ ap (λ t. take c.loop-start.end t ++ kept) (sym c.deref.ensures.value))
    (c.overwrite.ensures.rest next room ∙ ap (drop next) (sym c.deref.ensures.value))
    (c.overwrite.ensures.len ∙ ap length (sym c.deref.ensures.value))
    (IfSome-is _ c.with.result c.in_ok-tally-in-Ok.tally c.in_ok-tally-in-Ok.ensures.ok_part c.with.ensures.rules) (IfSome-is _ c.with.result c.in_ok-tally-in-Ok.tally c.in_ok-tally-in-Ok.ensures.ok_part c.with.ensures.bytes))
