use Rattle.std.proofs.Common.{◌≡◌, Ok, sym, ◌∙◌}
use Rattle.rule_lookup.specs.declared.decision.DecideFault.TheVariants.{OutOfMemory}
use Rattle.rule_lookup.specs.Decisions.{decision_of}
use Rattle.rules_tools.specs.Reviews.{profile}
use Rattle.script_tool.proofs.DecideLemmas.{fault-OutOfMemory}
use Rattle.script_tool.proofs.simulation.decide_by.Goals as goal

pub unreachable-requires : goal.unreachable-requires
unreachable-requires c =
    let text = c.requires.0 in
    let decided = c.decides.ensures profile c.args.file.now text c.args.peer.now c.requires.1.accepted c.requires.1.compiled in
    let no_memory : c.in-Err-Find.field-0 ≡ OutOfMemory = fault-OutOfMemory _ _ c.in-Err-Find.field-0 decided c.in-Err-Find.ensures.refused in
    cc

pub unreachable-requires-in-Err-Code : goal.unreachable-requires-in-Err-Code
unreachable-requires-in-Err-Code c =
    let text = c.requires.0 in
    let decided = c.decides.ensures profile c.args.file.now text c.args.peer.now c.requires.1.accepted c.requires.1.compiled in
    let no_memory : c.in-Err-Code.field-0 ≡ OutOfMemory = fault-OutOfMemory _ _ c.in-Err-Code.field-0 decided c.in-Err-Code.ensures.refused in
    cc

pub returns-in-Ok : goal.returns-in-Ok
returns-in-Ok c = λ text file.
    let decided = c.decides.ensures profile c.args.file.now text c.args.peer.now file.accepted file.compiled in
    let same : Ok c.in-Ok.decision ≡ Ok (decision_of text c.args.peer.now) = sym c.in-Ok.ensures.decided ∙ decided in
    cc
