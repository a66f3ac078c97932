use Rattle.std.proofs.Common.{◌∙◌, ap}
use Rattle.std.specs.Arc.{arc_value}
use Rattle.tierra_model.specs.Findings.{finding_of}
use Rattle.quantum_run.proofs.Finishing.{finding-is, finding-kept, free-short}
use Rattle.quantum_run.proofs.workspace.Workspace.complete.Goals as goal

pub into_finding-requires-clause-free : goal.into_finding-requires-clause-free
into_finding-requires-clause-free g c =
    let parts = c.into_parts-sheet in
    free-short c.take_lists-lists.new.self (arc_value parts.result.1) parts.ensures.sound parts.ensures.free

pub into_finding-requires-clause-kept : goal.into_finding-requires-clause-kept
into_finding-requires-clause-kept g c =
    let parts = c.into_parts-sheet in
    finding-kept c.take_lists-lists.new.self _ _ _ _ _ c.in_ok-outcome.outcome parts.ensures.sound c.in_ok-outcome.ensures.outcome
    parts.ensures.settings c.quantum-quantum.ensures parts.ensures.before parts.ensures.free parts.ensures.yard

pub returns-clause-scene : goal.returns-clause-scene
returns-clause-scene g c =
    let parts = c.into_parts-sheet in
    c.into_finding.ensures
    ∙ finding-is c.take_lists-lists.new.self _ _ _ _ _ c.in_ok-outcome.outcome c.in_ok-outcome.ensures.outcome
    parts.ensures.settings c.quantum-quantum.ensures parts.ensures.before parts.ensures.free parts.ensures.yard
    ∙ ap finding_of c.take_lists-lists.ensures
