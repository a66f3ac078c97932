use Rattle.std.proofs.Common.{drop}
use Rattle.std.specs.Prelude.{◌||◌}
use Rattle.std.specs.List.{list_any}
use Rattle.tierra_model.specs.Reads.{is_noted, writes}
use Rattle.quantum_run.specs.Marks.{KnownAre}
use Rattle.quantum_run.proofs.cells.forget.Given as goal

abbrev pub invariant-loop-at : goal.invariant-loop-at
invariant-loop-at l = KnownAre (λ p. is_noted (drop l.at-index l.cells) p || list_any (writes p) l.events) l.marks.items

abbrev pub invariant-loop-event : goal.invariant-loop-event
invariant-loop-event l = KnownAre (λ p. list_any (writes p) (drop l.event-index l.events)) l.marks.items
