use Rattle.std.proofs.Common.{◌≡◌, ◌∙◌, ◌<◌, arith, length, remove, sym, ap, ℕ}
use Rattle.std.proofs.lemmas.List.Quantifiers.{position-Some}
use Rattle.std.proofs.lemmas.Grind.{common_steps}
use Rattle.std.specs.Prelude.{filter, not, ◌==◌}
use Rattle.slicer_queue.specs.Slicer.{SlicerFields}
use Rattle.slicer_queue.proofs.Once.{remove-filter, once_filter}
use Rattle.slicer_queue.proofs.Found.{found}
use Rattle.slicer_queue.proofs.slicer.Slicer.remove.Goals as goal
use Rattle.slicer_queue.proofs.slicer.Slicer.remove.Goals.{After-remove}

-- what is left is the queue without the creature
left : (c : After-remove) → c.remove.new.self.items ≡ filter (λ x. not (x == c.args.id)) c.self.inside.ids.items
left c =
    let ids = c.self.inside.ids.items in
    let there = position-Some (λ (x : ℕ). x == c.args.id) ids c.in-Some.place 0 (sym c.in-Some.ensures) in
    let within : c.in-Some.place < length ids = there.0 in
    let gone : c.remove.new.self.items ≡ remove ids c.in-Some.place = grind (arith, common_steps) in
    gone ∙ remove-filter ids c.in-Some.place c.args.id c.self.invariant (sym c.in-Some.ensures)

pub invariant_of-self : goal.invariant_of-self
invariant_of-self c = rw (left ((goal.at.invariant_of-self c).After-remove)) (once_filter c.self.inside.ids.items c.args.id c.self.invariant)

pub returns-clause-ids : goal.returns-clause-ids
returns-clause-ids c = left ((goal.at.returns-clause-ids c).After-remove) ∙ ap (λ (q : SlicerFields). filter (λ x. not (x == c.args.id)) q.ids) c.self.view_is

pub unreachable-requires : goal.unreachable-requires
unreachable-requires c = found c.self.inside.ids.items c.args.id (rw (ap (λ (q : SlicerFields). q.ids) c.self.view_is) c.requires) (sym c.in-None.ensures)
