use Rattle.std.proofs.Common.{◌≡◌, ◌∙◌, ◌<◌, ap, arith, length, remove, subst, sym}
use Rattle.std.proofs.lemmas.Grind.{common_steps}
use Rattle.tierra_model.specs.Living.{ids_of, nobody, without}
use Rattle.tierra_model.specs.Sound.{Ordered}
use Rattle.tierra_model.proofs.BirthOrder.{ordered-filter}
use Rattle.tierra_model.proofs.Owners.{ids_of-without}
use Rattle.world_core.specs.Living.{LivingFields}
use Rattle.world_state.proofs.BirthNumbers.{removed-at}
use Rattle.world_core.proofs.living.Living.remove.Goals as goal
use Rattle.world_core.proofs.living.Living.remove.Goals.{After-remove}

-- what is left are the living without the creature
left : (c : After-remove) → c.remove.new.self.items ≡ without c.args.id c.self.inside.creatures.items
left c =
    let xs = c.self.inside.creatures.items in
    let place = c.in-Some.place in
    let within : place < length xs = c.in-Some.ensures.some.1 in
    let gone : c.remove.new.self.items ≡ remove xs place = grind (arith, common_steps) in
    gone ∙ removed-at 1 c.args.id xs place nobody c.self.invariant within (c.in-Some.ensures.some.0 nobody)

pub invariant_of-self : goal.invariant_of-self
invariant_of-self c =
    rw (left ((goal.at.invariant_of-self c).After-remove))
    (subst (Ordered 1) (sym (ids_of-without c.args.id c.self.inside.creatures.items))
    (ordered-filter 1 c.args.id (ids_of c.self.inside.creatures.items) c.self.invariant))

pub returns-clause-creatures : goal.returns-clause-creatures
returns-clause-creatures c =
    left ((goal.at.returns-clause-creatures c).After-remove) ∙ ap (λ (l : LivingFields). without c.args.id l.creatures) c.self.view_is
