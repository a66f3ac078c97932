use Rattle.std.proofs.Common.{◌∙◌, List, ap}
use Rattle.tierra_model.specs.declared.creatures.Creature.{Creature}
use Rattle.tierra_model.specs.Counting.{times_in}
use Rattle.tierra_model.specs.Living.{ids_of}
use Rattle.world_state.proofs.BirthNumbers.{id-at_least}
use Rattle.world_core.proofs.Built.{none-yet}
use Rattle.world_core.proofs.building.living_from.Goals as goal

pub enter-requires-clause-number : goal.enter-requires-clause-number
enter-requires-clause-number c =
    id-at_least 1 c.args.creatures.now c.loop-creature.creature-index _ c.requires c.loop-creature-test.true

pub enter-requires-clause-last : goal.enter-requires-clause-last
enter-requires-clause-last c id le =
    ap (λ (l : List Creature). times_in (ids_of l) id) (c.in_ok-reserve.ensures.creatures ∙ c.loop-creature.invariant)
    ∙ none-yet 1 c.args.creatures.now c.loop-creature.creature-index _ c.requires c.loop-creature-test.true id le
