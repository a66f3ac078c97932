use Rattle.std.proofs.Common.{◌∙◌, List, ℕ, ap, get_or}
use Rattle.tierra_model.specs.Counting.{times_in}
use Rattle.world_core.proofs.Built.{none-twice}
use Rattle.world_core.proofs.building.slicer_from.Goals as goal

pub enter-requires-clause-absent : goal.enter-requires-clause-absent
enter-requires-clause-absent c =
    let ids = c.args.ids.now in
    let k = c.loop-id.id-index in
    ap (λ (l : List ℕ). times_in l (get_or ids k 0)) (c.in_ok-reserve.ensures.ids ∙ c.loop-id.invariant)
    ∙ none-twice ids k 0 c.loop-id-test.true c.requires
