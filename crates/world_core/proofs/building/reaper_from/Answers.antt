use Rattle.std.proofs.Common.{◌∙◌, ◌<◌, List, ℕ, ap, get_or, subst, take}
use Rattle.tierra_model.specs.Counting.{times_in}
use Rattle.tierra_model.specs.Living.{one_of}
use Rattle.reaper_queue.specs.Reaper.{ids_of as entry_ids}
use Rattle.world_core.proofs.Built.{listed-once, none-twice}
use Rattle.world_core.proofs.Entries.{ids-entries}
use Rattle.world_core.proofs.building.reaper_from.Goals as goal

pub errors_of-errors-requires : goal.errors_of-errors-requires
errors_of-errors-requires c =
    let ids = c.args.ids.now in
    let k = c.loop-id.id-index in
    subst (λ (n : ℕ). 0 < n) (c.requires.here (get_or ids k 0)) (listed-once ids k 0 c.loop-id-test.true)

pub enter_with-requires-clause-absent : goal.enter_with-requires-clause-absent
enter_with-requires-clause-absent c =
    let ids = c.args.ids.now in
    let k = c.loop-id.id-index in
    let id = get_or ids k 0 in
    ap (λ (l : List (ℕ × ℕ)). times_in (entry_ids l) id) (c.in_ok-reserve.ensures.entries ∙ c.loop-id.invariant)
    ∙ ap (λ (l : List ℕ). times_in l id) (ids-entries (λ id. (one_of c.args.living.now.creatures id).errors) (take k ids))
    ∙ none-twice ids k 0 c.loop-id-test.true c.requires.once
