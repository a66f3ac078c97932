use Rattle.std.proofs.Common.{◌∙◌, List, ap, sym}
use Rattle.tierra_model.specs.declared.creatures.Creature.{Creature}
use Rattle.tierra_model.specs.Counting.{times_in}
use Rattle.tierra_model.specs.Living.{ids_of, one_of}
use Rattle.reaper_queue.specs.Reaper.{ids_of as entry_ids}
use Rattle.world_core.specs.Population.{entries_of}
use Rattle.world_core.proofs.Entries.{ids-entries}
use Rattle.world_core.proofs.building.population_from.Goals as goal

pub reaper_from-requires-clause-here : goal.reaper_from-requires-clause-here
reaper_from-requires-clause-here c id = c.requires.here id ∙ ap (λ (l : List Creature). times_in (ids_of l) id) (sym c.in_ok-living.ensures)

-- the reaper queue shows the errors of the living
pub of-requires : goal.of-requires
of-requires c =
    let living = c.in_ok-living.living.creatures in
    let ids = c.args.reaper.now in
    let is = c.in_ok-reaper.ensures in
    is ∙ ap (entries_of living) (sym (ap entry_ids is ∙ ids-entries (λ id. (one_of living id).errors) ids))

pub returns-clause-reaper : goal.returns-clause-reaper
returns-clause-reaper c =
    c.of.ensures.reaper ∙ ap entry_ids c.in_ok-reaper.ensures ∙ ids-entries (λ id. (one_of c.in_ok-living.living.creatures id).errors) c.args.reaper.now
