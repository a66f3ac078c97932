use Rattle.std.proofs.Common.{◌≡◌, ◌∙◌, ◌<◌, ap, subst, sym}
use Rattle.tierra_model.specs.Counting.{times_in}
use Rattle.tierra_model.specs.declared.creatures.Creature.{Creature}
use Rattle.std.proofs.Common.{List}
use Rattle.tierra_model.specs.Living.{ids_of, one_of}
use Rattle.reaper_queue.specs.Reaper.{ids_of as entry_ids}
use Rattle.world_core.specs.Population.{PopulationFields, entries_of}
use Rattle.world_core.proofs.Entries.{entries-put}
use Rattle.world_core.proofs.population.Population.put.Goals as goal

pub invariant_of-self : goal.invariant_of-self
invariant_of-self c =
    let x = c.args.creature.now in
    let ids = entry_ids c.self.inside.reaper.entries in
    let here : 0 < times_in (ids_of c.self.inside.living.creatures) x.id
    = subst (λ (p : PopulationFields). 0 < times_in (ids_of p.living) x.id) (sym c.self.view_is) c.requires.here in
    let same : (one_of c.self.inside.living.creatures x.id).errors ≡ x.errors
    = subst (λ (p : PopulationFields). (one_of p.living x.id).errors ≡ x.errors) (sym c.self.view_is) c.requires.errors in
    c.self.invariant ∙ sym (entries-put x c.self.inside.living.creatures ids here same)
    ∙ ap (λ (l : List Creature). entries_of l ids) (sym c.put.ensures.creatures)
