use Rattle.std.proofs.Common.{◌∙◌, ◌==◌, ℕ, ap, subst, sym}
use Rattle.std.specs.Prelude.{filter, not}
use Rattle.tierra_model.specs.Living.{without}
use Rattle.reaper_queue.specs.Reaper.{ids_of as entry_ids}
use Rattle.world_core.specs.Population.{PopulationFields, entries_of}
use Rattle.world_core.proofs.Entries.{Moved, entries-removed}
use Rattle.world_core.proofs.population.Population.remove.Goals as goal
use Rattle.world_core.proofs.population.Population.remove.Goals.{After-remove-3}

moved : (c : After-remove-3)
    → Moved (without c.args.id c.self.inside.living.creatures)
    (filter (λ x. not (x == c.args.id)) (entry_ids c.self.inside.reaper.entries)) c.remove-3.new.self.entries
moved c =
    subst (Moved _ _) (sym (c.remove-3.ensures.entries ∙ ap (filter (λ (x : ℕ × ℕ). not (x.0 == c.args.id))) c.self.invariant))
    (entries-removed c.args.id c.self.inside.living.creatures (entry_ids c.self.inside.reaper.entries))

pub invariant_of-self : goal.invariant_of-self
invariant_of-self c =
    let m = moved c in
    m.shows ∙ (λ i. entries_of (sym c.remove.ensures.creatures i) (sym m.holds i))

pub returns-clause-reaper : goal.returns-clause-reaper
returns-clause-reaper c = (moved c).holds ∙ ap (λ (p : PopulationFields). filter (λ x. not (x == c.args.id)) p.reaper) c.self.view_is
