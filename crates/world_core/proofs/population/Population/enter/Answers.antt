use Rattle.std.proofs.Common.{◌≡◌, ◌∙◌, ℕ, List, [], ◌∷◌, ◌++◌, ap, subst, sym, arith}
use Rattle.tierra_model.specs.Counting.{times_in}
use Rattle.tierra_model.specs.Living.{ids_of}
use Rattle.reaper_queue.specs.Reaper.{ids_of as entry_ids}
use Rattle.world_core.specs.Population.{PopulationFields, entries_of}
use Rattle.world_core.proofs.Entries.{entries-entered}
use Rattle.world_core.proofs.population.Population.enter.Goals as goal

pub invariant_of-self : goal.invariant_of-self
invariant_of-self c =
    let nb = c.args.newborn in
    let xs = c.self.inside.living.creatures in
    let ids = entry_ids c.self.inside.reaper.entries in
    let new : times_in (ids_of xs) nb.id ≡ 0
    = subst (λ (p : PopulationFields). times_in (ids_of p.living) nb.id ≡ 0) (sym c.self.view_is) (c.requires.last nb.id (omega arith)) in
    let absent : times_in ids nb.id ≡ 0 = subst (λ (p : PopulationFields). times_in p.reaper nb.id ≡ 0) (sym c.self.view_is) c.requires.reaper in
    let m = entries-entered nb xs ids c.requires.errors new absent in
    let now : c.enter-3.new.self.entries ≡ entries_of xs ids ++ (nb.id, 0) ∷ []
    = c.enter-3.ensures.entries ∙ ap (λ (l : List (ℕ × ℕ)). l ++ (nb.id, 0) ∷ []) c.self.invariant in
    now ∙ m.shows
    ∙ (λ i. entries_of (sym c.enter.ensures.creatures i) (sym m.holds i))
    ∙ ap (λ (l : List (ℕ × ℕ)). entries_of c.enter.new.self.creatures (entry_ids l)) (sym now)
