use Rattle.std.proofs.Common.{◌∙◌, ◌==◌, ap, subst, sym}
use Rattle.tierra_model.specs.Living.{one_of}
use Rattle.tierra_model.specs.Queue.{good_move}
use Rattle.reaper_queue.specs.Reaper.{errors_of, ids_of as entry_ids, is_of}
use Rattle.world_core.specs.Population.{PopulationFields, entries_of}
use Rattle.world_core.proofs.Entries.{Moved, entries-good}
use Rattle.world_core.proofs.population.Population.good.Goals as goal
use Rattle.world_core.proofs.population.Population.good.Goals.{After-good}

moved : (c : After-good)
    → Moved c.self.inside.living.creatures
    (good_move (λ x. x == c.args.id) (λ x. (one_of c.self.inside.living.creatures x).errors) (entry_ids c.self.inside.reaper.entries)) c.good.new.self.entries
moved c =
    subst (Moved _ _) (sym (c.good.ensures.entries ∙ ap (good_move (is_of c.args.id) errors_of) c.self.invariant))
    (entries-good c.args.id c.self.inside.living.creatures (entry_ids c.self.inside.reaper.entries))

pub invariant_of-self : goal.invariant_of-self
invariant_of-self c = let m = moved c in m.shows ∙ ap (entries_of c.self.inside.living.creatures) (sym m.holds)

pub returns-clause-reaper : goal.returns-clause-reaper
returns-clause-reaper c =
    (moved c).holds
    ∙ ap (λ (p : PopulationFields). good_move (λ x. x == c.args.id) (λ x. (one_of p.living x).errors) p.reaper) c.self.view_is
