use Rattle.std.proofs.Common.{◌≡◌, ◌∙◌, ◌<◌, ap, subst, sym, ℕ}
use Rattle.tierra_model.specs.declared.events.Event.TheVariants as event
use Rattle.tierra_model.specs.Counting.{times_in}
use Rattle.tierra_model.specs.Events.{apply_event}
use Rattle.tierra_model.specs.World.{front}
use Rattle.world_core.specs.Running.{IsRunning, WorldFields}
use Rattle.world_core.specs.contracts.running.Running.{the_view}
use Rattle.world_core.proofs.Within.{front_queued}
use Rattle.world_core.proofs.EventWorlds.{after-good, with_lists}
use Rattle.world_core.proofs.running.Running.good.Goals as goal

pub good-requires : goal.good-requires
good-requires c =
    let r : IsRunning (the_view c.self.inside).world = subst (λ (h : WorldFields). IsRunning h.world) (sym c.self.view_is) c.requires in
    subst (λ (k : ℕ). 0 < times_in c.self.inside.population.reaper k) (sym c.front_id-id.ensures)
    (subst (λ (h : WorldFields). 0 < times_in c.self.inside.population.reaper (front h.world).id) c.self.view_is (front_queued _ r))

pub returns-clause-world : goal.returns-clause-world
returns-clause-world c =
    (λ i. with_lists (the_view c.self.inside).world (c.good.ensures.living i) (c.good.ensures.slicer i) (c.good.ensures.reaper i))
    ∙ sym (after-good (the_view c.self.inside).world c.front_id-id.result
    (c.front_id-id.ensures ∙ sym (ap (λ (h : WorldFields). (front h.world).id) c.self.view_is)))
    ∙ ap (λ (h : WorldFields). apply_event h.world event.Good) c.self.view_is
