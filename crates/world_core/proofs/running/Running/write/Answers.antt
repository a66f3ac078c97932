use Rattle.std.proofs.Common.{◌∙◌, ℕ, List, ap, sym}
use Rattle.tierra_model.specs.declared.events.Event.TheVariants as event
use Rattle.tierra_model.specs.Events.{apply_event}
use Rattle.tierra_model.specs.World.{World}
use Rattle.world_core.specs.Running.{WorldFields}
use Rattle.world_core.specs.contracts.running.Running.{the_view}
use Rattle.world_core.proofs.EventWorlds.{after-write}
use Rattle.world_core.proofs.running.Running.write.Goals as goal

pub returns-clause-world : goal.returns-clause-world
returns-clause-world c =
    ap (λ (cells : List ℕ). let w : World = record ((the_view c.self.inside).world) { soup = cells } in w) c.set.ensures.cells
    ∙ sym (after-write (the_view c.self.inside).world c.args.at c.args.value)
    ∙ ap (λ (h : WorldFields). apply_event h.world (event.Write c.args.at c.args.value)) c.self.view_is
