use Rattle.std.proofs.Common.{◌∙◌, ap, length}
use Rattle.tierra_model.proofs.DisturbanceCounts.{length-reaper}
use Rattle.world_core.specs.Running.{WorldFields}
use Rattle.world_core.proofs.world.World.living.Goals as goal

pub returns : goal.returns
returns c =
    c.reaper_len.ensures ∙ ap (λ (h : WorldFields). length h.world.reaper) c.deref.ensures ∙ length-reaper c.self.inside.running.value.world c.self.invariant
    ∙ ap (λ (h : WorldFields). length h.world.living) c.self.view_is
