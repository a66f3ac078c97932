use Rattle.std.proofs.Common.{◌∙◌, ap, sym}
use Rattle.tierra_model.specs.World.{first_of}
use Rattle.world_core.specs.Running.{WorldFields}
use Rattle.world_core.proofs.Within.{front_is}
use Rattle.world_core.proofs.running.Running.front_id.Goals as goal

pub returns : goal.returns
returns c = c.first.ensures ∙ ap (λ (h : WorldFields). first_of h.world.slicer) c.self.view_is ∙ sym (front_is c.args.self.now.world c.requires)
