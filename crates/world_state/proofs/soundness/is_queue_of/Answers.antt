use Rattle.std.proofs.Common.{◌∙◌, subst, sym}
use Rattle.tierra_model.specs.Living.{ids_of}
use Rattle.tierra_model.specs.Sound.{Ordered}
use Rattle.world_state.proofs.Joined.{ordered-lower}
use Rattle.world_state.proofs.soundness.is_queue_of.Goals as goal

pub are_same-requires : goal.are_same-requires
are_same-requires c =
    subst (Ordered 0) (sym (c.deref.ensures.value ∙ c.in_ok-ids.ensures)) (ordered-lower (ids_of c.args.living.now) c.requires)
