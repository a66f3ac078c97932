use Rattle.std.proofs.Common.{◌≡◌, Some, subst}
use Rattle.std.specs.Prelude.{◌↔◌, IsTrue}
use Rattle.tierra_model.specs.declared.events.Event.TheVariants as event
use Rattle.tierra_model.specs.Events.{apply_event}
use Rattle.tierra_model.specs.Room.{is_owned, room_for}
use Rattle.serial_slicer.specs.Turns.{SoleFields}
use Rattle.serial_slicer.proofs.sole.Sole.room_again.Goals as goal

pub returns : goal.returns
returns c =
    subst (λ (s : SoleFields). IsTrue c.room_again.result
    ↔ (room_for s.world.settings (λ p. is_owned (apply_event s.world event.GiveUp).living p) c.args.block.size ≡ Some c.args.block.at)) c.self.view_is
    c.room_again.ensures
