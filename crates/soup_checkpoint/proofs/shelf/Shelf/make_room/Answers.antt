use Rattle.std.proofs.Common.{◌∙◌, Some, ap, subst, sym}
use Rattle.world_state.specs.Restoring.{IsStateOf}
use Rattle.soup_checkpoint.specs.Frames.{spelling}
use Rattle.soup_checkpoint.specs.Shelf.{ShelfState}
use Rattle.soup_checkpoint.proofs.shelf.Shelf.make_room.Goals as goal

pub returns-clause-room : goal.returns-clause-room
returns-clause-room c = record {
  text = ap Some (c.in_ok-new.ensures ∙ c.in_ok-frame.ensures ∙ ap spelling (c.deref.ensures.value ∙ c.state.view_is));
  short = c.requires.short;
  sound = subst (λ (s : ShelfState). IsStateOf s.owner.settings c.args.state.now) (sym c.self.view_is) c.requires.sound;
}
