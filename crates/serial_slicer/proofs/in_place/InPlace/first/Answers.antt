use Rattle.std.proofs.Common.{sym, ◌∙◌, ap, subst}
use Rattle.tierra_model.specs.declared.creatures.Creature.{Creature}
use Rattle.tierra_model.specs.Sound.{IsSound}
use Rattle.tierra_model.specs.World.{World, first_of}
use Rattle.world_core.proofs.Within.{front_is, running-sound}
use Rattle.serial_slicer.proofs.in_place.InPlace.first.Goals as goal

pub front-requires : goal.front-requires
front-requires c = running-sound c.self.inside.sole.world (subst IsSound (sym c.self.view_is) c.requires)

pub returns : goal.returns
returns c =
    let w : World = c.self.inside.sole.world in
    ap (λ (x : Creature). x.id) c.front.ensures ∙ front_is w (running-sound w (subst IsSound (sym c.self.view_is) c.requires))
    ∙ ap (λ (v : World). first_of v.slicer) c.self.view_is
