use Rattle.std.proofs.Common.{◌<◌, List, arith, subst, sym}
use Rattle.tierra_model.specs.declared.limits.TheConstants.{MOST_QUANTA}
use Rattle.tierra_model.specs.declared.creatures.Creature.{Creature}
use Rattle.tierra_model.specs.declared.events.Event.{Event}
use Rattle.tierra_model.specs.Replay.{EventsFit}
use Rattle.world_core.proofs.NothingHappens.{nothing-fits}
use Rattle.action_tests.proofs.dumps.turn.Goals as goal

pub prepare-requires : goal.prepare-requires
prepare-requires c =
    let w = c.args.world.now.world in
    let early : w.quanta < MOST_QUANTA = omega arith in
    let none = sym c.new.ensures.items in
    let same = sym c.front.ensures in
    subst (λ (r : List Event × Creature). EventsFit r.0 r.1 w) (λ j. (none j, same j)) (nothing-fits w c.settings-sound.ensures.sound early)
