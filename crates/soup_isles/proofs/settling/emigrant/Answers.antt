use Rattle.std.proofs.Common.{arith, subst, sym}
use Rattle.tierra_model.specs.declared.creatures.Creature.{Creature}
use Rattle.tierra_model.specs.declared.setups.Inoculum.{Inoculum}
use Rattle.tierra_model.specs.Ranges.{IsCode}
use Rattle.tierra_model.specs.Sound.{IsPlaced}
use Rattle.tierra_model.proofs.WithinQuantum.{code_of_block}
use Rattle.world_core.proofs.Within.{placed_front, running-sound}
use Rattle.soup_isles.proofs.settling.emigrant.Goals as goal

pub settler-requires-clause-lies : goal.settler-requires-clause-lies
settler-requires-clause-lies c =
    let w = c.args.world.now.world in
    let placed : IsPlaced w.settings.soup_size c.front.result.now = placed_front w c.front.result.now (running-sound w c.requires.sound) c.front.ensures in
    omega (arith, placed.own.2, c.requires.sound.cells)

pub returns-clause-range : goal.returns-clause-range
returns-clause-range c =
    let w = c.args.world.now.world in
    let x : Creature = c.front.result.now in
    let placed : IsPlaced w.settings.soup_size x = placed_front w x (running-sound w c.requires.sound) c.front.ensures in
    subst (λ (s : Inoculum). IsCode s.code) (sym c.in_ok-settler.ensures)
    (code_of_block w.settings.soup_size w.soup x.own placed.own c.requires.sound.cells c.requires.sound.codes).0
