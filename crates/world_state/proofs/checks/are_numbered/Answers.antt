use Rattle.std.proofs.Common.{get_or}
use Rattle.world_state.specs.Checks.{number_step, passes}
use Rattle.world_state.proofs.Passing.{no_creature, number-high, number-low, number-on, passes-all, passes-not, passes-on}
use Rattle.world_state.proofs.checks.are_numbered.Goals as goal
use Rattle.world_state.proofs.checks.are_numbered.Goals.{then-creature-low-via-then-creature-low}
use Rattle.world_state.proofs.checks.are_numbered.Goals.{then-creature-low-via-else-creature-low+then-creature-next_birth}

pub returns-then-creature-low : goal.returns-then-creature-low
returns-then-creature-low c =
    let step = number_step c.args.next_birth in
    elim c.then-creature-low.branch [
      | then-creature-low-via-then-creature-low w ↦
          passes-not step c.loop-creature.low c.args.living.now c.loop-creature.creature-index no_creature (passes step 1 c.args.living.now)
          c.loop-creature-test.true (number-low c.args.next_birth c.loop-creature.low (get_or c.args.living.now c.loop-creature.creature-index no_creature)
          w.if-creature-low.true) c.loop-creature.invariant
      | then-creature-low-via-else-creature-low+then-creature-next_birth w ↦
          passes-not step c.loop-creature.low c.args.living.now c.loop-creature.creature-index no_creature (passes step 1 c.args.living.now)
          c.loop-creature-test.true (number-high c.args.next_birth c.loop-creature.low (get_or c.args.living.now c.loop-creature.creature-index no_creature)
          w.if-creature-next_birth.true) c.loop-creature.invariant
    ]

pub loop-creature-preserved : goal.loop-creature-preserved
loop-creature-preserved c =
    passes-on (number_step c.args.next_birth) c.loop-creature.low _ c.args.living.now c.loop-creature.creature-index no_creature _
    c.loop-creature-test.true (number-on c.args.next_birth c.loop-creature.low (get_or c.args.living.now c.loop-creature.creature-index no_creature)
    c.if-creature-low.false c.if-creature-next_birth.false) c.loop-creature.invariant

pub returns : goal.returns
returns c =
    passes-all (number_step c.args.next_birth) c.loop-creature.low c.args.living.now c.loop-creature.creature-index _
    c.loop-creature-test.false c.loop-creature.invariant
