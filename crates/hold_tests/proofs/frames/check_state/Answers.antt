use Rattle.hold_tests.proofs.frames.check_state.Goals as goal

pub returns : goal.returns
returns c = (c.in-Some._world.world, rw c.in-Some.is at c.in_ok-_world.ensures.some)
