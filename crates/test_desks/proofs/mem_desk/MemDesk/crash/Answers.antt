use Rattle.test_desks.specs.MemDesk.{now}
use Rattle.test_desks.proofs.NextSteps.{crash_image_left}
use Rattle.test_desks.proofs.mem_desk.MemDesk.crash.Goals as goal

pub returns-clause-leaves : goal.returns-clause-leaves
returns-clause-leaves c = rw c.in_ok-image_left.ensures.image (crash_image_left c.args.pick (now c.args.self.now) c.in_ok-image_left.ensures.sound)
