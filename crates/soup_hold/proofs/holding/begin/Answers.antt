use Rattle.std.proofs.Common.{◌∙◌, ap}
use Rattle.world_core.specs.Running.{WorldFields}
use Rattle.soup_hold.proofs.Whole.{begins_anew, begins_held}
use Rattle.soup_hold.proofs.holding.begin.Goals as goal
use Rattle.soup_hold.proofs.holding.begin.Goals.{in-Some, in-None+in_ok-world-in-None}

pub returns-clause-begun : goal.returns-clause-begun
returns-clause-begun g c =
    let setup = c.args.setup.now in
    let old = g.D.Desk.state c.args.desk.now in
    let new = g.D.Desk.state c.attach.new.desk in
    let attaches = c.in_ok-shelf.ensures.attached in
    elim c.match-held.branch [
      | in-Some w ↦
          begins_held setup old new c.in_ok-shelf.shelf c.in_ok-shelf.held w.in-Some.world c.match-held.world.world attaches w.in-Some.is
          (ap (λ (x : WorldFields). x.world) w.world-is)
      | in-None+in_ok-world-in-None w ↦
          begins_anew setup old new c.in_ok-shelf.shelf c.in_ok-shelf.held c.match-held.world.world attaches w.in-None.is
          (ap (λ (x : WorldFields). x.world) w.world-is ∙ w.in_ok-world-in-None.ensures)
    ]
