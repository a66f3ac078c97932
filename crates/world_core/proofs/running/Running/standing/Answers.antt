use Rattle.std.proofs.Common.{◌≡◌, ◌<◌, ℕ, length, subst, sym}
use Rattle.tierra_model.specs.Counting.{times_in}
use Rattle.tierra_model.specs.Living.{ids_of}
use Rattle.world_core.specs.Running.{WorldFields}
use Rattle.world_core.specs.contracts.running.Running.{the_view}
use Rattle.world_core.proofs.Within.{reaped_here}
use Rattle.world_core.proofs.running.Running.standing.Goals as goal

pub at-creature-requires-clause-here : goal.at-creature-requires-clause-here
at-creature-requires-clause-here c =
    reaped_here (the_view c.self.inside).world c.args.place
    (subst (λ (h : WorldFields). (id : ℕ) → times_in h.world.reaper id ≡ times_in (ids_of h.world.living) id) (sym c.self.view_is) c.requires.here)
    (subst (λ (h : WorldFields). c.args.place < length h.world.reaper) (sym c.self.view_is) c.requires.within)
