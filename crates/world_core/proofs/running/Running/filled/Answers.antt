use Rattle.std.proofs.Common.{◌∙◌, ap}
use Rattle.std.specs.Prelude.{not}
use Rattle.tierra_model.specs.FreeList.{is_in_some}
use Rattle.tierra_model.specs.Room.{filled, is_owned}
use Rattle.block_alloc.proofs.Owned.{runs_of-tell}
use Rattle.world_core.specs.Running.{WorldFields}
use Rattle.world_core.proofs.running.Running.filled.Goals as goal

pub returns : goal.returns
returns c =
    let t = c.self.inside.settings in
    let living = c.self.inside.population.living in
    c.filled.ensures
    ∙ (λ i. filled (c.self.invariant.size i) (λ p. not (is_in_some (c.self.invariant.free i) p)))
    ∙ (runs_of-tell t.soup_size (λ p. is_owned living p)).filled
    ∙ ap (λ (h : WorldFields). filled h.world.settings.soup_size (λ p. is_owned h.world.living p)) c.self.view_is
