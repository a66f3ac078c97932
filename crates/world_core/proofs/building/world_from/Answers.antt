use Rattle.std.proofs.Common.{◌≡◌, ◌∙◌, Err, Ok, ap, subst, sym}
use Rattle.std.specs.Prelude.{IfOk}
use Rattle.tierra_model.specs.Sound.{IsSound}
use Rattle.world_core.specs.Running.{WorldFields}
use Rattle.world_core.proofs.building.world_from.Goals as goal

pub joined-running-requires : goal.joined-running-requires
joined-running-requires c = c.in_ok-parts.ensures

pub finish-requires : goal.finish-requires
finish-requires c = subst IsSound (sym c.joined-running.ensures) c.requires

pub returns : goal.returns
returns c =
    elim c.finish.result as (λ r. IfOk r (λ w. w ≡ c.joined-running.result) → IfOk r (λ w. w.world ≡ c.args.draft)) [
      | Ok w ↦ (λ is. ap (λ (f : WorldFields). f.world) is ∙ c.joined-running.ensures)
      | Err e ↦ (λ h. h)
    ] c.finish.ensures
