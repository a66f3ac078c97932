use Rattle.std.proofs.Common.{◌≡◌, ◌==◌, ◌∙◌, Some, None, ap, subst, sym}
use Rattle.std.specs.Prelude.{find}
use Rattle.world_core.specs.Living.{LivingFields}
use Rattle.world_state.proofs.BirthNumbers.{found-at, none-found}
use Rattle.world_core.proofs.living.Living.get.Goals as goal

pub returns-in_err-place : goal.returns-in_err-place
returns-in_err-place c =
    rw c.from_residual.ensures
    (sym (subst (λ (l : LivingFields). find (λ x. x.id == c.args.id) l.creatures ≡ None) c.self.view_is
    (none-found c.args.id c.self.inside.creatures.items c.in_err-place.ensures.none)))

pub returns : goal.returns
returns c =
    subst (λ (l : LivingFields). Some c.index.result.now ≡ find (λ x. x.id == c.args.id) l.creatures) c.self.view_is
    (ap Some c.index.ensures
    ∙ sym (found-at 1 c.args.id c.self.inside.creatures.items c.in_ok-place.place c.index.result.now c.self.invariant c.in_ok-place.ensures.some.1
    (c.in_ok-place.ensures.some.0 c.index.result.now)))
