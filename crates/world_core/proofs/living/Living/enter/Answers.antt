use Rattle.std.proofs.Common.{◌≡◌, ◌≤◌, ℕ, [], ◌∷◌, subst, sym}
use Rattle.tierra_model.specs.Counting.{times_in}
use Rattle.tierra_model.specs.Living.{ids_of}
use Rattle.tierra_model.specs.Sound.{Ordered}
use Rattle.tierra_model.proofs.BirthOrder.{ordered-push}
use Rattle.tierra_model.proofs.Owners.{ids_of-append}
use Rattle.world_core.specs.Living.{LivingFields}
use Rattle.world_core.proofs.living.Living.enter.Goals as goal

pub invariant_of-self : goal.invariant_of-self
invariant_of-self c =
    let xs = c.self.inside.creatures.items in
    let nb = c.args.newborn in
    let last : (id : ℕ) → nb.id ≤ id → times_in (ids_of xs) id ≡ 0
    = subst (λ (l : LivingFields). (id : ℕ) → nb.id ≤ id → times_in (ids_of l.creatures) id ≡ 0) (sym c.self.view_is) c.requires.last in
    rw c.push_back_reserved.ensures.items
    (subst (Ordered 1) (sym (ids_of-append xs (nb ∷ []))) (ordered-push 1 nb.id (ids_of xs) c.requires.number last c.self.invariant))
