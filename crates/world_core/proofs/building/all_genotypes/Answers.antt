use Rattle.std.proofs.Common.{◌≡◌, ◌≤◌, List, None, Some, refl, subst, ℕ}
use Rattle.std.specs.Prelude.{IfNone, IfSome, IsSome}
use Rattle.tierra_model.specs.Sound.{times_coded}
use Rattle.world_state.specs.Reading.{genotypes_of}
use Rattle.world_core.proofs.building.all_genotypes.Goals as goal

pub unwrap-requires : goal.unwrap-requires
unwrap-requires c =
    elim c.in_ok-found.found as (λ o. IfNone o (((code : List ℕ) → times_coded (genotypes_of c.args.stored.now) code ≤ 1) → ⊥) → IsSome o) [
      | None ↦ (λ no. absurd (no c.requires.once))
      | Some g ↦ (λ no. refl)
    ] c.in_ok-found.ensures.none

pub returns : goal.returns
returns c = subst (λ o. IfSome o (λ g. g.genotypes ≡ genotypes_of c.args.stored.now)) c.unwrap.ensures c.in_ok-found.ensures.some
