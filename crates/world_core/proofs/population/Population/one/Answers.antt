use Rattle.std.proofs.Common.{◌≡◌, ◌∙◌, ◌<◌, Some, None, refl, subst, sym}
use Rattle.std.specs.Prelude.{IsSome, option_copied}
use Rattle.tierra_model.specs.Counting.{times_in}
use Rattle.tierra_model.specs.Living.{ids_of, one_of}
use Rattle.world_core.specs.Population.{PopulationFields}
use Rattle.world_core.proofs.Within.{found_one}
use Rattle.world_core.proofs.population.Population.one.Goals as goal

pub unwrap-requires : goal.unwrap-requires
unwrap-requires c =
    let living = c.self.inside.living.creatures in
    let here : 0 < times_in (ids_of living) c.args.id
    = subst (λ (p : PopulationFields). 0 < times_in (ids_of p.living) c.args.id) (sym c.self.view_is) c.requires in
    let is : option_copied c.get.result ≡ Some (one_of living c.args.id) = c.get.ensures ∙ found_one living c.args.id here in
    elim c.get.result as (λ o. option_copied o ≡ Some (one_of living c.args.id) → IsSome o) [ None ↦ (λ e. cc) | Some x ↦ (λ e. refl) ] is
