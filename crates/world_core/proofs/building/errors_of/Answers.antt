use Rattle.std.proofs.Common.{◌≡◌, ◌∙◌, Some, None, refl}
use Rattle.std.specs.Prelude.{IsSome, option_copied}
use Rattle.tierra_model.specs.Living.{one_of}
use Rattle.world_core.proofs.Within.{found_one}
use Rattle.world_core.proofs.building.errors_of.Goals as goal

pub unwrap-requires : goal.unwrap-requires
unwrap-requires c =
    let living = c.args.living.now.creatures in
    let is : option_copied c.get.result ≡ Some (one_of living c.args.id) = c.get.ensures ∙ found_one living c.args.id c.requires in
    elim c.get.result as (λ o. option_copied o ≡ Some (one_of living c.args.id) → IsSome o) [ None ↦ (λ e. cc) | Some x ↦ (λ e. refl) ] is
