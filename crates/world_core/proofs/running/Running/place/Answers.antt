use Rattle.std.proofs.Common.{◌≡◌, ◌∙◌, ◌<◌, ℕ, ap, subst, sym}
use Rattle.std.specs.Prelude.{slice_index}
use Rattle.tierra_model.specs.Counting.{times_in}
use Rattle.tierra_model.specs.Living.{ids_of, one_of}
use Rattle.world_core.specs.Running.{WorldFields}
use Rattle.std.specs.Prelude.{option_map, slice_get}
use Rattle.std.proofs.lemmas.Option.{get_or_from_slice_get, slice_get_within}
use Rattle.tierra_model.proofs.Yards.{times_in-index}
use Rattle.world_core.proofs.Within.{found_one}
use Rattle.world_core.proofs.running.Running.place.Goals as goal

pub returns : goal.returns
returns c =
    let living = c.self.inside.population.living in
    let slicer = c.self.inside.population.slicer in
    let id = c.in_ok-id.id in
    let same : (k : ℕ) → times_in slicer k ≡ times_in (ids_of living) k
    = subst (λ (h : WorldFields). (k : ℕ) → times_in h.world.slicer k ≡ times_in (ids_of h.world.living) k) (sym c.self.view_is) c.requires in
    let within = slice_get_within slicer c.args.k id (sym c.in_ok-id.ensures) in
    let is : slice_index slicer c.args.k ≡ id = get_or_from_slice_get slicer c.args.k id 0 (sym c.in_ok-id.ensures) in
    let there : 0 < times_in slicer id = subst (λ (k : ℕ). 0 < times_in slicer k) is (times_in-index slicer c.args.k within) in
    c.get.ensures ∙ found_one living id (subst (λ (n : ℕ). 0 < n) (same id) there)
    ∙ ap (option_map (one_of living)) c.in_ok-id.ensures
    ∙ ap (λ (h : WorldFields). option_map (one_of h.world.living) (slice_get h.world.slicer c.args.k)) c.self.view_is
