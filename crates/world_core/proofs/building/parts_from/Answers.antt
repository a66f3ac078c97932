use Rattle.std.proofs.Common.{◌≡◌, ◌∙◌, ◌<◌, ◌≤◌, ◌^◌, List, ap, arith, length, subst, sym, ℕ}
use Rattle.std.specs.Prelude.{All, not}
use Rattle.tierra_model.specs.declared.creatures.Creature.{Creature}
use Rattle.tierra_model.specs.Counting.{times_in}
use Rattle.tierra_model.specs.FreeList.{runs_of}
use Rattle.tierra_model.specs.Living.{ids_of}
use Rattle.tierra_model.specs.Ranges.{IsCode}
use Rattle.tierra_model.specs.Room.{is_owned}
use Rattle.tierra_model.specs.Sound.{IsPlaced, IsSound, Ordered, owners, times_coded}
use Rattle.tierra_model.specs.World.{World}
use Rattle.world_state.specs.declared.fields.StoredGenotype.{StoredGenotype}
use Rattle.world_state.specs.contracts.draft.Draft.{the_view}
use Rattle.world_state.specs.Reading.{genotypes_of}
use Rattle.world_state.proofs.Joined.{codes-written}
use Rattle.world_core.specs.Parts.{ArePartsOf}
use Rattle.world_core.specs.Running.{number_with}
use Rattle.world_core.proofs.building.parts_from.Goals as goal

pub census_from-requires : goal.census_from-requires
census_from-requires c =
    let s : IsSound (the_view c.draft.inside) = subst IsSound (sym c.draft.view_is) c.requires in
    subst (λ (xs : List Creature). length xs < 2 ^ 60) (sym c.as_slice-living.ensures.value)
    (omega (arith, s.living_and_dead, s.next_birth, s.quanta))

pub blocks_from-requires-clause-placed : goal.blocks_from-requires-clause-placed
blocks_from-requires-clause-placed c =
    let s : IsSound (the_view c.draft.inside) = subst IsSound (sym c.draft.view_is) c.requires in
    subst (All (IsPlaced c.draft.inside.settings.soup_size)) (sym c.as_slice-living.ensures.value) s.placed

pub blocks_from-requires-clause-apart : goal.blocks_from-requires-clause-apart
blocks_from-requires-clause-apart c p =
    let s : IsSound (the_view c.draft.inside) = subst IsSound (sym c.draft.view_is) c.requires in
    subst (λ (xs : List Creature). owners xs p ≤ 1) (sym c.as_slice-living.ensures.value) (s.apart p)

pub all_genotypes-requires-clause-codes : goal.all_genotypes-requires-clause-codes
all_genotypes-requires-clause-codes c =
    let s : IsSound (the_view c.draft.inside) = subst IsSound (sym c.draft.view_is) c.requires in
    subst (All (λ (f : StoredGenotype). IsCode f.code)) (sym c.deref.ensures.value) (codes-written c.draft.inside.stored.items s.written)

pub all_genotypes-requires-clause-once : goal.all_genotypes-requires-clause-once
all_genotypes-requires-clause-once c code =
    let s : IsSound (the_view c.draft.inside) = subst IsSound (sym c.draft.view_is) c.requires in
    subst (λ (fs : List StoredGenotype). times_coded (genotypes_of fs) code ≤ 1) (sym c.deref.ensures.value) (s.coded_once code)

pub soup_from-requires-clause-size : goal.soup_from-requires-clause-size
soup_from-requires-clause-size c =
    let s : IsSound (the_view c.draft.inside) = subst IsSound (sym c.draft.view_is) c.requires in
    subst (λ (xs : List ℕ). length xs ≡ c.draft.inside.settings.soup_size) (sym c.deref-2.ensures.value) s.cells

pub soup_from-requires-clause-codes : goal.soup_from-requires-clause-codes
soup_from-requires-clause-codes c =
    let s : IsSound (the_view c.draft.inside) = subst IsSound (sym c.draft.view_is) c.requires in
    subst (All (λ v. v < 32)) (sym c.deref-2.ensures.value) s.codes

pub population_from-requires-clause-ordered : goal.population_from-requires-clause-ordered
population_from-requires-clause-ordered c =
    let s : IsSound (the_view c.draft.inside) = subst IsSound (sym c.draft.view_is) c.requires in
    subst (λ (xs : List Creature). Ordered 1 (ids_of xs)) (sym c.as_slice-living.ensures.value) s.ordered

pub population_from-requires-clause-in_slicer : goal.population_from-requires-clause-in_slicer
population_from-requires-clause-in_slicer c id =
    let s : IsSound (the_view c.draft.inside) = subst IsSound (sym c.draft.view_is) c.requires in
    subst (λ (xs : List ℕ). times_in xs id ≤ 1) (sym c.deref-3.ensures.value) (omega (arith, s.slicer id, s.once id))

pub population_from-requires-clause-in_reaper : goal.population_from-requires-clause-in_reaper
population_from-requires-clause-in_reaper c id =
    let s : IsSound (the_view c.draft.inside) = subst IsSound (sym c.draft.view_is) c.requires in
    subst (λ (xs : List ℕ). times_in xs id ≤ 1) (sym c.deref-4.ensures.value) (omega (arith, s.reaper id, s.once id))

pub population_from-requires-clause-here : goal.population_from-requires-clause-here
population_from-requires-clause-here c id =
    let s : IsSound (the_view c.draft.inside) = subst IsSound (sym c.draft.view_is) c.requires in
    ap (λ (xs : List ℕ). times_in xs id) c.deref-4.ensures.value ∙ s.reaper id
    ∙ ap (λ (xs : List Creature). times_in (ids_of xs) id) (sym c.as_slice-living.ensures.value)

pub returns : goal.returns
returns c =
    let n = c.draft.inside.settings.soup_size in
    let living = c.as_slice-living.ensures.value in
    subst (λ (w : World). ArePartsOf w (record {
      census = c.in_ok-census.census;
      blocks = c.in_ok-blocks.blocks;
      genotypes = c.in_ok-genotypes.genotypes;
      soup = c.in_ok-soup.soup;
      population = c.in_ok-population.population;
    })) c.draft.view_is (record {
      counts = λ g. c.in_ok-census.ensures g ∙ ap (λ (l : List Creature). number_with l g) living;
      size = c.in_ok-blocks.ensures.size;
      free = c.in_ok-blocks.ensures.free ∙ ap (λ (l : List Creature). runs_of n (λ p. not (is_owned l p))) living;
      genotypes = c.in_ok-genotypes.ensures ∙ ap genotypes_of c.deref.ensures.value;
      soup = c.in_ok-soup.ensures ∙ c.deref-2.ensures.value;
      living = c.in_ok-population.ensures.living ∙ living;
      slicer = c.in_ok-population.ensures.slicer ∙ c.deref-3.ensures.value;
      reaper = c.in_ok-population.ensures.reaper ∙ c.deref-4.ensures.value;
    })
