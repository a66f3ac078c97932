use Rattle.std.proofs.Common.{◌≡◌, ◌∙◌, ◌<◌, List, ℕ, ap, length, refl, subst, sym}
use Rattle.std.specs.Prelude.{All, IsTrue}
use Rattle.std.proofs.lemmas.List.{length-map}
use Rattle.tierra_model.specs.Sound.{count_limit}
use Rattle.tierra_model.specs.World.{World}
use Rattle.world_state.specs.Checks.{are_found, are_living, are_saved}
use Rattle.world_state.specs.contracts.draft.Draft.{the_view}
use Rattle.world_state.specs.Reading.{genotype_of, genotypes_of}
use Rattle.world_state.specs.Soundness.{HasParts}
use Rattle.world_state.proofs.Joined.{found-decide, living-decide, saved-decide}
use Rattle.world_state.proofs.draft.Draft.has_parts.Goals as goal

pub returns-then-not-are_cells : goal.returns-then-not-are_cells
returns-then-not-are_cells c = (
  λ e. absurd cc,
  λ h.
      let parts : HasParts (the_view c.self.inside) = subst HasParts (sym c.self.view_is) h in
      c.if-not-are_cells.ensures.1
      (subst (λ (xs : List ℕ). (length xs ≡ c.self.inside.settings.soup_size) × All (λ v. v < 32) xs) (sym c.deref.ensures.value) (parts.cells, parts.codes)),
)

pub returns-then-not-are_living : goal.returns-then-not-are_living
returns-then-not-are_living c =
    let d = c.self.inside in
    let count = c.len-count.ensures ∙ d.stored.ok.0 ∙ sym (length-map d.stored.items genotype_of) in
    let test = c.if-not-are_living.ensures
    ∙ (λ i. are_living d.settings.soup_size (count i) d.next_birth (c.limit_of-limit.ensures i) (c.deref-2.ensures.value i)) in (
      λ e. absurd cc,
      λ h.
          let parts : HasParts (the_view d) = subst HasParts (sym c.self.view_is) h in
          test ∙ (living-decide d.settings.soup_size (length (genotypes_of d.stored.items)) d.next_birth (count_limit d.quanta) d.living.items).1 parts.living,
    )

pub returns-then-not-are_found : goal.returns-then-not-are_found
returns-then-not-are_found c =
    let d = c.self.inside in
    let test = c.if-not-are_found.ensures ∙ (λ i. are_found (c.limit_of-limit.ensures i) (c.deref-3.ensures.value i)) in (
      λ e. absurd cc,
      λ h.
          let parts : HasParts (the_view d) = subst HasParts (sym c.self.view_is) h in
          test ∙ (found-decide (count_limit d.quanta) d.stored.items).1 parts.genotypes,
    )

pub returns : goal.returns
returns c =
    let d = c.self.inside in
    let count = c.len-count.ensures ∙ d.stored.ok.0 ∙ sym (length-map d.stored.items genotype_of) in
    let cells = subst (λ (xs : List ℕ). (length xs ≡ d.settings.soup_size) × All (λ v. v < 32) xs) c.deref.ensures.value (c.if-not-are_cells.ensures.0 refl) in
    let living = c.if-not-are_living.ensures
    ∙ (λ i. are_living d.settings.soup_size (count i) d.next_birth (c.limit_of-limit.ensures i) (c.deref-2.ensures.value i)) in
    let found = c.if-not-are_found.ensures ∙ (λ i. are_found (c.limit_of-limit.ensures i) (c.deref-3.ensures.value i)) in
    let saved = c.are_saved.ensures ∙ ap (are_saved d.quanta) c.deref-4.ensures.value in
    subst (λ (w : World). (IsTrue c.are_saved.result → HasParts w) × (HasParts w → IsTrue c.are_saved.result)) c.self.view_is (
      λ e. record {
        cells = cells.0;
        codes = cells.1;
        living = (living-decide d.settings.soup_size (length (genotypes_of d.stored.items)) d.next_birth (count_limit d.quanta) d.living.items).0 (sym living);
        genotypes = (found-decide (count_limit d.quanta) d.stored.items).0 (sym found);
        saved = (saved-decide d.quanta d.saved.items).0 (sym saved ∙ e);
      },
      λ h. saved ∙ (saved-decide d.quanta d.saved.items).1 h.saved,
    )
