use Rattle.std.proofs.Common.{◌≡◌, ◌∙◌, ◌≤◌, ◌<◌, List, arith, length, subst, sym}
use Rattle.std.specs.Prelude.{All, IsTrue}
use Rattle.tierra_model.specs.declared.limits.TheConstants.{MOST_SIZE}
use Rattle.tierra_model.specs.World.{World}
use Rattle.world_state.specs.declared.fields.StoredGenotype.{StoredGenotype}
use Rattle.world_state.specs.declared.saving.Saving.{Saving}
use Rattle.world_state.specs.Checks.{passes, size_step}
use Rattle.world_state.specs.contracts.draft.Draft.{the_view}
use Rattle.world_state.specs.Soundness.{HasParts, HasSizes, IsMatched}
use Rattle.world_state.proofs.Joined.{codes-short, saved-known, sizes-are}
use Rattle.world_state.proofs.draft.Draft.has_sizes.Goals as goal

pub have_sizes-requires-clause-few : goal.have_sizes-requires-clause-few
have_sizes-requires-clause-few c =
    let parts : HasParts (the_view c.self.inside) = subst HasParts (sym c.self.view_is) c.requires.parts in
    subst (All (λ (f : StoredGenotype). length f.code ≤ MOST_SIZE)) (sym c.deref.ensures.value) (codes-short c.self.inside.stored.items parts.genotypes.written)

pub have_sizes-requires-clause-known : goal.have_sizes-requires-clause-known
have_sizes-requires-clause-known c =
    let d = c.self.inside in
    let matched : IsMatched (the_view d) = subst IsMatched (sym c.self.view_is) c.requires.matched in
    let one : 1 ≤ d.settings.save_at = omega (arith, d.settings.saving) in
    let known = saved-known d.settings.save_at d.stored.items d.saved.items one matched.saved in
    subst (λ (fs : List StoredGenotype). All (λ (s : Saving). s.genotype < length fs) c.deref-2.result.now) (sym c.deref.ensures.value)
    (subst (All (λ (s : Saving). s.genotype < length d.stored.items)) (sym c.deref-2.ensures.value) known)

pub returns : goal.returns
returns c =
    let d = c.self.inside in
    let parts : HasParts (the_view d) = subst HasParts (sym c.self.view_is) c.requires.parts in
    let is = sizes-are d.stored.items d.saved.items parts.saved.rising in
    let test : c.have_sizes.result ≡ passes (size_step d.stored.items) (0, 0) d.saved.items
    = c.have_sizes.ensures ∙ (λ i. passes (size_step (c.deref.ensures.value i)) (0, 0) (c.deref-2.ensures.value i)) in
    subst (λ (w : World). (IsTrue c.have_sizes.result → HasSizes w) × (HasSizes w → IsTrue c.have_sizes.result)) c.self.view_is (
      λ e. is.0 (sym test ∙ e),
      λ h. test ∙ is.1 h,
    )
