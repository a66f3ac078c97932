use Rattle.std.proofs.Common.{◌≡◌, ◌∙◌, ◌+◌, ◌*◌, ◌/◌, ◌<◌, ◌≤◌, ℕ, false, true, ap, arith, inl, inr}
use Rattle.std.proofs.lemmas.Bool.Decides.{leb_tells}
use Rattle.std.specs.Prelude.{slice_index_or}
use Rattle.world_core.specs.Running.{WorldFields, can_be_set}
use Rattle.soup_cells.specs.Soup.{is_ready}
use Rattle.soup_cells.specs.declared.page.TheConstants.{PAGE}
use Rattle.serial_slicer.proofs.sole.make_ready.Goals as goal

-- the cells of a page are ready together
ready_together : (h : WorldFields) (page p : ℕ) → page * PAGE ≤ p → p < (page + 1) * PAGE → can_be_set h (page * PAGE) ≡ true → can_be_set h p ≡ true
unfolding is_ready
ready_together h page p from below here =
    let same : p / PAGE ≡ page * PAGE / PAGE = omega arith in
    ap (λ (k : ℕ). slice_index_or h.own k false) same ∙ here

pub loop-page-preserved : goal.loop-page-preserved
loop-page-preserved c = record {
  world = c.in_ok-ready.ensures.world ∙ c.loop-page.invariant.world;
  ready = λ p below. elim (leb_tells (c.loop-page.page * PAGE) p) [
    | inl from ↦ ready_together c.ready.new.self c.loop-page.page p from.1 below c.in_ok-ready.ensures.ok
    | inr before ↦ c.in_ok-ready.ensures.kept p (c.loop-page.invariant.ready p before.1)
  ];
}
