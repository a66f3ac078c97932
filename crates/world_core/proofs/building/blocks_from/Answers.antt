use Rattle.std.proofs.Common.{◌≤◌, ◌∙◌, List, ℕ, ap, subst, sym}
use Rattle.std.specs.Prelude.{All}
use Rattle.tierra_model.specs.declared.creatures.Block.{Block}
use Rattle.tierra_model.specs.Ranges.{IsBlock}
use Rattle.world_state.specs.Checks.{covers}
use Rattle.world_state.proofs.ApartBlocks.{covers-living}
use Rattle.world_core.proofs.Built.{blocks-lie, left-free, left_by}
use Rattle.world_core.proofs.building.blocks_from.Goals as goal

pub space_without-requires-clause-lie : goal.space_without-requires-clause-lie
space_without-requires-clause-lie c =
    subst (All (IsBlock c.args.size)) (sym (c.deref.ensures.value ∙ c.in_ok-blocks.ensures))
    (blocks-lie c.args.size c.args.living.now c.requires.placed)

pub space_without-requires-clause-apart : goal.space_without-requires-clause-apart
space_without-requires-clause-apart c p =
    subst (λ (bs : List Block). covers bs p ≤ 1) (sym (c.deref.ensures.value ∙ c.in_ok-blocks.ensures))
    (subst (λ (m : ℕ). m ≤ 1) (sym (covers-living c.args.living.now p)) (c.requires.apart p))

pub returns-clause-free : goal.returns-clause-free
returns-clause-free c =
    c.in_ok-space.ensures.free ∙ ap (left_by c.args.size) (c.deref.ensures.value ∙ c.in_ok-blocks.ensures)
    ∙ left-free c.args.size c.args.living.now
