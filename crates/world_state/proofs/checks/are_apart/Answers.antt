use Rattle.std.proofs.Common.{◌≡◌, ◌∙◌, ap, subst, sym}
use Rattle.std.specs.Prelude.{All}
use Rattle.std.specs.List.Sorted.{IsPermutation}
use Rattle.tierra_model.specs.Ranges.{IsBlock}
use Rattle.world_state.specs.Checks.{apart_step, passes}
use Rattle.world_state.proofs.ApartBlocks.{apart-is, sorted-lie}
use Rattle.world_state.proofs.checks.are_apart.Goals as goal

pub follow-requires : goal.follow-requires
follow-requires c =
    subst (All (IsBlock c.args.size)) (sym c.deref.ensures.value)
    (sorted-lie c.args.size c.args.living.now c.in_ok-blocks.blocks.items c.requires
    (subst (λ bs. IsPermutation bs c.in_ok-blocks.blocks.items) c.in_ok-blocks_in.ensures c.in_ok-blocks.ensures.same))

pub returns : goal.returns
returns c =
    let is = apart-is c.args.size c.args.living.now c.in_ok-blocks.blocks.items c.requires
    (subst (λ bs. IsPermutation bs c.in_ok-blocks.blocks.items) c.in_ok-blocks_in.ensures c.in_ok-blocks.ensures.same) c.in_ok-blocks.ensures.order in
    let told : c.follow.result ≡ passes apart_step 0 c.in_ok-blocks.blocks.items = c.follow.ensures ∙ ap (passes apart_step 0) c.deref.ensures.value in
    (λ yes. is.0 (sym told ∙ yes), λ once. told ∙ is.1 once)
