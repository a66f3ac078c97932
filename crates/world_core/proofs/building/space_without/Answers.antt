use Rattle.std.proofs.Common.{◌<◌, ◌∙◌, List, ap, get_or}
use Rattle.std.proofs.lemmas.List.Elements.{All-get_or}
use Rattle.std.specs.Prelude.{not, ◌&&◌}
use Rattle.tierra_model.specs.declared.creatures.Block.{Block}
use Rattle.tierra_model.specs.Blocks.{is_in}
use Rattle.tierra_model.specs.FreeList.{is_in_some, runs_of}
use Rattle.tierra_model.specs.Ranges.{IsBlock}
use Rattle.world_core.proofs.Built.{left-next, next-free}
use Rattle.world_core.proofs.Ownership.{in_block}
use Rattle.world_core.proofs.building.space_without.Goals as goal

abbrev nothing : Block
nothing = record { at = 0; size = 0 }

pub take-requires-clause-free : goal.take-requires-clause-free
take-requires-clause-free c p here =
    let n = c.args.size in
    let bs = c.args.blocks.now in
    let k = c.loop-block.block-index in
    let lt = c.loop-block-test.true in
    let below : p < n
    = in_block n (get_or bs k nothing) p (All-get_or (IsBlock n) bs k nothing lt c.requires.lie) here in
    ap (λ (f : List Block). is_in_some f p) (c.in_ok-reserve.ensures.free ∙ c.loop-block.invariant.1)
    ∙ next-free n bs k nothing p lt c.requires.apart below here

pub loop-block-preserved : goal.loop-block-preserved
loop-block-preserved c =
    let n = c.args.size in
    let bs = c.args.blocks.now in
    let k = c.loop-block.block-index in
    let size = c.in_ok-reserve.ensures.size ∙ c.loop-block.invariant.0 in
    let free = c.in_ok-reserve.ensures.free ∙ c.loop-block.invariant.1 in (
      c.take.ensures.size ∙ size,
      c.take.ensures.free ∙ (λ i. runs_of (size i) (λ p. is_in_some (free i) p && not (is_in (get_or bs k nothing) p)))
          ∙ left-next n bs k nothing c.loop-block-test.true,
    )
