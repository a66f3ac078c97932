use Rattle.std.proofs.Common.{◌∙◌, ◌+◌, ◌<◌, ◌≤◌, ◌^◌, [], ◌∷◌, ◌++◌, arith, length, sym}
use Rattle.world_core.proofs.Cells.{copied-more}
use Rattle.world_core.proofs.running.looking.code_of.Goals as goal

pub overflow_add-at-end : goal.overflow_add-at-end
overflow_add-at-end c =
    let lies : c.args.block.at + c.args.block.size ≤ length c.args.soup.now.cells = c.requires.lies in
    let small : length c.args.soup.now.cells < 2 ^ 32 = c.requires.small in
    omega arith

pub loop-at-preserved : goal.loop-at-preserved
loop-at-preserved c =
    let cells = c.args.soup.now.cells in
    let at = c.loop-at.at in
    let lies : c.args.block.at + c.args.block.size ≤ length cells = c.requires.lies in
    let before = c.loop-at.invariant in
    let room = before.1 in
    let long = before.2 in (
      c.push_reserved.ensures.items ∙ (λ i. before.0 i ++ c.get.ensures.value i ∷ []) ∙ sym (copied-more cells c.args.block.at at (omega arith) (omega arith)),
      rw c.push_reserved.ensures.capacity room,
      omega (arith, c.push_reserved.ensures.len),
    )
