use Rattle.std.proofs.Common.{◌∙◌, ◌++◌, [], ◌∷◌, arith, sym}
use Rattle.world_core.proofs.Cells.{copied-more}
use Rattle.soup_isles.proofs.settling.settler.Goals as goal

pub loop-at-preserved : goal.loop-at-preserved
loop-at-preserved c =
    let cells = c.args.world.now.world.soup in
    let at = c.loop-at.at in
    c.in_ok-push.ensures.items ∙ (λ i. c.loop-at.invariant i ++ c.cell.ensures i ∷ [])
    ∙ sym (copied-more cells c.args.creature.now.own.at at (omega arith) (omega arith))
