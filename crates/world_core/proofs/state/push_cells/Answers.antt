use Rattle.std.proofs.Common.{◌∙◌, ◌<◌, ◌++◌, ◌∷◌, [], ap, append_assoc, arith, length, sym, take}
use Rattle.std.proofs.lemmas.List.{take_more}
use Rattle.world_core.proofs.state.push_cells.Goals as goal

pub loop-at-preserved : goal.loop-at-preserved
loop-at-preserved c =
    let soup = c.args.running.now.world.soup in
    let at = c.loop-at.at in
    let start = c.args.out.now.items in
    let within : at < length soup = omega arith in
    c.in_ok-push.ensures.items ∙ (λ i. c.loop-at.invariant i ++ c.cell.ensures.value i ∷ []) ∙ append_assoc start (take at soup) _
    ∙ ap (λ l. start ++ l) (sym (take_more soup at 0 within))
