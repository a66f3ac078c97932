use Rattle.std.proofs.Common.{◌≡◌, ◌∙◌, ◌-◌, ◌<◌, ◌≤◌, ℕ, ap, arith, drop, length, min, take}
use Rattle.std.proofs.lemmas.List.{length-drop, take_min}
use Rattle.world_core.proofs.Cells.{copied-more}
use Rattle.report_text.proofs.world_dump.cells_from.Goals as goal

pub loop-at-preserved : goal.loop-at-preserved
loop-at-preserved c =
    let soup = c.args.world.now.world.soup in
    let at = c.loop-at.at in
    let from : c.args.first ≤ at = c.loop-at.auto.at in
    let within : at < length soup = omega arith in
    let more = copied-more soup c.args.first at from within in
    cc (c.in_ok-push.ensures.items, more)

pub returns : goal.returns
returns c =
    let soup = c.args.world.now.world.soup in
    let first = c.args.first in
    let count : c.loop-at.at - first ≡ min 32 (length (drop first soup)) = omega (arith, length-drop first soup) in
    c.loop-at.invariant ∙ ap (λ (n : ℕ). take n (drop first soup)) count ∙ take_min 32 (drop first soup)
