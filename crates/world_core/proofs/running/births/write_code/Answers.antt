use Rattle.std.proofs.Common.{◌≡◌, ◌∙◌, ◌+◌, ◌<◌, ◌≤◌, get_or, length, rules, set}
use Rattle.world_core.proofs.Cells.{overwrite-more}
use Rattle.world_core.proofs.running.births.write_code.Goals as goal

pub loop-i-preserved : goal.loop-i-preserved
loop-i-preserved c =
    let code = c.args.code.now in
    let i = c.loop-i.i in
    let cells = c.args.soup.now.cells in
    let lies : c.args.at + length code ≤ length cells = c.requires.lies in
    let items : c.deref-value-items.result.now ≡ code = search rules in
    let within : i < length code = search rules in
    c.set.ensures.cells ∙ (λ j. set ((c.in_ok-ready.ensures.cells ∙ c.loop-i.invariant) j) (c.args.at + i) (get_or (items j) i 0))
    ∙ overwrite-more cells c.args.at code i within lies
