use Rattle.std.proofs.Common.{◌∙◌, ◌++◌, ◌*◌, List, ℕ, ap, append_assoc, sym}
use Rattle.std.specs.List.{flat_map, range_with_len}
use Rattle.report_text.specs.Dump.{row_line, row_of}
use Rattle.report_text.proofs.Lines.{lines-more}
use Rattle.report_text.proofs.world_dump.add_rows.Goals as goal

pub loop-number-preserved : goal.loop-number-preserved
loop-number-preserved c =
    let row = row_of c.args.world.now.world.soup in
    let told = c.args.text.now.items in
    let n = c.loop-number.number in
    c.in_ok-add_row.ensures
    ∙ (λ i. c.loop-number.invariant i ++ row_line (32 * n) ((c.deref.ensures.value ∙ c.in_ok-cells.ensures) i))
    ∙ append_assoc told (flat_map row (range_with_len 0 n)) (row n)
    ∙ ap (λ (t : List ℕ). told ++ t) (sym (lines-more row n))
