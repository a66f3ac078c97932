use Rattle.std.proofs.Common.{◌≡◌, ◌∙◌, sym, ap, ◌++◌, List, ℕ, length, arith}
use Rattle.std.proofs.lemmas.List.{append_assoc}
use Rattle.std.specs.List.{flat_map, range_with_len}
use Rattle.report_text.specs.Report.{line_of}
use Rattle.report_text.proofs.Lines.{lines-more}
use Rattle.report_text.proofs.world_report.add_genotypes.Goals as goal

pub loop-number-preserved : goal.loop-number-preserved
loop-number-preserved c =
    let line = line_of c.args.world.now.world in
    let told = c.args.text.now.items in
    let n = c.loop-number.number in
    c.in_ok-add_genotype.ensures
    ∙ ap (λ (t : List ℕ). t ++ line n) c.loop-number.invariant
    ∙ append_assoc told (flat_map line (range_with_len 0 n)) (line n)
    ∙ ap (λ (t : List ℕ). told ++ t) (sym (lines-more line n))

pub returns : goal.returns
returns c =
    let count = ap (λ xs. length xs) c.genotypes.ensures in
    let all : c.loop-number.number ≡ length c.args.world.now.world.genotypes =
    omega (arith, c.len-number-end.ensures, count, c.loop-number.auto.number-end, c.loop-number-test.false) in
    c.loop-number.invariant ∙ ap (λ (k : ℕ). c.args.text.now.items ++ flat_map (line_of c.args.world.now.world) (range_with_len 0 k)) all
