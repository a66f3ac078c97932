use Rattle.std.proofs.Common.{◌≡◌, ◌∙◌, ◌+◌, ◌++◌, ◌∷◌, [], ℕ, List, ap, sym, arith}
use Rattle.std.specs.List.{range_with_len}
use Rattle.run_log.proofs.Runs.{range-more}
use Rattle.run_log.proofs.population_curve.numbers.Goals as goal

pub loop-before-preserved : goal.loop-before-preserved
loop-before-preserved c =
    let next : c.loop-before.before + 1 ≡ 1 + c.loop-before.before = omega arith in
    c.in_ok-push.ensures.items ∙ ap (λ (l : List ℕ). l ++ (c.loop-before.before + 1) ∷ []) c.loop-before.invariant
    ∙ ap (λ (k : ℕ). range_with_len 1 c.loop-before.before ++ k ∷ []) next ∙ sym (range-more 1 c.loop-before.before)
