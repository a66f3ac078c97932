use Rattle.std.proofs.Common.{◌≡◌, ◌+◌, ◌-◌, ℕ, arith, subst}
use Rattle.template_search.specs.Openings.{Differs}
use Rattle.template_search.proofs.Sixteen.{leading_bits, leading_in_64}
use Rattle.std.proofs.lemmas.Nat.{leading_le}
use Rattle.template_search.proofs.lanes.ruled_out_behind.Goals as goal

pub overflow_sub-result : goal.overflow_sub-result
overflow_sub-result c = leading_in_64 c.likely_from-likely.result c.likely_from-likely.ensures.below

pub returns-clause-differ : goal.returns-clause-differ
returns-clause-differ c j h =
    let n = c.likely_from-likely.result in
    let below = c.likely_from-likely.ensures.below in
    let clear = leading_bits n j (omega (arith, below)) (omega (arith, h)) in
    let same : c.args.place - 15 + (15 - j) ≡ c.args.place - j = omega (arith, h, leading_le 64 n) in
    subst (λ (p : ℕ). Differs c.args.nops.now c.args.row.now p) same (c.likely_from-likely.ensures.differ (15 - j) (omega arith) clear)
