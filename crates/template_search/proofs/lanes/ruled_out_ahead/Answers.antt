use Rattle.std.proofs.Common.{arith, w64}
use Rattle.std.proofs.lemmas.Nat.Bits.{bit_at-trailing_zeros}
use Rattle.template_search.proofs.Sixteen.{trailing_in_16}
use Rattle.template_search.proofs.lanes.ruled_out_ahead.Goals as goal

pub returns-else-likely-eq0-clause-at_most : goal.returns-else-likely-eq0-clause-at_most
returns-else-likely-eq0-clause-at_most c =
    let few = trailing_in_16 c.likely_from-likely.result (omega (arith, c.if-likely-eq0.false)) c.likely_from-likely.ensures.below in
    omega (arith, few)

pub returns-else-likely-eq0-clause-differ : goal.returns-else-likely-eq0-clause-differ
returns-else-likely-eq0-clause-differ c j h =
    let n = c.likely_from-likely.result in
    let few = trailing_in_16 n (omega (arith, c.if-likely-eq0.false)) c.likely_from-likely.ensures.below in
    let lowest = bit_at-trailing_zeros w64 n (omega (arith, c.if-likely-eq0.false)) (omega (arith, c.likely_from-likely.ensures.below)) in
    c.likely_from-likely.ensures.differ j (omega (arith, few, h)) (lowest.2 j h)
