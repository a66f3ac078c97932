use Rattle.std.proofs.Common.{◌≡◌, ◌∙◌, sym}
use Rattle.world_state.proofs.LineOrder.{sorted-is}
use Rattle.world_state.proofs.checks.are_same.Goals as goal

pub returns : goal.returns
returns c =
    let is = sorted-is c.args.numbers.now c.in_ok-sorted.sorted.items c.args.ordered.now c.in_ok-sorted.ensures.same c.in_ok-sorted.ensures.order c.requires in
    let told : c.deref.result.now ≡ c.in_ok-sorted.sorted.items = c.deref.ensures.value in
    (λ yes. is.0 (sym told ∙ c.are_equal.ensures.0 yes), λ same. c.are_equal.ensures.1 (told ∙ is.1 same))
