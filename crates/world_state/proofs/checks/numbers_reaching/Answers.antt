use Rattle.std.proofs.Common.{◌∙◌, ◌+◌, ◌<◌, ◌≤◌, ap, subst, sym}
use Rattle.world_state.proofs.Reaching.{Reached, at-total, reached-one, reached-other}
use Rattle.world_state.proofs.checks.numbers_reaching.Goals as goal
use Rattle.world_state.proofs.checks.numbers_reaching.Goals.{then-stored-number+in_ok-push, else-stored-number}

pub loop-number-preserved : goal.loop-number-preserved
loop-number-preserved c =
    let stored = c.args.stored.now in
    let n = c.loop-number.number in
    let total = at-total stored n c.index-stored-number.result c.loop-number-test.true in
    elim c.if-stored-number.branch [
      | then-stored-number+in_ok-push w ↦
          subst (Reached stored c.args.total (n + 1)) (sym (ap (λ v. v.items) w.numbers-is ∙ w.in_ok-push.ensures.items))
          (reached-one stored c.args.total n c.loop-number.numbers.items (subst (λ t. c.args.total ≤ t) total w.if-stored-number.true) c.loop-number.invariant)
      | else-stored-number w ↦
          subst (Reached stored c.args.total (n + 1)) (sym (ap (λ v. v.items) w.numbers-is))
          (reached-other stored c.args.total n c.loop-number.numbers.items (subst (λ t. t < c.args.total) total w.if-stored-number.false)
          c.loop-number.invariant)
    ]
