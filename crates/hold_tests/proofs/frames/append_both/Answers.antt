use Rattle.std.proofs.Common.{subst, sym}
use Rattle.world_state.specs.Restoring.{IsStateOf}
use Rattle.soup_checkpoint.specs.declared.owner.Owner.{Owner}
use Rattle.hold_tests.proofs.frames.append_both.Goals as goal

pub append_one-requires-in-Some-clause-state : goal.append_one-requires-in-Some-clause-state
append_one-requires-in-Some-clause-state c =
    let same = rw c.in-Some.is at c.in_ok-append_one.ensures.owner in
    subst (λ (o : Owner). IsStateOf o.settings c.args.second.now) (sym same) c.requires.second
