use Rattle.std.proofs.Common.{subst, sym}
use Rattle.tierra_model.specs.Setups.{SetupFields}
use Rattle.world_state.specs.Restoring.{IsStateOf}
use Rattle.soup_checkpoint.specs.declared.owner.Owner.{Owner}
use Rattle.hold_tests.proofs.frames.append_two.Goals as goal

pub append_both-requires-clause-first : goal.append_both-requires-clause-first
append_both-requires-clause-first c =
    let same = rw c.in-Some.is at c.in_ok-attached.ensures.owner in
    subst (λ (o : Owner). IsStateOf o.settings c.in_ok-first.first) (sym same)
    (subst (λ (s : SetupFields). IsStateOf s.settings c.in_ok-first.first) c.setup.view_is c.in_ok-first.ensures.state)

pub append_both-requires-clause-second : goal.append_both-requires-clause-second
append_both-requires-clause-second c =
    let same = rw c.in-Some.is at c.in_ok-attached.ensures.owner in
    subst (λ (o : Owner). IsStateOf o.settings c.in_ok-second.second) (sym same)
    (subst (λ (s : SetupFields). IsStateOf s.settings c.in_ok-second.second) c.setup.view_is
    c.in_ok-second.ensures.state)
