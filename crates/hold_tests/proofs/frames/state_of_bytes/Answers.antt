use Rattle.std.proofs.Common.{List, ℕ, subst}
use Rattle.world_state.specs.Restoring.{IsStateOf}
use Rattle.hold_tests.proofs.frames.state_of_bytes.Goals as goal

pub returns-then-len-clause-state : goal.returns-then-len-clause-state
returns-then-len-clause-state c = subst (λ (b : List ℕ). IsStateOf c.args.settings.now b) c.deref.ensures.value
    c.in_ok-check_state.ensures
