use Rattle.std.proofs.Common.{◌∙◌}
use Rattle.tierra_model.proofs.AnyMachine.{position-of_other}
use Rattle.quantum_run.proofs.yard.place_of_first_other.Goals as goal

pub returns-in-Some : goal.returns-in-Some
returns-in-Some c = c.in-Some.ensures ∙ position-of_other (λ x. x.id) c.args.id c.args.yard.now

pub returns-in-None : goal.returns-in-None
returns-in-None c = c.in-None.ensures ∙ position-of_other (λ x. x.id) c.args.id c.args.yard.now
