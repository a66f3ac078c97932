use Rattle.std.proofs.Common.{◌∙◌}
use Rattle.run_log.proofs.population_curve.log_of_run.Goals as goal

pub log_of_world-requires-clause-begins : goal.log_of_world-requires-clause-begins
log_of_world-requires-clause-begins c = c.in_ok-run.ensures ∙ c.in_ok-start.ensures
