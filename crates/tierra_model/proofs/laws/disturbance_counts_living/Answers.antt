use Rattle.tierra_model.proofs.DisturbanceCounts.{disturbance_counts_living}
use Rattle.tierra_model.proofs.laws.disturbance_counts_living.Goals as goal

pub returns : goal.returns
returns c = disturbance_counts_living
