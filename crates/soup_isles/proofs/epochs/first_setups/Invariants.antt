use Rattle.std.proofs.Common.{◌≡◌, All, map}
use Rattle.std.specs.List.{range_with_len}
use Rattle.tierra_model.specs.Setups.{IsSetup}
use Rattle.soup_isles.specs.Runs.{first_setup}
use Rattle.soup_isles.proofs.epochs.first_setups.Given as goal

abbrev pub invariant-loop-place : goal.invariant-loop-place
invariant-loop-place l = (l.items.items ≡ map (first_setup l.setup) (range_with_len 0 l.place)) × All IsSetup l.items.items
