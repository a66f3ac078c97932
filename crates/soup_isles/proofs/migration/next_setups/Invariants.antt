use Rattle.std.proofs.Common.{◌≡◌, All, map}
use Rattle.std.specs.List.{range_with_len}
use Rattle.tierra_model.specs.Setups.{IsSetup}
use Rattle.soup_isles.specs.Isles.{next_setup}
use Rattle.soup_isles.proofs.migration.next_setups.Given as goal

abbrev pub invariant-loop-place : goal.invariant-loop-place
invariant-loop-place l =
    (l.items.items ≡ map (next_setup l.setups l.worlds l.seed l.epoch) (range_with_len 0 l.place)) × All IsSetup l.items.items
