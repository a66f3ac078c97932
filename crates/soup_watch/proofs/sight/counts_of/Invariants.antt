use Rattle.std.proofs.Common.{◌≡◌, map}
use Rattle.std.specs.List.{range_with_len}
use Rattle.std.specs.Prelude.{filter}
use Rattle.soup_watch.specs.Seeing.{count_of, lives}
use Rattle.soup_watch.proofs.sight.counts_of.Given as goal

abbrev pub invariant-loop-number : goal.invariant-loop-number
invariant-loop-number l = l.items.items ≡ filter lives (map (count_of l.world.world) (range_with_len 0 l.number))
