use Rattle.std.proofs.Common.{◌≡◌}
use Rattle.std.specs.List.{flat_map, range_with_len}
use Rattle.soup_top.specs.ShownKeys.{shown_byte}
use Rattle.soup_top.proofs.shown_key.shown_key.Given as goal

abbrev pub invariant-loop-place : goal.invariant-loop-place
invariant-loop-place l = l.items.items ≡ flat_map (shown_byte l.fn.key) (range_with_len 0 l.place)
