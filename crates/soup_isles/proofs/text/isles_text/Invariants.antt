use Rattle.std.proofs.Common.{◌≡◌}
use Rattle.std.specs.List.{flat_map, range_with_len}
use Rattle.soup_isles.specs.Text.{isle_text}
use Rattle.soup_isles.proofs.text.isles_text.Given as goal

abbrev pub invariant-loop-place : goal.invariant-loop-place
invariant-loop-place l = l.items.items ≡ flat_map (isle_text l.worlds) (range_with_len 0 l.place)
