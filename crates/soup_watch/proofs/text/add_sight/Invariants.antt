use Rattle.std.proofs.Common.{◌≡◌, ◌++◌, drop}
use Rattle.std.specs.List.{flat_map}
use Rattle.soup_watch.specs.Text.{count_line, sight_text}
use Rattle.soup_watch.proofs.text.add_sight.Given as goal

abbrev pub invariant-loop-count : goal.invariant-loop-count
invariant-loop-count l = l.text.items ++ flat_map count_line (drop l.count-index l.sight.counts) ≡ l.fn.text.items ++ sight_text l.sight
