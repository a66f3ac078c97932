use Rattle.std.proofs.Common.{◌≡◌, ◌++◌, drop}
use Rattle.std.specs.List.{flat_map}
use Rattle.soup_watch.specs.Text.{sight_text, sights_text}
use Rattle.soup_watch.proofs.text.sights_text.Given as goal

abbrev pub invariant-loop-sight : goal.invariant-loop-sight
invariant-loop-sight l = l.items.items ++ flat_map sight_text (drop l.sight-index l.sights.sights) ≡ sights_text l.sights.sights
