use Rattle.std.proofs.Common.{◌≡◌, Some, map, take}
use Rattle.toml.specs.View.{items_view, table_view}
use Rattle.soup_file.specs.Creatures.{tables_of}
use Rattle.soup_file.proofs.creatures.tables_of.Given as goal

abbrev pub invariant-loop-item : goal.invariant-loop-item
invariant-loop-item l = tables_of (items_view (take l.item-index l.item-items)) ≡ Some (map (λ t. table_view t.now) l.tables.items)
