use Rattle.std.proofs.Common.{map}
use Rattle.toml.specs.View.{table_view}
use Rattle.soup_file.proofs.InOrder.{AreRead}
use Rattle.soup_file.proofs.creatures.read_creatures.Given as goal

abbrev pub invariant-loop-table : goal.invariant-loop-table
invariant-loop-table l = AreRead l.soup_size (map (λ t. table_view t.now) l.tables) l.table-index l.items.items
