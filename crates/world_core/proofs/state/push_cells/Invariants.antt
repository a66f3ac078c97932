use Rattle.std.proofs.Common.{◌≡◌, ◌++◌, take}
use Rattle.world_core.proofs.state.push_cells.Given as goal

abbrev pub invariant-loop-at : goal.invariant-loop-at
invariant-loop-at l = l.out.items ≡ l.fn.out.items ++ take l.at l.running.world.soup
