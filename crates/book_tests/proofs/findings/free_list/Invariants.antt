use Rattle.std.proofs.Common.{◌≡◌}
use Rattle.std.specs.Prelude.{take}
use Rattle.tierra_model.specs.FreeList.{free_list}
use Rattle.book_tests.proofs.findings.free_list.Given as goal

abbrev pub invariant-loop-place : goal.invariant-loop-place
invariant-loop-place l = l.items.items ≡ take l.place (free_list l.world.world)
