use Rattle.std.proofs.Common.{◌≡◌, ◌++◌, take}
use Rattle.std.specs.List.{flat_map}
use Rattle.byte_fields.specs.Writing.{eight}
use Rattle.world_core.proofs.state.push_reaper.Given as goal

abbrev pub invariant-loop-place : goal.invariant-loop-place
invariant-loop-place l = l.out.items ≡ l.fn.out.items ++ flat_map eight (take l.place l.running.world.reaper)
