use Rattle.std.proofs.Common.{◌≡◌, ◌++◌, map, take}
use Rattle.std.specs.List.{flat_map}
use Rattle.tierra_model.specs.Living.{one_of}
use Rattle.world_state.specs.StateBytes.{creature_bytes}
use Rattle.world_core.proofs.state.push_creatures.Given as goal

abbrev pub invariant-loop-k : goal.invariant-loop-k
invariant-loop-k l = l.out.items ≡ l.fn.out.items ++ flat_map creature_bytes (map (one_of l.running.world.living) (take l.k l.running.world.slicer))
