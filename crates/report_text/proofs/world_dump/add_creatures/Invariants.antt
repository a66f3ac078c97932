use Rattle.std.proofs.Common.{◌≡◌, ◌++◌, map, take}
use Rattle.std.specs.List.{flat_map}
use Rattle.tierra_model.specs.Living.{one_of}
use Rattle.report_text.specs.Dump.{creature_line}
use Rattle.report_text.proofs.world_dump.add_creatures.Given as goal

abbrev pub invariant-loop-k : goal.invariant-loop-k
invariant-loop-k l =
    l.text.items ≡ l.fn.text.items ++ flat_map (creature_line l.world.world.genotypes) (map (one_of l.world.world.living) (take l.k l.world.world.slicer))
