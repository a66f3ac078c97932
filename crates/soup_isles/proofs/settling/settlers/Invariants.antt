use Rattle.std.proofs.Common.{◌≡◌, map, take}
use Rattle.tierra_model.specs.Living.{one_of}
use Rattle.soup_isles.specs.Isles.{settler}
use Rattle.soup_isles.proofs.settling.settlers.Given as goal

abbrev pub invariant-loop-k : goal.invariant-loop-k
invariant-loop-k l = l.items.items ≡ map (λ id. settler l.world.world (one_of l.world.world.living id)) (take l.k l.world.world.slicer)
