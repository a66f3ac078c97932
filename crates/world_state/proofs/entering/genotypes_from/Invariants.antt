use Rattle.std.proofs.Common.{◌≡◌, take}
use Rattle.world_state.specs.Reading.{genotypes_of}
use Rattle.world_state.proofs.EnteredAgain.{OnceCoded}
use Rattle.world_state.proofs.entering.genotypes_from.Given as goal

abbrev pub invariant-loop-found : goal.invariant-loop-found
invariant-loop-found l =
    (l.genotypes.genotypes ≡ genotypes_of (take l.found-index l.stored)) × OnceCoded (genotypes_of (take l.found-index l.stored))
