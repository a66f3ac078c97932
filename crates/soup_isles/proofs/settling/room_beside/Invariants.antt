use Rattle.std.proofs.Common.{◌≡◌, take}
use Rattle.std.specs.Prelude.{not}
use Rattle.tierra_model.specs.FreeList.{runs_of}
use Rattle.soup_isles.specs.Isles.{is_settled}
use Rattle.soup_isles.proofs.settling.room_beside.Given as goal

abbrev pub invariant-loop-creature : goal.invariant-loop-creature
invariant-loop-creature l =
    (l.blocks.size ≡ l.settings.soup_size)
    × (l.blocks.free ≡ runs_of l.settings.soup_size (λ p. not (is_settled (take l.creature-index l.creatures) p)))
