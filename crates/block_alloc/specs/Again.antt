-- A block that is given back, and asked for again.
use Rattle.std.specs.Prelude.{Bool, nat_le, ◌-◌, ◌==◌, ◌||◌}
use Rattle.tierra_model.specs.declared.creatures.Block.{Block}

-- the run begins behind the block, is as long, or ends where the block begins
abbrev pub tells : Block → Block → Bool
tells block run = (nat_le block.at run.at || nat_le block.size run.size) || (block.at - run.at == run.size)
