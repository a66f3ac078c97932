-- Blocks of cells.
use Rattle.std.specs.Prelude.{ℕ, ◌+◌, ◌&&◌, Bool, false, nat_le, nat_lt, Option, Some, None}
use Rattle.tierra_model.specs.declared.creatures.Block.{Block}

abbrev pub is_in : Block → ℕ → Bool
is_in b p = nat_le b.at p && nat_lt p (b.at + b.size)

abbrev pub is_in_daughter : Option Block → ℕ → Bool
is_in_daughter None p = false
is_in_daughter (Some b) p = is_in b p

-- the empty block, which a place past the end of a list of blocks gives
abbrev pub no_block : Block
no_block = record { at = 0; size = 0 }
