-- What blocks, codes and efforts may be.
use Rattle.std.specs.Prelude.{All, IfSome, List, Option, length, ℕ, ◌+◌, ◌<◌, ◌≤◌}
use Rattle.tierra_model.specs.declared.limits.TheConstants.{MOST_SIZE}
use Rattle.tierra_model.specs.declared.creatures.Block.{Block}
use Rattle.tierra_model.specs.declared.creatures.Effort.{Effort}

-- a block of a soup of n cells
abbrev pub IsBlock : ℕ → Block → Type 0
IsBlock n b = (1 ≤ b.size) × (b.size ≤ MOST_SIZE) × (b.at + b.size ≤ n)

-- the code of a creature
abbrev pub IsCode : List ℕ → Type 0
IsCode code = (1 ≤ length code) × (length code ≤ MOST_SIZE) × All (λ v. v < 32) code

-- each effort there is has run an instruction
abbrev pub AreEfforts : Option Effort → Option Effort → Type 0
AreEfforts first second = IfSome first (λ (e : Effort). 1 ≤ e.ran) × IfSome second (λ (e : Effort). 1 ≤ e.ran)
