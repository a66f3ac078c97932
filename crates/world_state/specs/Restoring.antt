-- When bytes are the state bytes of a sound world.
use Rattle.std.specs.Int.{w32}
use Rattle.std.specs.Prelude.{All, FitsSigned, List, length, ℕ, ◌<◌, ◌^◌, ◌≡◌}
use Rattle.byte_fields.specs.Writing.{IsLongEffort}
use Rattle.tierra_model.specs.declared.creatures.Creature.{Creature}
use Rattle.tierra_model.specs.declared.parameters.Settings.{Settings}
use Rattle.tierra_model.specs.Sound.{IsSound}
use Rattle.tierra_model.specs.World.{Genotype, World}
use Rattle.world_state.specs.StateBytes.{state_bytes}

-- registers and words of the stack have 32 bits, and the flag has 8
pub record HasWords (c : Creature) : Type 0 where
  pub ax : FitsSigned w32 c.ax
  pub bx : FitsSigned w32 c.bx
  pub cx : FitsSigned w32 c.cx
  pub dx : FitsSigned w32 c.dx
  pub ten : length c.stack ≡ 10
  pub stack : All (FitsSigned w32) c.stack
  pub flag : c.flag < 2 ^ 8

abbrev pub HasLongNumbers : Genotype → Type 0
HasLongNumbers g = (g.first_quantum < 2 ^ 64) × IsLongEffort g.first_effort × IsLongEffort g.second_effort

-- The bounds that Rust's types give, and soundness does not.
pub record FitsTypes (w : World) : Type 0 where
  pub creatures : All HasWords w.living
  pub living : length w.living < 2 ^ 32
  pub genotypes : All HasLongNumbers w.genotypes
  pub savings : All (λ s. IsLongEffort s.first_effort × IsLongEffort s.second_effort) w.saved
  pub saved : length w.saved < 2 ^ 64

-- the bytes are those of the world, which is sound and has the settings
pub record AreBytesOf (chosen : Settings) (told : List ℕ) (w : World) : Type 0 where
  pub settings : w.settings ≡ chosen
  pub sound : IsSound w
  pub types : FitsTypes w
  pub bytes : state_bytes w ≡ told

-- the bytes are those of some sound world with the settings
abbrev pub IsStateOf : Settings → List ℕ → Type 0
IsStateOf chosen told = (w : World) × AreBytesOf chosen told w

-- no sound world with the settings has the bytes
abbrev pub AreOfNoWorld : Settings → List ℕ → Type 0
AreOfNoWorld chosen told = (w : World) → AreBytesOf chosen told w → ⊥
