-- What an instruction draws.
use Rattle.std.specs.Prelude.{Option, negsuc, pos, ℕ, ℤ, ◌≡◌, ◌⊎◌}
use Rattle.tierra_model.specs.declared.parameters.Settings.{Settings}
use Rattle.tierra_model.specs.Draw.{copy_bit, flaw, word}
use Rattle.mutation_streams.specs.Draws.{DrawFields}

-- the flaw of instruction i of the quantum
unfoldable pub flaw_of : DrawFields → ℕ → ℤ
flaw_of d i = flaw d.flaw_rate (word d.seed d.quantum) i

-- the bit that its copy flips, if any
unfoldable pub copy_bit_of : DrawFields → ℕ → Option ℕ
copy_bit_of d i = copy_bit d.copy_rate (word d.seed d.quantum) i

-- The settings with the rates of the draws. If the draws were made from the settings, these are the same settings.
abbrev pub with_rates_of : DrawFields → Settings → Settings
with_rates_of d s = record s { copy_rate = d.copy_rate; flaw_rate = d.flaw_rate }

-- a flaw, or none
abbrev pub IsFlaw : ℤ → Type 0
IsFlaw f = (f ≡ pos 0) ⊎ (f ≡ pos 1) ⊎ (f ≡ negsuc 0)
