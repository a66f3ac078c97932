-- Which histories are those of a setup.
use Rattle.std.specs.Prelude.{List, Some, slice_get, ℕ, ◌+◌, ◌≡◌}
use Rattle.tierra_model.specs.declared.history.Entry.{Entry}
use Rattle.tierra_model.specs.World.{first_of}
use Rattle.tierra_model.specs.Setups.{SetupFields}
use Rattle.tierra_model.specs.Serial.{serial}

-- Place i of the history, counted from 0, has quantum i + 1 and the creature that is first after i quanta.
abbrev pub IsLegal : List Entry → SetupFields → Type 0
IsLegal history setup = (i : ℕ) (e : Entry) → slice_get history i ≡ Some e
    → (e.quantum ≡ i + 1) × (e.creature ≡ first_of (serial setup i).slicer)
