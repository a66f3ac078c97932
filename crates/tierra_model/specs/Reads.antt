-- What a quantum reads.
use Rattle.std.specs.List.{list_any}
use Rattle.std.specs.Prelude.{Bool, List, None, Option, Some, [], false, if◌then◌else◌, true, ℕ, ◌++◌, ◌-◌, ◌==◌, ◌∷◌}
use Rattle.tierra_model.specs.declared.creatures.Block.{Block}
use Rattle.tierra_model.specs.declared.events.Event.{Event}
use Rattle.tierra_model.specs.declared.creatures.Standing.{Standing}
use Rattle.tierra_model.specs.declared.events.Event.TheVariants as event
use Rattle.tierra_model.specs.World.{World}

-- the cells in the order of reading, each with what it held; the free list and the yard, if they were read
pub record Reads : Type 0 where
  pub cells : List (ℕ × ℕ)
  pub free : Option (List Block)
  pub yard : Option (List Standing)

abbrev pub is_noted : List (ℕ × ℕ) → ℕ → Bool
is_noted cells p = list_any (λ c. c.0 == p) cells

-- the event writes the cell
abbrev pub writes : ℕ → Event → Bool
writes p (event.Write at value) = at == p
writes p event.Err = false
writes p event.Good = false
writes p event.GiveUp = false
writes p (event.Mal at size) = false
writes p (event.Reap place) = false
writes p (event.Divide ran moved) = false

abbrev pub some_if : {A : Type 0} → Bool → A → Option A
some_if b a = elim b [ true ↦ Some a | false ↦ None ]

-- the list rotated so that the number comes first, if the list has it; seen holds the numbers passed so far
abbrev pub turned_to : ℕ → List ℕ → List ℕ → List ℕ
turned_to id seen [] = seen
turned_to id seen (x ∷ xs) = if x == id then (x ∷ xs) ++ seen else turned_to id (seen ++ x ∷ []) xs

-- the world with the creature at the front, before quantum q
abbrev pub ahead : World → ℕ → ℕ → World
ahead w q id = record w { quanta = q - 1; slicer = turned_to id [] w.slicer }
