-- The first difference between what a quantum read and a world.
use Rattle.std.specs.Cmp.Lexicographic.{pointwise}
use Rattle.std.specs.Option.{option_eq}
use Rattle.std.specs.Ordering.{int_eq}
use Rattle.std.specs.Prelude.{Bool, List, None, Option, Some, [], if◌then◌else◌, option_map, slice_get, slice_index}
use Rattle.std.specs.Prelude.{take, ℕ, ◌&&◌, ◌+◌, ◌==◌, ◌∷◌, ◌≡◌, ◌≢◌}
use Rattle.tierra_model.specs.declared.creatures.Block.{Block}
use Rattle.tierra_model.specs.declared.creatures.Creature.{Creature}
use Rattle.tierra_model.specs.declared.history.Stale.{Stale}
use Rattle.tierra_model.specs.declared.creatures.Standing.{Standing}
use Rattle.tierra_model.specs.declared.history.Stale.TheVariants as stale
use Rattle.tierra_model.specs.World.{World, front}
use Rattle.tierra_model.specs.FreeList.{free_list}
use Rattle.tierra_model.specs.Yard.{yard}
use Rattle.tierra_model.specs.Reads.{Reads}
use Rattle.tierra_model.specs.Findings.{Agrees}

-- ---- when two things are the same

abbrev pub same_block : Block → Block → Bool
same_block a b = a.at == b.at && a.size == b.size

abbrev pub same_standing : Standing → Standing → Bool
same_standing a b =
    a.id == b.id && (a.errors == b.errors && (same_block a.own b.own && option_eq same_block a.daughter b.daughter))

abbrev pub same_creature : Creature → Creature → Bool
same_creature a b =
    a.id == b.id && (same_block a.own b.own && (option_eq same_block a.daughter b.daughter && (a.moved == b.moved
    && (int_eq a.ax b.ax && (int_eq a.bx b.bx && (int_eq a.cx b.cx && (int_eq a.dx b.dx
    && (a.ip == b.ip && (pointwise int_eq a.stack b.stack && (a.sp == b.sp && (a.flag == b.flag
    && (a.errors == b.errors && (a.genotype == b.genotype && (a.ran == b.ran && a.bred == b.bred))))))))))))))

-- ---- where two lists differ

pub record ListDifference (X : Type 0) : Type 0 where
  pub place : ℕ
  pub seen : Option X
  pub now : Option X

-- The least place where the lists differ, with what each has there, and None past an end. Places are counted from k.
abbrev pub list_difference : {X : Type 0} → (X → X → Bool) → ℕ → List X → List X → Option (ListDifference X)
list_difference same k [] [] = None
list_difference same k [] (y ∷ ys) = Some (record { place = k; seen = None; now = Some y })
list_difference same k (x ∷ xs) [] = Some (record { place = k; seen = Some x; now = None })
list_difference same k (x ∷ xs) (y ∷ ys) =
    if same x y then list_difference same (k + 1) xs ys else Some (record { place = k; seen = Some x; now = Some y })

-- ---- the first difference

-- the first, or the second if the first is None
abbrev pub or_else : {X : Type 0} → Option X → Option X → Option X
or_else None o = o
or_else (Some x) o = Some x

abbrev pub of_front : Creature → Creature → Option Stale
of_front seen now =
    if seen.id == now.id then (if same_creature seen now then None else Some stale.Body)
    else Some (stale.Front seen.id now.id)

-- the first cell that differs, in the order of reading
abbrev pub of_cells : List (ℕ × ℕ) → List ℕ → Option Stale
of_cells [] soup = None
of_cells (c ∷ cs) soup =
    if slice_index soup c.0 == c.1 then of_cells cs soup else Some (stale.Cell c.0 c.1 (slice_index soup c.0))

abbrev pub of_free : Option (List Block) → List Block → Option Stale
of_free None now = None
of_free (Some seen) now = option_map (λ d. stale.Free d.place d.seen d.now) (list_difference same_block 0 seen now)

abbrev pub of_yard : Option (List Standing) → List Standing → Option Stale
of_yard None now = None
of_yard (Some seen) now = option_map (λ d. stale.Yard d.place d.seen d.now) (list_difference same_standing 0 seen now)

unfoldable pub first_difference : Reads → Creature → World → Option Stale
first_difference reads c w =
    or_else (of_front c (front w))
    (or_else (of_cells reads.cells w.soup) (or_else (of_free reads.free (free_list w)) (of_yard reads.yard (yard w))))

-- ---- the laws

-- The lists are the same before the place, and not at it.
pub record IsLeast {X : Type 0} (seen now : List X) (d : ListDifference X) : Type 0 where
  pub before : take d.place seen ≡ take d.place now
  pub seen_there : d.seen ≡ slice_get seen d.place
  pub now_there : d.now ≡ slice_get now d.place
  pub differs : d.seen ≢ d.now

abbrev pub LeastPlace : Type 0
LeastPlace =
    ((seen now : List Block) (d : ListDifference Block) → list_difference same_block 0 seen now ≡ Some d
    → IsLeast seen now d)
    × ((seen now : List Standing) (d : ListDifference Standing) → list_difference same_standing 0 seen now ≡ Some d
    → IsLeast seen now d)

-- There is no first difference if and only if the reads and the record agree with the world.
abbrev pub DifferenceTells : Type 0
DifferenceTells = (reads : Reads) (c : Creature) (w : World)
    → (first_difference reads c w ≡ None → Agrees reads c w) × (Agrees reads c w → first_difference reads c w ≡ None)
