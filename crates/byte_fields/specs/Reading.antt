-- Reading from left to right: a field gives a value and the bytes after it, or nothing.
use Rattle.std.specs.Int.{Width, byte_len, from_be_bytes, w32, w64}
use Rattle.std.specs.Prelude.{Bool, Err, List, None, Ok, Option, Result, Some, [], drop, false, if◌then◌else◌}
use Rattle.std.specs.Prelude.{length, nat_le, slice_index_or, suc}
use Rattle.std.specs.Prelude.{take, true, zero, ℕ, ◌==◌, ◌∷◌, ◌≡◌}
use Rattle.byte_fields.specs.declared.stop.Stop.{Stop}
use Rattle.byte_fields.specs.declared.stop.Stop.TheVariants as stop
use Rattle.tierra_model.specs.declared.creatures.Effort.{Effort}

-- the result of a function, under view, is what reading gives, unless memory ran out
abbrev pub Stops : {Y : Type 0} → Stop → Option Y → Type 0
Stops stop.NoMemory read = Unit {0}
Stops stop.Malformed read = read ≡ None

abbrev pub Gives : {X Y : Type 0} → (X → Y) → Result X Stop → Option Y → Type 0
Gives view (Ok x) read = read ≡ Some (view x)
Gives view (Err e) read = Stops e read

-- the value, if the test passes
abbrev pub only_if : {X : Type 0} → Bool → X → Option X
only_if true x = Some x
only_if false x = None

infixl 10 ◌>>=◌
abbrev pub ◌>>=◌ : {A B : Type 0} → Option A → (A → Option B) → Option B
(Some x) >>= f = f x
None >>= f = None

-- two fields in turn, the second of which may depend on the first
abbrev pub both : {X Y : Type 0} → (List ℕ → Option (X × List ℕ)) → (X → List ℕ → Option (Y × List ℕ)) → List ℕ
    → Option ((X × Y) × List ℕ)
both first second bytes = do
  x ← first bytes
  y ← second x.0 x.1
  Some ((x.0, y.0), y.1)

-- a field whose value is made from that of another, where that is of use
abbrev pub made_if : {X Y : Type 0} → (X → Option Y) → (List ℕ → Option (X × List ℕ)) → List ℕ → Option (Y × List ℕ)
made_if make field bytes = do
  x ← field bytes
  y ← make x.0
  Some (y, x.1)

-- a field whose value is made from that of another
abbrev pub made : {X Y : Type 0} → (X → Y) → (List ℕ → Option (X × List ℕ)) → List ℕ → Option (Y × List ℕ)
made make field bytes = made_if (λ x. Some (make x)) field bytes

-- a field read n times, one after another
unfoldable pub list_at : {X : Type 0} → (List ℕ → Option (X × List ℕ)) → ℕ → List ℕ → Option (List X × List ℕ)
list_at field zero bytes = Some ([], bytes)
list_at field (suc n) bytes = do
  first ← field bytes
  others ← list_at field n first.1
  Some (first.0 ∷ others.0, others.1)

-- ---- numbers and pieces

abbrev pub number_at : Width → List ℕ → Option (ℕ × List ℕ)
number_at w bytes =
    only_if (nat_le (byte_len w) (length bytes)) (from_be_bytes w (take (byte_len w) bytes), drop (byte_len w) bytes)

abbrev pub four_at : List ℕ → Option (ℕ × List ℕ)
four_at = number_at w32

abbrev pub eight_at : List ℕ → Option (ℕ × List ℕ)
eight_at = number_at w64

abbrev pub piece_at : ℕ → List ℕ → Option (List ℕ × List ℕ)
piece_at n bytes = only_if (nat_le n (length bytes)) (take n bytes, drop n bytes)

abbrev pub only : List ℕ → ℕ
only piece = slice_index_or piece 0 0

-- one byte
unfoldable pub byte_at : List ℕ → Option (ℕ × List ℕ)
byte_at bytes = made only (piece_at 1) bytes

unfoldable pub fours_at : List ℕ → Option ((ℕ × ℕ) × List ℕ)
fours_at bytes = both four_at (λ _. four_at) bytes

unfoldable pub eights_at : List ℕ → Option ((ℕ × ℕ) × List ℕ)
eights_at bytes = both eight_at (λ _. eight_at) bytes

-- what follows a number, without the number
abbrev pub second : {X Y : Type 0} → X × Y → Y
second p = p.1

-- bytes after their number
unfoldable pub sized_at : List ℕ → Option (List ℕ × List ℕ)
sized_at bytes = made second (both four_at piece_at) bytes

-- a list after its length
unfoldable pub counted_at : {X : Type 0} → (List ℕ → Option (ℕ × List ℕ)) → (List ℕ → Option (X × List ℕ)) → List ℕ
    → Option (List X × List ℕ)
counted_at number_at field bytes = made second (both number_at (list_at field)) bytes

-- ---- efforts

abbrev pub effort_from : ℕ × ℕ → Option (Option Effort)
effort_from n =
    if n.0 == 0 then only_if (n.1 == 0) None else Some (Some (record { ran = n.0; moved = n.1 }))

unfoldable pub effort_at : List ℕ → Option (Option Effort × List ℕ)
effort_at bytes = made_if effort_from eights_at bytes

unfoldable pub efforts_at : List ℕ → Option ((Option Effort × Option Effort) × List ℕ)
efforts_at bytes = both effort_at (λ _. effort_at) bytes
