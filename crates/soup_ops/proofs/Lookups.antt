-- Look-ups in a list.
use Rattle.std.proofs.Common.{◌≡◌, ◌↔◌, ℕ, Bool, Bor, List, length, Option, IsNone, None, Some, find, position, slice_get, arith, refl, sym}
use Rattle.std.specs.Option.{option_copied}
use Rattle.std.specs.Slice.{IsItemAt}
use Rattle.std.proofs.lemmas.Grind.{common_steps}
use Rattle.std.proofs.lemmas.List.Folds.{find_at}
use Rattle.std.proofs.lemmas.Option.{gets, slice_get_past, slice_get_read}

-- what `get` lends, copied
pub option_copied_item : {A : Type 0} (xs : List A) (i : ℕ) (r : Option (Bor A)) → IsItemAt xs i r → option_copied r ≡ slice_get xs i
option_copied_item xs i None h = sym (slice_get_past xs i h.3)
option_copied_item xs i (Some x) h = sym (slice_get_read xs (length xs) i x.now refl h.3.0 h.1)

-- nothing is found exactly where there is no place
pub find_none : {A : Type 0} (p : A → Bool) (xs : List A) → IsNone (find p xs) ↔ (position p xs ≡ None)
find_none p xs = grind (arith, common_steps, gets, find_at)
