-- Where a block finds room.
use Rattle.std.proofs.Common.{◌≡◌, ℕ, ◌+◌, ◌*◌, ◌<◌, ◌≤◌, Bool, true, false, ap, arith}
use Rattle.std.proofs.lemmas.Bool.Decides.{nat_tests}
use Rattle.std.specs.Prelude.{None, Option, nat_le}
use Rattle.tierra_model.specs.declared.parameters.Settings.{Settings}
use Rattle.tierra_model.specs.Room.{filled, first_fit, room_for}

pub room-there : (s : Settings) (owned : ℕ → Bool) (size : ℕ) → (filled s.soup_size owned + size) * 100 ≤ s.fill_percent * s.soup_size
    → room_for s owned size ≡ first_fit s.soup_size owned size
room-there s owned size h =
    let test : nat_le ((filled s.soup_size owned + size) * 100) (s.fill_percent * s.soup_size) ≡ true = is_le _ _ h in
    ap (λ (b : Bool). let o : Option ℕ = elim b [ true ↦ first_fit s.soup_size owned size | false ↦ None ] in o) test
  where
    is_le : (m n : ℕ) → m ≤ n → nat_le m n ≡ true
    is_le m n h = grind (arith, nat_tests)

pub room-gone : (s : Settings) (owned : ℕ → Bool) (size : ℕ) → s.fill_percent * s.soup_size < (filled s.soup_size owned + size) * 100
    → room_for s owned size ≡ None
room-gone s owned size h =
    let test : nat_le ((filled s.soup_size owned + size) * 100) (s.fill_percent * s.soup_size) ≡ false = is_more _ _ h in
    ap (λ (b : Bool). let o : Option ℕ = elim b [ true ↦ first_fit s.soup_size owned size | false ↦ None ] in o) test
  where
    is_more : (m n : ℕ) → n < m → nat_le m n ≡ false
    is_more m n h = grind (arith, nat_tests)
