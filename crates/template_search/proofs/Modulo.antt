-- Places in the ring.
use Rattle.std.proofs.Common.{◌≡◌, ℕ, ◌+◌, ◌-◌, ◌%◌, ◌<◌, ◌≤◌, ◌∙◌, ap, sym}
use Rattle.std.proofs.Math.Nat.{mod-add-mod, mod-eq-sub-mod, mod-eq_of_lt}

pub mod-step : (n p q : ℕ) → p % n ≡ q % n → (p + 1) % n ≡ (q + 1) % n
mod-step n p q e = sym (mod-add-mod p n 1) ∙ ap (λ (k : ℕ). (k + 1) % n) e ∙ mod-add-mod q n 1

-- a number of less than twice the size
pub mod_once : (k n : ℕ) → n ≤ k → k - n < n → k - n ≡ k % n
mod_once k n past near = sym (mod-eq-sub-mod past ∙ mod-eq_of_lt near)
