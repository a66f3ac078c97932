-- A template is the longest run of nops.
use Rattle.std.proofs.Common.{◌≡◌, ℕ, zero, suc, ◌+◌, ◌%◌, ◌<◌, ◌≤◌, Bool, true, false, List, [], ◌∷◌, cond, refl, ap, arith, get_or, length}
use Rattle.std.specs.Prelude.{nat_lt}
use Rattle.std.proofs.lemmas.Bool.Decides.{nat_tests}
use Rattle.tierra_model.specs.Search.{template}
use Rattle.tierra_model.specs.Nearest.{AreNops, IsLongest, TemplateIsLongest}

module _ (n : ℕ) (cells : ℕ → ℕ) where
  further : (p j : ℕ) → cells ((p + suc j) % n) ≡ cells ((p + 1 + j) % n)
  further p j = ap (λ (q : ℕ). cells (q % n)) (omega arith)

  first : (p : ℕ) → cells ((p + 0) % n) ≡ cells (p % n)
  first p = ap (λ (q : ℕ). cells (q % n)) (omega arith)

  -- a nop, and the longest run after it
  one_more : (k p : ℕ) (vs : List ℕ) → cells (p % n) < 2 → IsLongest n cells k (p + 1) vs → IsLongest n cells (suc k) p (cells (p % n) ∷ vs)
  one_more k p vs nop rest =
      record {
        few = (let h : length vs ≤ k = rest.few in omega arith);
        nops = nops;
        held = held;
        most = most;
      }
    where
      nops : AreNops n cells p (suc (length vs))
      nops zero h = omega (arith, first p)
      nops (suc j) h = (let e = further p j in let l : cells ((p + 1 + j) % n) < 2 = rest.nops j (omega arith) in omega arith)

      held : (j : ℕ) → j < suc (length vs) → get_or (cells (p % n) ∷ vs) j 0 ≡ cells ((p + j) % n)
      held zero h = omega (arith, first p)
      held (suc j) h = (let e = further p j in let l : get_or vs j 0 ≡ cells ((p + 1 + j) % n) = rest.held j (omega arith) in omega arith)

      most : (m : ℕ) → m ≤ suc k → AreNops n cells p m → m ≤ suc (length vs)
      most zero few are = omega arith
      most (suc m) few are =
          let l : m ≤ length vs =
          rest.most m (omega arith) (λ j h. (let e = further p j in let l : cells ((p + suc j) % n) < 2 = are (suc j) (omega arith) in omega arith)) in
          omega arith

  -- no nop, and so no run
  no_more : (k p : ℕ) → 2 ≤ cells (p % n) → IsLongest n cells k p []
  no_more k p other =
      record {
        few = omega arith;
        nops = λ j h. absurd (omega arith);
        held = λ j h. absurd (omega arith);
        most = most;
      }
    where
      most : (m : ℕ) → m ≤ k → AreNops n cells p m → m ≤ 0
      most zero few are = omega arith
      most (suc m) few are = (let e = first p in let l : cells ((p + 0) % n) < 2 = are 0 (omega arith) in absurd (omega arith))

  longest : (k p : ℕ) → IsLongest n cells k p (template n cells k p)
  unfolding template
  longest zero p =
      record {
        few = omega arith;
        nops = λ j h. absurd (omega arith);
        held = λ j h. absurd (omega arith);
        most = λ m few are. few;
      }
  longest (suc k) p = go (nat_lt (cells (p % n)) 2) refl (longest k (p + 1))
    where
      go : (b : Bool) → nat_lt (cells (p % n)) 2 ≡ b → IsLongest n cells k (p + 1) (template n cells k (p + 1))
          → IsLongest n cells (suc k) p (cond b (cells (p % n) ∷ template n cells k (p + 1)) [])
      go true e rest = one_more k p (template n cells k (p + 1)) (grind (arith, nat_tests)) rest
      go false e rest = no_more (suc k) p (grind (arith, nat_tests))

pub template_is_longest : TemplateIsLongest
template_is_longest n cells k p = longest n cells k p
