-- A search finds the matching candidate of the least distance.
use Rattle.std.proofs.Common.{◌≡◌, ℕ, zero, suc, ◌+◌, ◌%◌, ◌<◌, ◌≤◌, Bool, true, false, cond, List, refl, sym, ap, subst, arith, inl, inr, length}
use Rattle.std.specs.Prelude.{Some, None, Option, find, nat_lt, ◌&&◌}
use Rattle.std.proofs.lemmas.Bool.{and_parts}
use Rattle.std.proofs.lemmas.Bool.Decides.{nat_tests, eqb_tells}
use Rattle.tierra_model.specs.declared.searching.Way.{Way}
use Rattle.tierra_model.specs.declared.searching.Way.TheVariants.{Outward, Forward, Backward}
use Rattle.tierra_model.specs.declared.searching.Found.TheVariants as found
use Rattle.tierra_model.specs.Search.{template, is_complement, candidates, found_at, found_by}
use Rattle.tierra_model.proofs.WalkFinds.{search-answer}
use Rattle.tierra_model.specs.Nearest.{Side, OnForward, OnBackward, is_allowed, candidate, IsBefore, IsFound, NearestIsFound}

-- ---- the first hit of the distances from d on

module _ (hit : Side → ℕ → Bool) (cand : Side → ℕ → ℕ) where
  abbrev pick : ℕ → ℕ → Option ℕ
  pick zero d = None
  pick (suc k) d = cond (hit OnForward d) (Some (cand OnForward d)) (cond (hit OnBackward d) (Some (cand OnBackward d)) (pick k (d + 1)))

  abbrev Picks : ℕ → ℕ → Option ℕ → Type 0
  Picks k d None = (s : Side) (c : ℕ) → d ≤ c → c < d + k → hit s c ≡ false
  Picks k d (Some p) =
      (s : Side) × (c : ℕ) × (d ≤ c) × (c < d + k) × (hit s c ≡ true) × (p ≡ cand s c)
      × ((r : Side) (b : ℕ) → IsBefore r b s c → d ≤ b → hit r b ≡ false)

  none_at : (d : ℕ) → hit OnForward d ≡ false → hit OnBackward d ≡ false → (s : Side) → hit s d ≡ false
  none_at d e f OnForward = e
  none_at d e f OnBackward = f

  before_forward : (d : ℕ) (r : Side) (b : ℕ) → IsBefore r b OnForward d → d ≤ b → hit r b ≡ false
  before_forward d OnForward b i l = absurd (omega arith)
  before_forward d OnBackward b i l = absurd (omega arith)

  before_backward : (d : ℕ) → hit OnForward d ≡ false → (r : Side) (b : ℕ) → IsBefore r b OnBackward d → d ≤ b → hit r b ≡ false
  before_backward d e OnForward b i l = subst (λ c. hit OnForward c ≡ false) (omega arith) e
  before_backward d e OnBackward b i l = absurd (omega arith)

  picks : (k d : ℕ) → Picks k d (pick k d)
  picks zero d = λ s c h l. absurd (omega arith)
  picks (suc k) d = go (hit OnForward d) (hit OnBackward d) refl refl (pick k (d + 1)) (picks k (d + 1))
    where
      go : (a b : Bool) → hit OnForward d ≡ a → hit OnBackward d ≡ b → (o : Option ℕ) → Picks k (d + 1) o
          → Picks (suc k) d (cond a (Some (cand OnForward d)) (cond b (Some (cand OnBackward d)) o))
      go true b e f o h = (OnForward, d, omega arith, omega arith, e, refl, λ r c i l. before_forward d r c i l)
      go false true e f o h = (OnBackward, d, omega arith, omega arith, f, refl, λ r c i l. before_backward d e r c i l)
      go false false e f None h = λ s c l u. elim (eqb_tells d c) [
        | inl q ↦ subst (λ j. hit s j ≡ false) q.1 (none_at d e f s)
        | inr q ↦ h s c (let n = q.1 in grind arith) (omega arith)
      ]
      go false false e f (Some p) h = (
        h.0,
        h.1,
        omega (arith, h.2),
        omega (arith, h.3),
        h.4,
        h.5,
        λ r b i l. elim (eqb_tells d b) [
          | inl q ↦ subst (λ j. hit r j ≡ false) q.1 (none_at d e f r)
          | inr q ↦ h.6 r b i (let n = q.1 in grind arith)
        ],
      )

-- ---- the candidates of a search

abbrev hits : ℕ → (ℕ → ℕ) → ℕ → List ℕ → Way → Side → ℕ → Bool
hits n cells ip vs way side d = is_allowed way side && is_complement n cells vs (candidate n ip (length vs) side d)

find-pick : (n : ℕ) (cells : ℕ → ℕ) (ip : ℕ) (vs : List ℕ) (way : Way) (k d : ℕ)
    → find (is_complement n cells vs) (candidates n ip (length vs) way k d) ≡ pick (hits n cells ip vs way) (candidate n ip (length vs)) k d
unfolding candidates
find-pick n cells ip vs way zero d = refl
find-pick n cells ip vs Outward (suc k) d =
    let a : ℕ = candidate n ip (length vs) OnForward d in
    let b : ℕ = candidate n ip (length vs) OnBackward d in
    ap (λ (o : Option ℕ). cond (is_complement n cells vs a) (Some a) (cond (is_complement n cells vs b) (Some b) o)) (find-pick n cells ip vs Outward k (d + 1))
find-pick n cells ip vs Forward (suc k) d =
    let a : ℕ = candidate n ip (length vs) OnForward d in
    ap (λ (o : Option ℕ). cond (is_complement n cells vs a) (Some a) o) (find-pick n cells ip vs Forward k (d + 1))
find-pick n cells ip vs Backward (suc k) d =
    let b : ℕ = candidate n ip (length vs) OnBackward d in
    ap (λ (o : Option ℕ). cond (is_complement n cells vs b) (Some b) o) (find-pick n cells ip vs Backward k (d + 1))

never : (a b : Bool) → (a && b) ≡ false → a ≡ true → b ≡ true → ⊥
never true true e h k = cc
never true false e h k = cc
never false b e h k = cc

nearest-found_by : (n : ℕ) (cells : ℕ → ℕ) (ip : ℕ) (way : Way) (limit min : ℕ) → IsFound n cells ip way limit min (found_by n cells ip way limit min)
unfolding found_by
nearest-found_by n cells ip way limit min = go (nat_lt (length vs) min) refl
  where
    vs : List ℕ
    vs = template n cells 10 (ip + 1)

    hit : Side → ℕ → Bool
    hit = hits n cells ip vs way

    cand : Side → ℕ → ℕ
    cand = candidate n ip (length vs)

    found_is : (o : Option ℕ) → min ≤ length vs → Picks hit cand limit 1 o → IsFound n cells ip way limit min (found_at n (length vs) o)
    found_is None l h = (l, λ s d m. never (is_allowed way s) (is_complement n cells vs (cand s d)) (h s d m.1 (omega (arith, m.2))) m.0 m.3)
    found_is (Some p) l h =
        let is = and_parts (is_allowed way h.0) (is_complement n cells vs (cand h.0 h.1)) h.4 in (
          l,
          (
            h.0,
            h.1,
            (is.0, h.2, omega (arith, h.3), is.1),
            ap (λ (q : ℕ). (q + length vs) % n) h.5,
            λ s c i m. never (is_allowed way s) (is_complement n cells vs (cand s c)) (h.6 s c i m.1) m.0 m.3,
          ),
        )

    go : (b : Bool) → nat_lt (length vs) min ≡ b
        → IsFound n cells ip way limit min (cond b found.Short
        (found_at n (length vs) (find (is_complement n cells vs) (candidates n ip (length vs) way limit 1))))
    go true e = grind (arith, nat_tests)
    go false e =
        subst (λ o. IsFound n cells ip way limit min (found_at n (length vs) o)) (sym (find-pick n cells ip vs way limit 1))
        (found_is (pick hit cand limit 1) (grind (arith, nat_tests)) (picks hit cand limit 1))

-- the looks find what the first of the candidates is
pub nearest_is_found : NearestIsFound
nearest_is_found n cells ip way limit min =
    subst (IsFound n cells ip way limit min) (sym (search-answer n cells ip way limit min)) (nearest-found_by n cells ip way limit min)
