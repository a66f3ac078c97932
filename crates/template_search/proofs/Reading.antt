-- Reading a template, cell by cell.
use Rattle.std.proofs.Common.{◌≡◌, ℕ, zero, suc, ◌+◌, ◌-◌, ◌%◌, ◌<◌, ◌≤◌, Bool, true, false, List, [], ◌∷◌, ◌++◌, refl, sym, ◌∙◌, ap, arith, append-nil}
use Rattle.std.proofs.Common.{append_assoc, add-one, length, length-set, take}
use Rattle.std.specs.Prelude.{nat_lt, slice_set, if◌then◌else◌}
use Rattle.std.proofs.Math.Nat.{mod-eq_of_lt, mod-mod}
use Rattle.std.proofs.Math.Seq.{take-suc-set}
use Rattle.std.proofs.lemmas.Bool.Decides.{nat_tests}
use Rattle.tierra_model.specs.Look.{Answer, Look, LookAt, ◌>>=◌, pass, Passes}
use Rattle.tierra_model.specs.Search.{read_template}
use Rattle.template_search.proofs.Passing.{pass-bind}
use Rattle.template_search.proofs.Modulo.{mod-step}

pub still_ten : (kept : List ℕ) (len cell : ℕ) → length kept ≡ 10 → length (slice_set kept len cell) ≡ 10
still_ten kept len cell h = length-set kept len cell ∙ h

-- where a template begins counts only as a place of the ring
pub read_template-place : (n k p q : ℕ) → p % n ≡ q % n → read_template n k p ≡ read_template n k q
unfolding read_template
read_template-place n zero p q e = refl
read_template-place n (suc k) p q e =
    let next = read_template-place n k (p + 1) (q + 1) (mod-step n p q e) in
    λ i. LookAt (e i) (λ v. if nat_lt v 2 then next i >>= (λ vs. Answer (v ∷ vs)) else Answer [])

module _ {S : Type 0} (cells : S → ℕ → ℕ) (looked : S → ℕ → S) (n : ℕ) where
  -- one more cell, where it holds a nop
  read_one : (k place : ℕ) (s : S) → place < n → cells s place < 2
      → pass cells looked (read_template n (suc k) place) s
      ≡ (let r = pass cells looked (read_template n k ((place + 1) % n)) (looked s place) in (r.0, cells s place ∷ r.1))
  unfolding read_template
  read_one k place s h c =
      let there : place % n ≡ place = mod-eq_of_lt h in
      let yes : nat_lt (cells s place) 2 ≡ true = grind (arith, nat_tests) in
      let more : Look (List ℕ) = read_template n k ((place + 1) % n) in
      ap (λ (q : ℕ). pass cells looked (if nat_lt (cells s q) 2 then read_template n k (place + 1) >>= (λ vs. Answer (cells s q ∷ vs))
      else Answer []) (looked s q)) there
      ∙ ap (λ (b : Bool). pass cells looked (if b then read_template n k (place + 1) >>= (λ vs. Answer (cells s place ∷ vs)) else Answer []) (looked s place))
      yes
      ∙ ap (λ (t : Look (List ℕ)). pass cells looked (t >>= (λ vs. Answer (cells s place ∷ vs))) (looked s place))
      (read_template-place n k (place + 1) ((place + 1) % n) (sym (mod-mod (place + 1) n)))
      ∙ pass-bind cells looked more (λ vs. Answer (cells s place ∷ vs)) (looked s place)

  read_none : (k place : ℕ) (s : S) → place < n → 2 ≤ cells s place → pass cells looked (read_template n (suc k) place) s ≡ (looked s place, [])
  unfolding read_template
  read_none k place s h c =
      let there : place % n ≡ place = mod-eq_of_lt h in
      let no : nat_lt (cells s place) 2 ≡ false = grind (arith, nat_tests) in
      ap (λ (q : ℕ). pass cells looked (if nat_lt (cells s q) 2 then read_template n k (place + 1) >>= (λ vs. Answer (cells s q ∷ vs))
      else Answer []) (looked s q)) there
      ∙ ap (λ (b : Bool). pass cells looked (if b then read_template n k (place + 1) >>= (λ vs. Answer (cells s place ∷ vs)) else Answer []) (looked s place))
      no

  module _ (start : ℕ) (s0 : S) where
    abbrev whole : S × List ℕ
    whole = pass cells looked (read_template n 10 start) s0

    abbrev rest : ℕ → ℕ → S → S × List ℕ
    rest len place s = pass cells looked (read_template n (10 - len) place) s

    -- The first len of the cells kept, and what is read from the place on, make the template.
    pub record ReadsOn (len : ℕ) (kept : List ℕ) (place : ℕ) (s : S) : Type 0 where
      pub same : ((rest len place s).0, take len kept ++ (rest len place s).1) ≡ whole

    more : (len place : ℕ) (s : S) → len < 10 → rest len place s ≡ pass cells looked (read_template n (suc (10 - (len + 1))) place) s
    more len place s h =
        let e : 10 - len ≡ suc (10 - (len + 1)) = omega arith in
        ap (λ (k : ℕ). pass cells looked (read_template n k place) s) e

    pub read_goes_on : (len : ℕ) (kept : List ℕ) (place next cell : ℕ) (s u : S) → len < 10 → length kept ≡ 10 → place < n → next ≡ (place + 1) % n
        → u ≡ looked s place → cell ≡ cells s place → cell < 2 → ReadsOn len kept place s → ReadsOn (len + 1) (slice_set kept len cell) next u
    read_goes_on len kept place next cell s u h ten p step seen held c r =
        let e = more len place s h ∙ read_one (10 - (len + 1)) place s p (omega arith) in
        let long : len < length kept = omega arith in
        let front : take (len + 1) (slice_set kept len cell) ≡ take len kept ++ cell ∷ [] = rw add-one (take-suc-set kept len cell long) in
        record {
          same =
              (λ i. let x = rest (len + 1) (step i) (seen i) in (x.0, front i ++ x.1))
              ∙ (λ i. let x = rest (len + 1) ((place + 1) % n) (looked s place) in (x.0, (append_assoc (take len kept) (held i ∷ []) x.1) i))
              ∙ ap (λ (x : S × List ℕ). (x.0, take len kept ++ x.1)) (sym e)
              ∙ r.same;
        }

    pub read_stops : (len : ℕ) (kept : List ℕ) (place : ℕ) (s u : S) → len < 10 → place < n → u ≡ looked s place → 2 ≤ cells s place
        → ReadsOn len kept place s → Passes cells looked (read_template n 10 start) s0 u (take len kept)
    read_stops len kept place s u h p seen c r =
        sym r.same
        ∙ ap (λ (x : S × List ℕ). (x.0, take len kept ++ x.1)) (more len place s h ∙ read_none (10 - (len + 1)) place s p c)
        ∙ (λ i. (sym seen i, append-nil (take len kept) i))

    pub read_ends : (len place : ℕ) (kept : List ℕ) (s : S) → len ≡ 10 → ReadsOn len kept place s
        → Passes cells looked (read_template n 10 start) s0 s (take 10 kept)
    unfolding read_template
    read_ends len place kept s h r =
        let none : 10 - len ≡ 0 = omega arith in
        sym r.same
        ∙ (λ i. let x = pass cells looked (read_template n (none i) place) s in (x.0, take (h i) kept ++ x.1))
        ∙ (λ i. (s, append-nil (take 10 kept) i))

pub ruleset reading = (still_ten, read_goes_on, read_stops, read_ends)
