-- Past a full circle the candidates come again.
use Rattle.std.proofs.Common.{◌≡◌, ℕ, zero, suc, ◌+◌, ◌-◌, ◌%◌, ◌<◌, Bool, [], ◌∷◌, refl, sym, ◌∙◌, ap, arith}
use Rattle.std.specs.Prelude.{Option, Some, None, find}
use Rattle.std.specs.Option.{option_or}
use Rattle.std.proofs.Math.Nat.{add-mod_left, add-mod-mod, mod-eq_of_lt, mod-lt, mod-mod, mod_self}
use Rattle.std.proofs.lemmas.List.Folds.{find-append}
use Rattle.tierra_model.specs.declared.searching.Way.{Way}
use Rattle.tierra_model.specs.declared.searching.Way.TheVariants.{Backward, Forward, Outward}
use Rattle.tierra_model.specs.Ring.{backward, forward}
use Rattle.tierra_model.specs.Search.{at_distance, candidates}
use Rattle.template_search.specs.Reaching.{Reaches}

mod-shift : (n a j k : ℕ) → j % n ≡ k % n → (a + j) % n ≡ (a + k) % n
mod-shift n a j k e = sym (add-mod-mod a j n) ∙ ap (λ (x : ℕ). (a + x) % n) e ∙ add-mod-mod a k n

neither : {X : Type 0} (a b : Option X) → option_or a b ≡ None → (a ≡ None) × (b ≡ None)
neither None b e = (refl, e)
neither (Some x) b e = (let k : Some x ≡ None = e in cc)

both_none : {X : Type 0} (a b : Option X) → a ≡ None → b ≡ None → option_or a b ≡ None
both_none {X} a b e f = ap (λ (o : Option X). option_or o b) e ∙ f

module _ (n ip t : ℕ) where
  same_ahead : (j k : ℕ) → j % n ≡ k % n → forward n ip (t + (j + 1)) ≡ forward n ip (t + (k + 1))
  same_ahead j k e =
      let left : ip + (t + (j + 1)) ≡ ip + t + 1 + j = omega arith in
      let right : ip + t + 1 + k ≡ ip + (t + (k + 1)) = omega arith in
      ap (λ (x : ℕ). x % n) left ∙ mod-shift n (ip + t + 1) j k e ∙ ap (λ (x : ℕ). x % n) right

  abbrev behind : ℕ → ℕ
  behind x = (ip + 1 + (n - x)) % n

  same_behind : (j k : ℕ) → j % n ≡ k % n → backward n (ip + 1) (t + (j + 1)) ≡ backward n (ip + 1) (t + (k + 1))
  same_behind j k e =
      let left : t + (j + 1) ≡ t + 1 + j = omega arith in
      let right : t + 1 + k ≡ t + (k + 1) = omega arith in
      ap behind (ap (λ (x : ℕ). x % n) left ∙ mod-shift n (t + 1) j k e ∙ ap (λ (x : ℕ). x % n) right)

  -- the places at distance 1 are those past a full circle
  pub reaches_again : (a b : ℕ) → 0 < n → Reaches n ip t 1 a b → Reaches n ip t (n + 1) a b
  reaches_again a b h r =
      let round : 0 % n ≡ n % n = mod-eq_of_lt h ∙ sym (mod_self n) in
      record {
        ahead = r.ahead ∙ same_ahead 0 n round;
        behind = r.behind ∙ same_behind 0 n round;
      }

  same_candidates : (way : Way) (j k : ℕ) → j % n ≡ k % n
      → at_distance n ip t way (j + 1) ≡ at_distance n ip t way (k + 1)
  same_candidates Outward j k e = λ i. same_ahead j k e i ∷ same_behind j k e i ∷ []
  same_candidates Forward j k e = λ i. same_ahead j k e i ∷ []
  same_candidates Backward j k e = λ i. same_behind j k e i ∷ []

  module _ (way : Way) (f : ℕ → Bool) where
    abbrev NoneAt : ℕ → Type 0
    NoneAt d = find f (at_distance n ip t way d) ≡ None

    abbrev NoneFrom : ℕ → ℕ → Type 0
    NoneFrom k d = find f (candidates n ip t way k d) ≡ None

    none_at_first : (k d : ℕ) → NoneFrom (suc k) d → NoneAt d × NoneFrom k (d + 1)
    unfolding candidates
    none_at_first k d e =
        neither _ _ (sym (find-append f (at_distance n ip t way d) (candidates n ip t way k (d + 1))) ∙ e)

    none_at_each : (k d j : ℕ) → NoneFrom k d → j < k → NoneAt (d + j)
    none_at_each zero d j e h = absurd (omega arith)
    none_at_each (suc k) d zero e h = (let here : d + 0 ≡ d = omega arith in rw here (none_at_first k d e).0)
    none_at_each (suc k) d (suc j) e h =
        let later : d + suc j ≡ d + 1 + j = omega arith in
        let within : j < k = omega arith in
        rw later (none_at_each k (d + 1) j (none_at_first k d e).1 within)

    none_at_all : (k d : ℕ) → ((j : ℕ) → NoneAt (d + j)) → NoneFrom k d
    unfolding candidates
    none_at_all zero d e = refl
    none_at_all (suc k) d e =
        let here : NoneAt d = (let s : d ≡ d + 0 = omega arith in rw s (e 0)) in
        let later : (j : ℕ) → NoneAt (d + 1 + j) =
        λ j. (let s : d + 1 + j ≡ d + suc j = omega arith in rw s (e (suc j))) in
        find-append f (at_distance n ip t way d) (candidates n ip t way k (d + 1))
        ∙ both_none _ _ here (none_at_all k (d + 1) later)

    -- what no candidate of a full circle is, no later one is
    pub none_comes_later : (k : ℕ) → 0 < n → NoneFrom n 1 → NoneFrom k (n + 1)
    none_comes_later k h e = none_at_all k (n + 1) later
      where
        later : (j : ℕ) → NoneAt (n + 1 + j)
        later j =
            let first : n + 1 + j ≡ n + j + 1 = omega arith in
            let last : j % n + 1 ≡ 1 + j % n = omega arith in
            let round : (n + j) % n ≡ j % n % n = add-mod_left n j ∙ sym (mod-mod j n) in
            ap (λ (d : ℕ). find f (at_distance n ip t way d)) first
            ∙ ap (find f) (same_candidates way (n + j) (j % n) round)
            ∙ ap (λ (d : ℕ). find f (at_distance n ip t way d)) last
            ∙ none_at_each n 1 (j % n) e (mod-lt j h)
