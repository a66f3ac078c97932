-- A queue in which nobody stands twice, and its changes.
use Rattle.std.proofs.Common.{◌≡◌, ℕ, ◌+◌, ◌≤◌, List, [], ◌∷◌, ◌++◌, refl, ap, ◌∙◌, arith, inl, inr}
use Rattle.std.proofs.lemmas.Bool.Decides.{nat_tests, eqb_tells}
use Rattle.std.specs.Prelude.{filter, not, ◌==◌}
use Rattle.tierra_model.specs.Counting.{one_if, sum_of, times_in}
use Rattle.tierra_model.specs.Queue.{error_move, good_move}
use Rattle.tierra_model.proofs.Owners.{sum_of-append}
use Rattle.tierra_model.proofs.Yards.{sum_of-error_move, sum_of-good_move}
use Rattle.reaper_queue.specs.Reaper.{ids_of, is_of, errors_of, with_error}
use Rattle.reaper_queue.specs.Standing.{IsOnce}

times-sum : (xs : List (ℕ × ℕ)) (id : ℕ) → times_in (ids_of xs) id ≡ sum_of (λ x. one_if (x.0 == id)) xs
times-sum [] id = refl
times-sum (x ∷ xs) id = ap (λ (n : ℕ). one_if (x.0 == id) + n) (times-sum xs id)

-- as many of each in one list as in the other
once_as : (xs ys : List (ℕ × ℕ)) → ((id : ℕ) → sum_of (λ x. one_if (x.0 == id)) ys ≡ sum_of (λ x. one_if (x.0 == id)) xs) → IsOnce xs → IsOnce ys
once_as xs ys same once id =
    let before : times_in (ids_of xs) id ≤ 1 = once id in
    omega (arith, times-sum xs id, times-sum ys id, same id)

pub once_error_move : (id : ℕ) (xs : List (ℕ × ℕ)) → IsOnce xs → IsOnce (error_move (is_of id) errors_of xs)
once_error_move id xs = once_as xs (error_move (is_of id) errors_of xs) (λ k. sum_of-error_move (λ x. one_if (x.0 == k)) (is_of id) errors_of xs)

pub once_good_move : (id : ℕ) (xs : List (ℕ × ℕ)) → IsOnce xs → IsOnce (good_move (is_of id) errors_of xs)
once_good_move id xs = once_as xs (good_move (is_of id) errors_of xs) (λ k. sum_of-good_move (λ x. one_if (x.0 == k)) (is_of id) errors_of xs)

pub ids_of-with_error : (id : ℕ) (xs : List (ℕ × ℕ)) → ids_of (with_error id xs) ≡ ids_of xs
ids_of-with_error id [] = refl
ids_of-with_error id (x ∷ xs) = grind (arith, ids_of-with_error id xs)

pub once_push : (xs : List (ℕ × ℕ)) (id errors : ℕ) → IsOnce xs → times_in (ids_of xs) id ≡ 0 → IsOnce (xs ++ (id, errors) ∷ [])
once_push xs id errors once absent k =
    let more = sum_of-append (λ (x : ℕ × ℕ). one_if (x.0 == k)) xs ((id, errors) ∷ []) in
    let before : times_in (ids_of xs) k ≤ 1 = once k in
    elim (eqb_tells k id) [
      | inl e ↦ (let gone : times_in (ids_of xs) k ≡ 0 = ap (times_in (ids_of xs)) e.1 ∙ absent in
          grind (arith, nat_tests, more, times-sum xs k, times-sum (xs ++ (id, errors) ∷ []) k))
      | inr e ↦ grind (arith, nat_tests, more, times-sum xs k, times-sum (xs ++ (id, errors) ∷ []) k)
    ]

filter_fewer : (id : ℕ) (xs : List (ℕ × ℕ)) (k : ℕ) → times_in (ids_of (filter (λ x. not (x.0 == id)) xs)) k ≤ times_in (ids_of xs) k
filter_fewer id [] k = omega arith
filter_fewer id (x ∷ xs) k = grind (arith, nat_tests, filter_fewer id xs k)

pub once_filter : (id : ℕ) (xs : List (ℕ × ℕ)) → IsOnce xs → IsOnce (filter (λ x. not (x.0 == id)) xs)
once_filter id xs once k =
    let before : times_in (ids_of xs) k ≤ 1 = once k in
    omega (arith, filter_fewer id xs k)
