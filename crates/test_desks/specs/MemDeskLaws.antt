-- A desk in memory is lawful: its moments end with the one that is now.
use Rattle.std.specs.Prelude.{◌≡◌, ℕ, ◌≤◌, List, length, take, Option, Some, unwrap_or}
use Rattle.std.proofs.Common.{sym, ap, subst, arith}
use Rattle.std.proofs.Math.Seq.{take-length}
use Rattle.desk_io.specs.Desk.{IsLawful, IsNow}
use Rattle.test_desks.specs.MemDesk.{MemDeskState, after_calls, now, told_of, moment_of, moments_of, state_of, IsAt}
use Rattle.test_desks.specs.FitSteps.{read_is_left}

some_is : (xs ys : List ℕ) → Some xs ≡ Some ys → ys ≡ xs
some_is xs ys e = let f : Option (List ℕ) → List ℕ = λ o. unwrap_or o xs in sym (ap f e)

-- now is one of the moments since an earlier one
counts_now : (d : MemDeskState) (t : ℕ) (image text : List ℕ) → t ≤ moment_of d
    → IsNow (state_of d) image text → moments_of d t image text
counts_now d t image text le is =
    let here : IsAt (now d) image text = record { leaves = is.0; told = some_is (told_of d) text is.1 } in
    record {
      k = length d.calls;
      from = le;
      until = omega arith;
      at = subst (λ calls. IsAt (after_calls d.image calls) image text) (sym (take-length d.calls)) here;
    }

-- and since now there is no other
only_now : (d : MemDeskState) (image text : List ℕ) → moments_of d (moment_of d) image text
    → IsNow (state_of d) image text
only_now d image text since =
    let k_is : since.k ≡ length d.calls = omega arith in
    let last = subst (λ k. IsAt (after_calls d.image (take k d.calls)) image text) k_is since.at in
    let here = subst (λ calls. IsAt (after_calls d.image calls) image text) (take-length d.calls) last in
    (here.leaves, ap (λ t. Some t) (sym here.told))

pub lawful : (d : MemDeskState) → IsLawful (state_of d)
lawful d = record {
  counts_now = counts_now d;
  only_now = only_now d;
  leaves_bytes = λ image leaves. leaves.0;
  read_is_left = read_is_left d;
}
