-- The moments of a desk of which only the printed text is told, over one call.
use Rattle.std.proofs.Common.{◌≡◌, ◌⊎◌, ◌∙◌, inl, inr, refl, sym, ap, subst, arith, ⊎_elim, ℕ, ◌+◌, ◌-◌, ◌≤◌, ◌<◌, List, ◌++◌, length, take, Option, None, Some}
use Rattle.std.proofs.Common.{Result, Ok, Err, OnOk, OnErr, IsOk, length-append}
use Rattle.std.proofs.lemmas.List.{length-take, take-append-le, take-take}
use Rattle.std.proofs.lemmas.Bool.{cases_lt}
use Rattle.std.proofs.Math.Seq.{take-append-add}
use Rattle.desk_io.specs.Desk.{AreBytes, Appended, AppendedSome, Elapses, HasNoFault, HasTellFault, IsTellCall, IsTelling}
use Rattle.file_desk.specs.Printed.{IsPrinted, desk_of}

-- a beginning of a longer text is one of the text from before, or goes on with a beginning of the piece
further : (was piece : List ℕ) (k t : ℕ) (image text : List ℕ) → IsPrinted (was ++ take k piece) t image text
    → IsPrinted was t image text ⊎ (AreBytes image × ((n : ℕ) × (text ≡ was ++ take n piece)))
further was piece k t image text is = ⊎_elim
    (λ (gt : length was < is.count).
    let n = is.count - length was in
    let count_is : is.count ≡ length was + n = omega (arith, gt) in
    let most : n ≤ k = omega (arith, is.until, length-append was (take k piece), length-take k piece) in
    let text_is = ap (λ c. take c (was ++ take k piece)) count_is ∙ take-append-add was (take k piece) n in
    inr (is.bytes, (n, is.told ∙ text_is ∙ ap (λ xs. was ++ xs) (take-take n k piece most))))
    (λ (le : is.count ≤ length was). inl (record {
      bytes = is.bytes;
      count = is.count;
      from = is.from;
      until = le;
      told = is.told ∙ take-append-le is.count was (take k piece) le;
    }))
    (cases_lt (length was) is.count)

pub telling_time : (was new : Option (List ℕ)) (piece : List ℕ) (a b c d : ℕ) → AppendedSome was piece new
    → Elapses (desk_of was a b) (desk_of new c d) (IsTelling (desk_of was a b) (desk_of new c d) piece)
telling_time None new piece a b c d told =
    subst (λ o. Elapses (desk_of None a b) (desk_of o c d) (IsTelling (desk_of None a b) (desk_of o c d) piece)) (sym told.1) (record {
      later = omega arith;
      keeps = λ t image text le was. was;
      further = λ t image text le is. inl is;
    })
telling_time (Some was) new piece a b c d told =
    let more = was ++ take told.0 piece in
    let len = length-append was (take told.0 piece) in
    subst (λ o. Elapses (desk_of (Some was) a b) (desk_of o c d) (IsTelling (desk_of (Some was) a b) (desk_of o c d) piece)) (sym told.1) (record {
      later = omega (arith, len);
      keeps = λ t image text le is. record {
        bytes = is.bytes;
        count = is.count;
        from = is.from;
        until = omega (arith, is.until, len);
        told = is.told ∙ sym (take-append-le is.count was (take told.0 piece) is.until);
      };
      further = λ t image text le is. ⊎_elim
          (λ was_so. inl was_so)
          (λ on. inr (on.0, (was, on.1.0, refl, on.1.1)))
          (further was piece told.0 t image text is);
    })

-- what a tell answers, by what was printed
all_told : {T E U F : Type 0} (P : Type 0) (printed : Result T E) (answer : Result U F) → OnOk printed P
    → OnOk answer (IsOk printed) → OnOk answer P
all_told P (Ok x) (Ok y) all is = all
all_told P (Err e) (Ok y) all is = cc
all_told P printed (Err e) all is = tt

no_fault : {U F : Type 0} (answer : Result U F) (told : Option (List ℕ)) (a b d : ℕ) → a ≡ 0 → b ≡ 0 → OnOk answer (d ≡ b)
    → OnOk answer (HasNoFault (desk_of told a d))
no_fault (Ok y) told a b d disk tell steady = record { disk = disk; tell = steady ∙ tell }
no_fault (Err e) told a b d disk tell steady = tt

tell_fault : {U F : Type 0} (answer : Result U F) (told : Option (List ℕ)) (a b d : ℕ) → a ≡ 0 → OnErr answer (d ≡ b + 1)
    → OnErr answer (HasTellFault (desk_of told a d))
tell_fault (Ok y) told a b d disk counted = tt
tell_fault (Err e) told a b d disk counted = record { disk = disk; tell = omega (arith, counted) }

on_err : {U F : Type 0} (P : Type 0) (answer : Result U F) → P → OnErr answer P
on_err P (Ok y) is = tt
on_err P (Err e) is = is

pub is_tell_call : {T E U F : Type 0} (printed : Result T E) (answer : Result U F) (was new : Option (List ℕ)) (piece : List ℕ)
    (a b d : ℕ) → OnOk printed (Appended was piece new) → AppendedSome was piece new → OnOk answer (IsOk printed)
    → a ≡ 0 → b ≡ 0 → OnErr answer (d ≡ b + 1) → OnOk answer (d ≡ b)
    → IsTellCall (desk_of was a b) (desk_of new a d) piece answer
is_tell_call printed answer was new piece a b d all partly is disk tell counted steady = record {
  tells = record {
    time = telling_time was new piece a b a d partly;
    untouched = record { reads = refl; crash = λ image. (λ left. left, λ left. left) };
    text = record { all = all_told (Appended was piece new) printed answer all is; partly = on_err (AppendedSome was piece new) answer partly };
  };
  ok = no_fault answer new a b d disk tell steady;
  err = tell_fault answer new a b d disk counted;
}
