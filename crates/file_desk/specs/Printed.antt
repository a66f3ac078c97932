-- A desk that tells nothing of its file, and tells the printed text where its output tells what it has taken.
use Rattle.std.specs.Prelude.{◌≡◌, ℕ, ◌≤◌, List, length, take, Option, None, Some}
use Rattle.std.proofs.Common.{arith, sym, ap, subst, unwrap_or, ◌∙◌}
use Rattle.std.proofs.Math.Seq.{take-length}
use Rattle.desk_io.specs.Desk.{AreBytes, DeskState, IsLawful, IsNow}

-- From byte t of the text on: any bytes in the file, and a beginning of the text.
pub record IsPrinted (printed : List ℕ) (t : ℕ) (image text : List ℕ) : Type 0 where
  pub bytes : AreBytes image
  pub count : ℕ
  pub from : t ≤ count
  pub until : count ≤ length printed
  pub told : text ≡ take count printed

-- the number of a moment is the length of the text by then
abbrev pub moment_of : Option (List ℕ) → ℕ
moment_of None = 0
moment_of (Some told) = length told

abbrev pub moments_of : Option (List ℕ) → ℕ → List ℕ → List ℕ → Type 0
moments_of None t image text = ⊥
moments_of (Some told) t image text = IsPrinted told t image text

-- the state of such a desk, by the told text and the faults; a crash may leave any bytes
abbrev pub desk_of : Option (List ℕ) → ℕ → ℕ → DeskState
desk_of told disk_faults tell_faults = record {
  reads = None;
  may_leave = AreBytes;
  told = told;
  moment = moment_of told;
  moments = moments_of told;
  disk_faults = disk_faults;
  tell_faults = tell_faults;
}

counts_now : (told : Option (List ℕ)) (disk tell t : ℕ) (image text : List ℕ) → t ≤ moment_of told
    → IsNow (desk_of told disk tell) image text → moments_of told t image text
counts_now None disk tell t image text le now = cc
counts_now (Some told) disk tell t image text le now = record {
  bytes = now.0;
  count = length told;
  from = le;
  until = omega arith;
  told = ap (λ (o : Option (List ℕ)). unwrap_or o text) (sym now.1) ∙ sym (take-length told);
}

only_now : (told : Option (List ℕ)) (disk tell : ℕ) (image text : List ℕ)
    → moments_of told (moment_of told) image text → IsNow (desk_of told disk tell) image text
only_now None disk tell image text at = absurd at
only_now (Some told) disk tell image text at =
    let all : at.count ≡ length told = omega (arith, at.from, at.until) in
    let whole = subst (λ n. text ≡ take n told) all at.told in
    (at.bytes, ap (λ (x : List ℕ). Some x) (sym (whole ∙ take-length told)))

pub lawful : (told : Option (List ℕ)) (disk tell : ℕ) → IsLawful (desk_of told disk tell)
lawful told disk tell = record {
  counts_now = counts_now told disk tell;
  only_now = only_now told disk tell;
  leaves_bytes = λ image leaves. leaves;
  read_is_left = tt;
}
