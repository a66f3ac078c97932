-- A frame is read where it is written.
use Rattle.std.proofs.Common.{◌≡◌, ◌∙◌, refl, sym, ap, ℕ, ◌+◌, ◌<◌, ◌≤◌, ◌^◌, arith, List, [], ◌∷◌, ◌++◌, length, take, drop, append_assoc, length-append}
use Rattle.std.specs.Int.{w32, from_be_bytes, to_be_bytes}
use Rattle.std.proofs.lemmas.List.{take_at, drop_at, drop-drop, length-drop, length-take-le}
use Rattle.std.proofs.lemmas.Nat.{from_be_bytes-to_be_bytes_4}
use Rattle.std.proofs.Math.Seq.{take-add}
use Rattle.sha2.specs.Sha256.{sha256}
use Rattle.sha2.proofs.Facts256.{length-sha256}
use Rattle.soup_checkpoint.specs.Frames.{BeginsWithFrame, IsShort, NoFrame, spelling}

abbrev field_of : List ℕ → List ℕ
field_of s = to_be_bytes w32 (length s)

pub length-spelling : (s : List ℕ) → length (spelling s) ≡ length s + 36
unfolding spelling
length-spelling s =
    let four : length (field_of s) ≡ 4 = refl in
    omega (arith, four, length-append (field_of s) (s ++ sha256 s), length-append s (sha256 s), length-sha256 s)

-- the parts of a frame
pub record Parts (bytes s more : List ℕ) : Type 0 where
  pub field : take 4 bytes ≡ to_be_bytes w32 (length s)
  pub state : take (length s) (drop 4 bytes) ≡ s
  pub digest : take 32 (drop (4 + length s) bytes) ≡ sha256 s
  pub long : length bytes ≡ length s + 36 + length more

pub parts_of : (bytes s more : List ℕ) → bytes ≡ spelling s ++ more → Parts bytes s more
unfolding spelling
parts_of bytes s more text =
    let field = field_of s in
    let behind = s ++ (sha256 s ++ more) in
    let grouped : bytes ≡ field ++ behind =
    text ∙ append_assoc field (s ++ sha256 s) more ∙ ap (λ (l : List ℕ). field ++ l) (append_assoc s (sha256 s) more) in
    let regrouped : bytes ≡ (field ++ s) ++ (sha256 s ++ more) = grouped ∙ sym (append_assoc field s (sha256 s ++ more)) in
    let four : length field ≡ 4 = refl in
    let len : length (field ++ s) ≡ 4 + length s = omega (arith, four, length-append field s) in
    record {
      field = ap (take 4) grouped ∙ take_at field behind 4 refl;
      state =
          ap (λ (l : List ℕ). take (length s) (drop 4 l)) grouped
          ∙ ap (take (length s)) (drop_at field behind 4 refl) ∙ take_at s (sha256 s ++ more) (length s) refl;
      digest =
          ap (λ (l : List ℕ). take 32 (drop (4 + length s) l)) regrouped
          ∙ ap (take 32) (drop_at (field ++ s) (sha256 s ++ more) (4 + length s) len)
          ∙ take_at (sha256 s) more 32 (length-sha256 s);
      long = omega (arith, ap length regrouped, len, length-append (field ++ s) (sha256 s ++ more), length-append (sha256 s) more, length-sha256 s);
    }

-- a length field says one length
pub same_length : (n m : ℕ) → n < 2 ^ 32 → m < 2 ^ 32 → to_be_bytes w32 n ≡ to_be_bytes w32 m → n ≡ m
same_length n m a b e = sym (from_be_bytes-to_be_bytes_4 n a) ∙ ap (from_be_bytes w32) e ∙ from_be_bytes-to_be_bytes_4 m b

cancel : (a x y : List ℕ) → a ++ x ≡ a ++ y → x ≡ y
cancel [] x y e = e
cancel (b ∷ a) x y e = cancel a x y (one_tail b (a ++ x) (a ++ y) e)
  where
    one_tail : (c : ℕ) (us vs : List ℕ) → c ∷ us ≡ c ∷ vs → us ≡ vs
    one_tail c us vs same = cc

-- bytes begin with one frame
pub read_back : (s t x y : List ℕ) → IsShort s → IsShort t → spelling s ++ x ≡ spelling t ++ y → (s ≡ t) × (x ≡ y)
read_back s t x y short_s short_t e =
    let bytes = spelling s ++ x in
    let p = parts_of bytes s x refl in
    let q = parts_of bytes t y e in
    let len = same_length (length s) (length t) (omega (arith, short_s)) (omega (arith, short_t)) (sym p.field ∙ q.field) in
    let same : s ≡ t = sym p.state ∙ ap (λ (n : ℕ). take n (drop 4 bytes)) len ∙ q.state in
    (same, cancel (spelling s) x y (e ∙ ap (λ (u : List ℕ). spelling u ++ y) (sym same)))

-- a state of n bytes, with its length before it and its digest after it
pub begins : (bytes : List ℕ) (n : ℕ) → to_be_bytes w32 n ≡ take 4 bytes → n < 2 ^ 31 → n + 36 < length bytes
    → take 32 (drop (4 + n) bytes) ≡ sha256 (take n (drop 4 bytes)) → BeginsWithFrame bytes n
unfolding spelling
begins bytes n field short inside digest =
    let behind = drop 4 bytes in
    let state = take n behind in
    let len : length state ≡ n = length-take-le n behind (omega (arith, inside, length-drop 4 bytes)) in
    let digest_is : take 32 (drop n behind) ≡ sha256 state = ap (take 32) (drop-drop n 4 bytes) ∙ digest in
    let second : take (n + 32) behind ≡ state ++ sha256 state = take-add n 32 behind ∙ ap (λ (l : List ℕ). state ++ l) digest_is in
    let first : take 4 bytes ≡ field_of state = sym field ∙ ap (to_be_bytes w32) (sym len) in
    let sum : n + 36 ≡ 4 + (n + 32) = omega arith in
    record {
      short = short;
      inside = inside;
      text =
          ap (λ (k : ℕ). take k bytes) sum ∙ take-add 4 (n + 32) bytes
          ∙ ap (λ (l : List ℕ). l ++ take (n + 32) behind) first ∙ ap (λ (l : List ℕ). field_of state ++ l) second;
    }

-- where no frame stands
pub too_short : (bytes : List ℕ) → length bytes ≤ 36 → NoFrame bytes
too_short bytes le s gate more short text = omega (arith, (parts_of bytes s (gate ∷ more) text).long, le)

pub unfit : (bytes : List ℕ) (n : ℕ) → n < 2 ^ 32 → to_be_bytes w32 n ≡ take 4 bytes
    → (n < 2 ^ 31 → n + 36 < length bytes → ⊥) → NoFrame bytes
unfit bytes n fits field not_both s gate more short text =
    let p = parts_of bytes s (gate ∷ more) text in
    let len = same_length n (length s) fits (omega (arith, short)) (field ∙ p.field) in
    not_both (omega (arith, len, short)) (omega (arith, len, p.long))

pub other_digest : (bytes : List ℕ) (n : ℕ) → n < 2 ^ 32 → to_be_bytes w32 n ≡ take 4 bytes
    → (take 32 (drop (4 + n) bytes) ≡ sha256 (take n (drop 4 bytes)) → ⊥) → NoFrame bytes
other_digest bytes n fits field differs s gate more short text =
    let p = parts_of bytes s (gate ∷ more) text in
    let len = same_length n (length s) fits (omega (arith, short)) (field ∙ p.field) in
    differs (
    ap (λ (k : ℕ). take 32 (drop (4 + k) bytes)) len ∙ p.digest
    ∙ ap sha256 (sym p.state ∙ ap (λ (k : ℕ). take k (drop 4 bytes)) (sym len)))
