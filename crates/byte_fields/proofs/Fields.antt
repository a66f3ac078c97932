-- Numbers, pieces and efforts are read exactly where they are written.
use Rattle.std.proofs.Common.{◌≡◌, ◌∙◌, refl, sym, ap, subst, ℕ, ◌<◌, ◌≤◌, ◌^◌, arith, Bool, true, false, List, [], ◌∷◌, ◌++◌, get_or, length, take, drop}
use Rattle.std.proofs.Common.{Option, Some, None}
use Rattle.std.proofs.Common.{if◌then◌else◌}
use Rattle.std.specs.Prelude.{IfSome, nat_le, ◌==◌}
use Rattle.std.specs.Int.{Width, w32, w64, byte_len, from_be_bytes, to_be_bytes}
use Rattle.std.proofs.lemmas.Bool.Decides.{nat_tests}
use Rattle.std.proofs.lemmas.List.{take_at, drop_at, take-append-drop, length-append, length-take}
use Rattle.std.proofs.lemmas.Nat.{be_bytes_4, be_bytes_8, from_be_bytes-to_be_bytes_4, from_be_bytes-to_be_bytes_8}
use Rattle.tierra_model.specs.declared.creatures.Effort.{Effort}
use Rattle.byte_fields.specs.Exact.{IsBytes, Reads}
use Rattle.byte_fields.specs.Reading.{both, byte_at, effort_at, effort_from, efforts_at, eight_at, eights_at, four_at, fours_at, number_at, only_if, piece_at}
use Rattle.byte_fields.specs.Reading.{only, second, sized_at}
use Rattle.byte_fields.specs.Writing.{IsLongEffort, effort_bytes, eight, four}
use Rattle.byte_fields.proofs.Exact.{IsBytes-take, bind_some, passed, reads_both, reads_made, reads_made_if, reads_pair, some_is}

abbrev pub Short : ℕ → Type 0
Short n = n < 2 ^ 32

abbrev pub Long : ℕ → Type 0
Long n = n < 2 ^ 64

record IsWide (w : Width) (limit : ℕ) : Type 0 where
  len : (n : ℕ) → length (to_be_bytes w n) ≡ byte_len w
  back : (bytes : List ℕ) → length bytes ≡ byte_len w → IsBytes bytes
      → to_be_bytes w (from_be_bytes w bytes) ≡ bytes
  again : (n : ℕ) → n < limit → from_be_bytes w (to_be_bytes w n) ≡ n
  below : (bytes : List ℕ) → IsBytes bytes → from_be_bytes w bytes < limit

wide32 : IsWide w32 (2 ^ 32)
wide32 = record {
  len = λ n. refl;
  back = λ bytes len fits. be_bytes_4 bytes _ len fits refl;
  again = λ n lt. from_be_bytes-to_be_bytes_4 n lt;
  below = λ bytes fits. omega (arith, fits 0, fits 1, fits 2, fits 3);
}

wide64 : IsWide w64 (2 ^ 64)
wide64 = record {
  len = λ n. refl;
  back = λ bytes len fits. be_bytes_8 bytes _ len fits refl;
  again = λ n lt. from_be_bytes-to_be_bytes_8 n lt;
  below = λ bytes fits. omega (arith, fits 0, fits 1, fits 2, fits 3, fits 4, fits 5, fits 6, fits 7);
}

-- what the test of a length says
long_enough : (n m : ℕ) → nat_le n m ≡ true → n ≤ m
long_enough n m e = grind arith

is_long_enough : (n m : ℕ) → n ≤ m → nat_le n m ≡ true
is_long_enough n m le = grind arith

reads_number : (w : Width) (limit : ℕ) → IsWide w limit → Reads (λ n. n < limit) (to_be_bytes w) (number_at w)
reads_number w limit wide = record {
  takes = λ bytes x h e.
      let len = byte_len w in
      let front = take len bytes in
      let found : ℕ × List ℕ = (from_be_bytes w front, drop len bytes) in
      let p = passed (nat_le len (length bytes)) found x e in
      let long : len ≤ length bytes = long_enough len (length bytes) p.0 in
      let text = wide.back front (omega (arith, length-take len bytes)) (IsBytes-take len bytes h) in
      subst (λ (y : ℕ × List ℕ). (bytes ≡ to_be_bytes w y.0 ++ y.1) × (y.0 < limit)) p.1
      (sym (ap (λ (l : List ℕ). l ++ drop len bytes) text ∙ take-append-drop len bytes), wide.below front (IsBytes-take len bytes h));
  again = λ n rest lt.
      let text = to_be_bytes w n in
      let len = byte_len w in
      let long : nat_le len (length (text ++ rest)) ≡ true =
      is_long_enough len (length (text ++ rest)) (omega (arith, length-append text rest, wide.len n)) in
      rw (long, take_at text rest len (wide.len n), drop_at text rest len (wide.len n), wide.again n lt) refl;
}

pub reads_four : Reads Short four four_at
reads_four = reads_number w32 (2 ^ 32) wide32

pub reads_eight : Reads Long eight eight_at
reads_eight = reads_number w64 (2 ^ 64) wide64

-- n bytes
pub reads_piece : (n : ℕ) → Reads (λ (piece : List ℕ). length piece ≡ n) (λ piece. piece) (piece_at n)
reads_piece n = record {
  takes = λ bytes x h e.
      let found : List ℕ × List ℕ = (take n bytes, drop n bytes) in
      let p = passed (nat_le n (length bytes)) found x e in
      let long : n ≤ length bytes = long_enough n (length bytes) p.0 in
      subst (λ (y : List ℕ × List ℕ). (bytes ≡ y.0 ++ y.1) × (length y.0 ≡ n)) p.1
      (sym (take-append-drop n bytes), omega (arith, length-take n bytes));
  again = λ piece rest len.
      let long : nat_le n (length (piece ++ rest)) ≡ true =
      is_long_enough n (length (piece ++ rest)) (omega (arith, length-append piece rest, len)) in
      rw (long, take_at piece rest n len, drop_at piece rest n len) refl;
}

byte_takes : (bytes piece rest : List ℕ) → IsBytes bytes → bytes ≡ piece ++ rest → length piece ≡ 1
    → (bytes ≡ (only piece ∷ []) ++ rest) × (only piece < 2 ^ 8)
byte_takes bytes [] rest h e len = absurd (omega (arith, len))
byte_takes bytes (b ∷ []) rest h e len = (e, subst (λ (l : List ℕ). get_or l 0 0 < 2 ^ 8) e (h 0))
byte_takes bytes (b ∷ c ∷ more) rest h e len = absurd (omega (arith, len))

pub reads_byte : Reads (λ n. n < 2 ^ 8) (λ n. n ∷ []) byte_at
unfolding byte_at
reads_byte = record {
  takes = λ bytes x h e.
      let a = bind_some (piece_at 1 bytes) (λ p. Some (only p.0, p.1)) x e in
      let piece = (reads_piece 1).takes bytes a.0 h a.1 in
      let found : ℕ × List ℕ = (only a.0.0, a.0.1) in
      subst (λ (y : ℕ × List ℕ). (bytes ≡ (y.0 ∷ []) ++ y.1) × (y.0 < 2 ^ 8)) (some_is found x a.2)
      (byte_takes bytes a.0.0 a.0.1 h piece.0 piece.1);
  again = λ n rest lt. rw ((reads_piece 1).again (n ∷ []) rest refl) refl;
}

abbrev pub ShortPair : ℕ × ℕ → Type 0
ShortPair p = Short p.0 × Short p.1

abbrev pub LongPair : ℕ × ℕ → Type 0
LongPair p = Long p.0 × Long p.1

abbrev pub fours_text : ℕ × ℕ → List ℕ
fours_text p = four p.0 ++ four p.1

abbrev pub eights_text : ℕ × ℕ → List ℕ
eights_text p = eight p.0 ++ eight p.1

pub reads_fours : Reads ShortPair fours_text fours_at
unfolding fours_at
reads_fours = reads_pair Short four four_at Short four four_at reads_four reads_four

pub reads_eights : Reads LongPair eights_text eights_at
unfolding eights_at
reads_eights = reads_pair Long eight eight_at Long eight eight_at reads_eight reads_eight

abbrev pub sized_text : List ℕ → List ℕ
sized_text bytes = four (length bytes) ++ bytes

-- bytes after their number
pub reads_sized : Reads (λ (bytes : List ℕ). Short (length bytes)) sized_text sized_at
unfolding sized_at
reads_sized =
    reads_made (λ (p : ℕ × List ℕ). Short p.0 × (length p.1 ≡ p.0)) (λ p. four p.0 ++ p.1) second
    (λ bytes. Short (length bytes)) sized_text (both four_at piece_at)
    (record {
      from = λ p h. (subst Short (sym h.1) h.0, ap (λ (n : ℕ). four n ++ p.1) (sym h.1));
      back = λ bytes h. ((length bytes, bytes), (h, refl), refl, refl);
    })
    (reads_both Short four four_at (λ n bytes. length bytes ≡ n) (λ bytes. bytes) piece_at reads_four reads_piece)

-- ---- efforts

-- an effort has run an instruction, and its numbers fit
abbrev pub IsEffort : Option Effort → Type 0
IsEffort o = IfSome o (λ (e : Effort). 1 ≤ e.ran) × IsLongEffort o

is_zero : (a : ℕ) → (a == 0) ≡ true → a ≡ 0
is_zero a e = grind (arith, nat_tests)

is_not_zero : (a : ℕ) → (a == 0) ≡ false → 1 ≤ a
is_not_zero a e = grind (arith, nat_tests)

not_zero : (a : ℕ) → 1 ≤ a → (a == 0) ≡ false
not_zero a le = grind (arith, nat_tests)

effort_made : (idle still : Bool) (ran moved : ℕ) (o : Option Effort) → LongPair (ran, moved)
    → (idle ≡ true → ran ≡ 0) → (still ≡ true → moved ≡ 0) → (idle ≡ false → 1 ≤ ran)
    → (if idle then only_if still None else Some (Some (record { ran = ran; moved = moved }))) ≡ Some o
    → IsEffort o × (eights_text (ran, moved) ≡ effort_bytes o)
unfolding effort_bytes
effort_made true true ran moved o fits idle still busy e =
    let none : Option Effort = None in
    subst (λ (x : Option Effort). IsEffort x × (eights_text (ran, moved) ≡ effort_bytes x)) (some_is none o e)
    ((tt, tt), rw (idle refl, still refl) refl)
effort_made true false ran moved o fits idle still busy e = absurd cc
effort_made false still ran moved o fits idle still' busy e =
    let some : Option Effort = Some (record { ran = ran; moved = moved }) in
    subst (λ (x : Option Effort). IsEffort x × (eights_text (ran, moved) ≡ effort_bytes x)) (some_is some o e)
    ((busy refl, fits), refl)

effort_back : (o : Option Effort) → IsEffort o
    → (p : ℕ × ℕ) × LongPair p × (effort_from p ≡ Some o) × (eights_text p ≡ effort_bytes o)
unfolding effort_bytes
effort_back None is = ((0, 0), (omega arith, omega arith), refl, refl)
effort_back (Some e) is =
    let p : ℕ × ℕ = (e.ran, e.moved) in
    let busy = not_zero e.ran is.0 in
    (p, is.1, rw busy refl, refl)

pub reads_effort : Reads IsEffort effort_bytes effort_at
unfolding effort_at
reads_effort =
    reads_made_if LongPair eights_text effort_from IsEffort effort_bytes eights_at
    (record {
      from = λ p o fits e.
          effort_made (p.0 == 0) (p.1 == 0) p.0 p.1 o fits (is_zero p.0) (is_zero p.1) (is_not_zero p.0) e;
      back = effort_back;
    })
    reads_eights

abbrev pub AreEfforts : Option Effort × Option Effort → Type 0
AreEfforts p = IsEffort p.0 × IsEffort p.1

abbrev pub efforts_text : Option Effort × Option Effort → List ℕ
efforts_text p = effort_bytes p.0 ++ effort_bytes p.1

pub reads_efforts : Reads AreEfforts efforts_text efforts_at
unfolding efforts_at
reads_efforts = reads_pair IsEffort effort_bytes effort_at IsEffort effort_bytes effort_at reads_effort reads_effort
