-- Digits that are written byte by byte.
use Rattle.std.proofs.Common.{◌≡◌, ℕ, ◌+◌, ◌<◌, ◌≤◌, List, [], ◌∷◌, ◌++◌, length, map, take, get_or, refl, sym, ap, ◌∙◌, arith, append_assoc, length-take}
use Rattle.std.specs.List.{join_with_byte}
use Rattle.std.proofs.lemmas.List.{length-map, map-append, take_more}
use Rattle.tierra_dis.specs.HexText.{digits_of}

-- a piece more, after others
join_with_byte_push : (c : ℕ) (pieces : List (List ℕ)) (piece : List ℕ) → 0 < length pieces
    → join_with_byte c (pieces ++ piece ∷ []) ≡ join_with_byte c pieces ++ c ∷ piece
join_with_byte_push c [] piece some = absurd (omega arith)
join_with_byte_push c (first ∷ []) piece some = refl
join_with_byte_push c (first ∷ second ∷ pieces) piece some =
    ap (λ rest. first ++ c ∷ rest) (join_with_byte_push c (second ∷ pieces) piece (omega arith))
    ∙ sym (append_assoc first (c ∷ join_with_byte c (second ∷ pieces)) (c ∷ piece))

-- the digits of the first bytes of a code
abbrev pub IsSpelled : List ℕ → ℕ → List ℕ → Type 0
IsSpelled code count text = text ≡ join_with_byte 32 (map digits_of (take count code))

-- the first byte
pub spell_first : (code : List ℕ) (i : ℕ) (text more : List ℕ) → i ≤ 0 → i < length code → IsSpelled code i text → more ≡ text ++ digits_of (get_or code i 0)
    → IsSpelled code (i + 1) more
spell_first [] i text more first within spelled pushed = absurd (omega arith)
spell_first (byte ∷ code) i text more first within spelled pushed =
    let is : i ≡ 0 = omega arith in
    pushed ∙ ap (λ front. front ++ digits_of (get_or (byte ∷ code) i 0)) spelled ∙ rw is refl

-- and each after it
pub spell_more : (code : List ℕ) (i : ℕ) (text spaced more : List ℕ) → 0 < i → i < length code → IsSpelled code i text → spaced ≡ text ++ 32 ∷ []
    → more ≡ spaced ++ digits_of (get_or code i 0) → IsSpelled code (i + 1) more
spell_more code i text spaced more later within spelled parted pushed =
    let digits = digits_of (get_or code i 0) in
    let before : 0 < length (map digits_of (take i code)) = omega (arith, length-map (take i code) digits_of, length-take {A = ℕ}) in
    pushed
    ∙ ap (λ front. front ++ digits) (parted ∙ ap (λ front. front ++ 32 ∷ []) spelled)
    ∙ append_assoc (join_with_byte 32 (map digits_of (take i code))) (32 ∷ []) digits
    ∙ sym (join_with_byte_push 32 (map digits_of (take i code)) digits before)
    ∙ ap (join_with_byte 32) (sym (map-append digits_of (take i code) (get_or code i 0 ∷ [])))
    ∙ ap (λ bytes. join_with_byte 32 (map digits_of bytes)) (sym (take_more code i 0 within))
