-- Pieces are added to a text one after another.
use Rattle.std.proofs.Common.{◌≡◌, ◌∙◌, List, ℕ, ◌++◌, ap, append_assoc, sym}

pub piece_added : (old told text new piece : List ℕ) → text ≡ old ++ told → new ≡ text ++ piece → new ≡ old ++ (told ++ piece)
piece_added old told text new piece before is = is ∙ ap (λ (l : List ℕ). l ++ piece) before ∙ append_assoc old told piece

-- a number after its label
pub number_added : (old told text new label number : List ℕ) → text ≡ old ++ told → new ≡ text ++ (label ++ number)
    → new ≡ old ++ ((told ++ label) ++ number)
number_added old told text new label number before is =
    piece_added old told text new (label ++ number) before is ∙ ap (λ (l : List ℕ). old ++ l) (sym (append_assoc told label number))
