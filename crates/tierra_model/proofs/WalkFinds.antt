-- A search that walks from cell to cell finds the first of the candidates that match.
use Rattle.std.proofs.Common.{◌≡◌, ℕ, zero, suc, ◌+◌, ◌%◌, Bool, true, false, cond, List, [], ◌∷◌, refl, ◌∙◌, ap, length}
use Rattle.std.specs.Prelude.{nat_lt, if◌then◌else◌, ◌==◌, ◌&&◌, Some, find}
use Rattle.tierra_model.specs.declared.searching.Way.{Way}
use Rattle.tierra_model.specs.declared.searching.Found.TheVariants as found
use Rattle.tierra_model.specs.Look.{Look, Answer, LookAt, ◌>>=◌, answer}
use Rattle.tierra_model.specs.Search.{template, is_complement, candidates, found_at, found_by, read_template, compare, try_each, search_from, search_for}

pub answer-bind : {A B : Type 0} (t : Look A) (f : A → Look B) (cells : ℕ → ℕ) → answer (t >>= f) cells ≡ answer (f (answer t cells)) cells
answer-bind (Answer a) f cells = refl
answer-bind (LookAt p next) f cells = answer-bind (next (cells p)) f cells

pub read_template-answer : (n : ℕ) (cells : ℕ → ℕ) (k p : ℕ) → answer (read_template n k p) cells ≡ template n cells k p
unfolding read_template template
read_template-answer n cells zero p = refl
read_template-answer n cells (suc k) p = go (nat_lt (cells (p % n)) 2) (read_template-answer n cells k (p + 1))
  where
    go : (b : Bool) → answer (read_template n k (p + 1)) cells ≡ template n cells k (p + 1)
        → answer (if b then read_template n k (p + 1) >>= (λ vs. Answer (cells (p % n) ∷ vs))
        else Answer []) cells ≡ (if b then cells (p % n) ∷ template n cells k (p + 1) else [])
    go true e = answer-bind (read_template n k (p + 1)) (λ vs. Answer (cells (p % n) ∷ vs)) cells ∙ ap (λ (l : List ℕ). cells (p % n) ∷ l) e
    go false e = refl

pub compare-answer : (n : ℕ) (cells : ℕ → ℕ) (vs : List ℕ) (p : ℕ) → answer (compare n vs p) cells ≡ is_complement n cells vs p
unfolding compare is_complement
compare-answer n cells [] p = refl
compare-answer n cells (v ∷ vs) p = go (v + cells (p % n) == 1) (compare-answer n cells vs (p + 1))
  where
    go : (b : Bool) → answer (compare n vs (p + 1)) cells ≡ is_complement n cells vs (p + 1)
        → answer (if b then compare n vs (p + 1) else Answer false) cells ≡ (b && is_complement n cells vs (p + 1))
    go true e = e
    go false e = refl

pub try_each-answer : (n : ℕ) (cells : ℕ → ℕ) (vs ps : List ℕ) → answer (try_each n vs ps) cells ≡ find (is_complement n cells vs) ps
unfolding try_each
try_each-answer n cells vs [] = refl
try_each-answer n cells vs (p ∷ ps) =
    answer-bind (compare n vs p) (λ m. if m then Answer (Some p) else try_each n vs ps) cells
    ∙ ap (λ (m : Bool). answer (if m then Answer (Some p) else try_each n vs ps) cells) (compare-answer n cells vs p)
    ∙ go (is_complement n cells vs p) (try_each-answer n cells vs ps)
  where
    go : (b : Bool) → answer (try_each n vs ps) cells ≡ find (is_complement n cells vs) ps
        → answer (if b then Answer (Some p) else try_each n vs ps) cells ≡ cond b (Some p) (find (is_complement n cells vs) ps)
    go true e = refl
    go false e = e

-- the answer of a search is what there is to find
pub search-answer : (n : ℕ) (cells : ℕ → ℕ) (ip : ℕ) (way : Way) (limit min : ℕ)
    → answer (search_for n ip way limit min) cells ≡ found_by n cells ip way limit min
unfolding search_for search_from found_by
search-answer n cells ip way limit min =
    answer-bind (read_template n 10 (ip + 1)) (search_from n ip way limit min) cells
    ∙ ap (λ (vs : List ℕ). answer (search_from n ip way limit min vs) cells) (read_template-answer n cells 10 (ip + 1))
    ∙ go (template n cells 10 (ip + 1))
  where
    go : (vs : List ℕ) → answer (search_from n ip way limit min vs) cells
        ≡ (if nat_lt (length vs) min then found.Short else found_at n (length vs) (find (is_complement n cells vs) (candidates n ip (length vs) way limit 1)))
    go vs = short (nat_lt (length vs) min)
      where
        short : (b : Bool) → answer (if b then Answer found.Short
            else (try_each n vs (candidates n ip (length vs) way limit 1) >>= (λ p. Answer (found_at n (length vs) p)))) cells
            ≡ (if b then found.Short else found_at n (length vs) (find (is_complement n cells vs) (candidates n ip (length vs) way limit 1)))
        short true = refl
        short false = answer-bind (try_each n vs (candidates n ip (length vs) way limit 1)) (λ p. Answer (found_at n (length vs) p)) cells
            ∙ ap (found_at n (length vs)) (try_each-answer n cells vs (candidates n ip (length vs) way limit 1))
