-- The pages that cells are cut into, one after another.
use Rattle.std.proofs.Common.{◌≡◌, ◌∙◌, ℕ, zero, suc, ◌+◌, ◌-◌, ◌*◌, ◌<◌, ◌≤◌, List, [], ◌∷◌, ◌++◌, All, ap, ap₂, append-nil, arith, drop, length, min, subst}
use Rattle.std.proofs.Common.{sym, take}
use Rattle.std.proofs.lemmas.List.{length-drop, length-take, take_all}
use Rattle.std.proofs.lemmas.List.Folds.{concat-append}
use Rattle.std.proofs.Math.Seq.{take-add}
use Rattle.std.specs.List.{concat}
use Rattle.std.specs.Prelude.{slice_range}
use Rattle.soup_cells.specs.Pages.{AreCells, ArePages}
use Rattle.soup_cells.specs.declared.page.TheConstants.{PAGE}

-- the first pages of the cells
pub record AreCut (cells : List ℕ) (number : ℕ) (pages : List (List ℕ)) : Type 0 where
  pub paged : ArePages (min (PAGE * number) (length cells)) pages
  pub cut : concat pages ≡ take (min (PAGE * number) (length cells)) cells

-- a page after full ones
pages-push : (pages : List (List ℕ)) (page : List ℕ) (k n m all : ℕ) → n ≡ PAGE * k → all ≡ n + m → 0 < m → m ≤ PAGE → length page ≡ m → ArePages n pages
    → ArePages all (pages ++ page ∷ [])
pages-push [] page k n m all full sum some few long p = (omega arith, omega arith, omega arith)
pages-push (first ∷ pages) page zero n m all full sum some few long p = absurd (let l : 0 < n = p.0 in omega arith)
pages-push (first ∷ pages) page (suc k) n m all full sum some few long p =
    let first-long : length first ≡ min PAGE n = p.1 in
    (omega arith, omega arith, pages-push pages page k (n - PAGE) m (all - PAGE) (omega arith) (omega arith) some few long p.2)

pub cut-none : (cells : List ℕ) → AreCut cells 0 []
cut-none cells =
    let none : min (PAGE * 0) (length cells) ≡ 0 = omega arith in
    record {
      paged = none;
      cut = ap (λ (m : ℕ). take m cells) (sym none);
    }

more-cut : (a b all : ℕ) (cells : List ℕ) (pages : List (List ℕ)) → concat pages ≡ take a cells → all ≡ a + b
    → concat (pages ++ take b (drop a cells) ∷ []) ≡ take all cells
more-cut a b all cells pages e sum =
    concat-append pages (take b (drop a cells) ∷ [])
    ∙ ap₂ (λ (before page : List ℕ). before ++ page) e (append-nil (take b (drop a cells)))
    ∙ sym (take-add a b cells)
    ∙ ap (λ (m : ℕ). take m cells) (sym sum)

pub cut-push : (cells : List ℕ) (number start end : ℕ) (pages : List (List ℕ)) → PAGE * number < length cells → start ≡ PAGE * number
    → end ≡ min (PAGE * number + PAGE) (length cells)
    → AreCut cells number pages → AreCut cells (number + 1) (pages ++ slice_range cells start end ∷ [])
cut-push cells number start end pages l from e c =
    let before : min (PAGE * number) (length cells) ≡ start = omega arith in
    let sum : min (PAGE * (number + 1)) (length cells) ≡ start + (end - start) = omega arith in
    let long : length (take (end - start) (drop start cells)) ≡ end - start =
    omega (arith, length-take (end - start) (drop start cells), length-drop start cells) in
    record {
      paged = pages-push pages (take (end - start) (drop start cells)) number start (end - start) (min (PAGE * (number + 1)) (length cells)) from sum
          (omega arith) (omega arith) long (subst (λ (m : ℕ). ArePages m pages) before c.paged);
      cut = more-cut start (end - start) (min (PAGE * (number + 1)) (length cells)) cells pages (c.cut ∙ ap (λ (m : ℕ). take m cells) before) sum;
    }

pub cut-all : (cells : List ℕ) (number : ℕ) (pages : List (List ℕ)) → length cells ≤ PAGE * number → All (λ v. v < 32) cells → AreCut cells number pages
    → AreCells (length cells) pages × (concat pages ≡ cells)
cut-all cells number pages l codes c =
    let all : min (PAGE * number) (length cells) ≡ length cells = omega arith in
    let same : concat pages ≡ cells = c.cut ∙ ap (λ (m : ℕ). take m cells) all ∙ take_all (length cells) cells (omega arith) in (
      record {
        paged = subst (λ (m : ℕ). ArePages m pages) all c.paged;
        codes = subst (All (λ v. v < 32)) (sym same) codes;
      },
      same,
    )
