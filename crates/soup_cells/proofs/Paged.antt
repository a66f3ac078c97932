-- A cell is the cell of a page.
use Rattle.std.proofs.Common.{◌≡◌, ℕ, zero, suc, ◌+◌, ◌-◌, ◌*◌, ◌/◌, ◌%◌, ◌<◌, ◌≤◌, List, [], ◌∷◌, ◌++◌, drop, get_or, length, min, set, take, ◌∙◌, ap, ap₂}
use Rattle.std.proofs.Common.{sym, arith, length-append}
use Rattle.std.proofs.lemmas.List.{get_or_append_left, get_or-append_right, set-append_left, set-append_right}
use Rattle.std.proofs.Math.Seq.{drop-append-add, take-append_seam}
use Rattle.std.specs.List.{concat}
use Rattle.soup_cells.specs.Pages.{ArePages}
use Rattle.soup_cells.specs.declared.page.TheConstants.{PAGE}

-- the place r of page q
pub record IsCell (pages : List (List ℕ)) (q r at : ℕ) : Type 0 where
  pub page : q < length pages
  pub place : r < length (get_or pages q [])
  pub value : get_or (concat pages) at 0 ≡ get_or (get_or pages q []) r 0

cell-first : (n r at : ℕ) (page : List ℕ) (pages : List (List ℕ)) → length page ≡ min PAGE n → r < n → r < PAGE → at ≡ r → IsCell (page ∷ pages) 0 r at
cell-first n r at page pages e l m same =
    let within : r < length page = omega arith in
    record {
      page = omega arith;
      place = within;
      value = ap (λ (i : ℕ). get_or (page ++ concat pages) i 0) same ∙ get_or_append_left page (concat pages) 0 r within;
    }

cell-later : (n q r at : ℕ) (page : List ℕ) (pages : List (List ℕ)) → length page ≡ min PAGE n → PAGE ≤ at → at < n → IsCell pages q r (at - PAGE)
    → IsCell (page ∷ pages) (suc q) r at
cell-later n q r at page pages e l m c =
    record {
      page = (let h : q < length pages = c.page in omega arith);
      place = c.place;
      value = get_or-append_right page (concat pages) PAGE at 0 (omega arith) l ∙ c.value;
    }

is-cell : (pages : List (List ℕ)) (n q r at : ℕ) → ArePages n pages → at ≡ PAGE * q + r → r < PAGE → at < n → IsCell pages q r at
is-cell [] n q r at p e l m = absurd (omega arith)
is-cell (page ∷ pages) n zero r at p e l m = cell-first n r at page pages p.1 (omega arith) l (omega arith)
is-cell (page ∷ pages) n (suc q) r at p e l m =
    cell-later n q r at page pages p.1 (omega arith) m (is-cell pages (n - PAGE) q r (at - PAGE) p.2 (omega arith) l (omega arith))

pub cell-at : (n at : ℕ) (pages : List (List ℕ)) → ArePages n pages → at < n → IsCell pages (at / PAGE) (at % PAGE) at
cell-at n at pages p l = is-cell pages n (at / PAGE) (at % PAGE) at p (omega arith) (omega arith) l

pub length-pages : (n : ℕ) (pages : List (List ℕ)) → ArePages n pages → length (concat pages) ≡ n
length-pages n [] p = sym p
length-pages n (page ∷ pages) p =
    let first : length page ≡ min PAGE n = p.1 in
    omega (arith, length-append page (concat pages), length-pages (n - PAGE) pages p.2)

-- a page in the place of one as long
pub pages-set : (n q : ℕ) (pages : List (List ℕ)) (page : List ℕ) → ArePages n pages → length page ≡ length (get_or pages q []) → ArePages n (set pages q page)
pages-set n q [] page p e = p
pages-set n zero (first ∷ pages) page p e = (p.0, e ∙ p.1, p.2)
pages-set n (suc q) (first ∷ pages) page p e = (p.0, p.1, pages-set (n - PAGE) q pages page p.2 e)

-- a cell of a page is set
set-cell : (pages : List (List ℕ)) (n q r at v : ℕ) → ArePages n pages → at ≡ PAGE * q + r → r < PAGE → at < n
    → concat (set pages q (set (get_or pages q []) r v)) ≡ set (concat pages) at v
set-cell [] n q r at v p e l m = absurd (omega arith)
set-cell (page ∷ pages) n zero r at v p e l m =
    let long : length page ≡ min PAGE n = p.1 in
    let same : r ≡ at = omega arith in
    let within : r < length page = omega arith in
    sym (set-append_left page (concat pages) r v within) ∙ ap (λ (i : ℕ). set (page ++ concat pages) i v) same
set-cell (page ∷ pages) n (suc q) r at v p e l m =
    let long : length page ≡ min PAGE n = p.1 in
    ap (λ (rest : List ℕ). page ++ rest) (set-cell pages (n - PAGE) q r (at - PAGE) v p.2 (omega arith) l (omega arith))
    ∙ sym (set-append_right page (concat pages) PAGE at v (omega arith) (omega arith))

pub set-at : (n at v : ℕ) (pages : List (List ℕ)) → ArePages n pages → at < n
    → concat (set pages (at / PAGE) (set (get_or pages (at / PAGE) []) (at % PAGE) v)) ≡ set (concat pages) at v
set-at n at v pages p l = set-cell pages n (at / PAGE) (at % PAGE) at v p (omega arith) (omega arith) l

-- the cells of a page
pub page-cells : (pages : List (List ℕ)) (n q : ℕ) → ArePages n pages → PAGE * q < n
    → (q < length pages) × (get_or pages q [] ≡ take (min (PAGE * q + PAGE) n - PAGE * q) (drop (PAGE * q) (concat pages)))
page-cells [] n q p l = absurd (omega arith)
page-cells (page ∷ pages) n zero p l =
    let long : length page ≡ min PAGE n - 0 = (let e : length page ≡ min PAGE n = p.1 in omega arith) in
    (omega arith, sym (take-append_seam page (concat pages)) ∙ ap (λ (k : ℕ). take k (page ++ concat pages)) long)
page-cells (page ∷ pages) n (suc q) p l =
    let long : length page ≡ min PAGE n = p.1 in
    let next = page-cells pages (n - PAGE) q p.2 (omega arith) in
    let within : q < length pages = next.0 in
    let past : length page + PAGE * q ≡ PAGE * suc q = omega arith in
    let count : min (PAGE * q + PAGE) (n - PAGE) - PAGE * q ≡ min (PAGE * suc q + PAGE) n - PAGE * suc q = omega arith in
    let rest : drop (PAGE * q) (concat pages) ≡ drop (PAGE * suc q) (page ++ concat pages) =
    sym (drop-append-add page (concat pages) (PAGE * q)) ∙ ap (λ (k : ℕ). drop k (page ++ concat pages)) past in
    (omega arith, next.1 ∙ ap₂ (λ (k : ℕ) (cells : List ℕ). take k cells) count rest)
