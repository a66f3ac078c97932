-- A cell of the page that is found at its place.
use Rattle.std.proofs.Common.{◌≡◌, ℕ, ◌*◌, ◌+◌, ◌-◌, ◌/◌, ◌%◌, ◌<◌, List, [], arith, drop, get_or, length, map, set, take, ◌∙◌, ap, sym, subst}
use Rattle.std.proofs.lemmas.List.{get_or-map, get_or_read, length-drop, length-map, length-take, map-set}
use Rattle.std.proofs.lemmas.List.Elements.{All-get_or}
use Rattle.std.specs.List.{concat}
use Rattle.std.specs.Prelude.{min, slice_range}
use Rattle.soup_cells.specs.Pages.{AreCells, ArePages}
use Rattle.soup_cells.proofs.Paged.{cell-at, length-pages, page-cells, pages-set, set-at}
use Rattle.soup_cells.specs.declared.page.TheConstants.{PAGE}

-- the page has the cell
pub record HasCell {X : Type 0} (f : X → List ℕ) (pages : List X) (at : ℕ) : Type 0 where
  pub page : at / PAGE < length pages
  pub place : (x : X) → x ≡ get_or pages (at / PAGE) x → at % PAGE < length (f x)
  pub code : get_or (concat (map f pages)) at 0 < 32
  pub value : (x : X) → x ≡ get_or pages (at / PAGE) x → get_or (f x) (at % PAGE) 0 ≡ get_or (concat (map f pages)) at 0

page-is : {X : Type 0} (f : X → List ℕ) (pages : List X) (k : ℕ) (x : X) → k < length pages → x ≡ get_or pages k x → get_or (map f pages) k [] ≡ f x
page-is f pages k x l e = get_or-map f pages k x [] l ∙ ap f (sym e)

pub has-cell : {X : Type 0} (f : X → List ℕ) (pages : List X) (n at : ℕ) → AreCells n (map f pages) → at < length (concat (map f pages)) → HasCell f pages at
has-cell f pages n at cells within-cells =
    let p = cells.paged in
    let l : at < n = subst (λ (k : ℕ). at < k) (length-pages n (map f pages) p) within-cells in
    let c = cell-at n at (map f pages) p l in
    let within : at / PAGE < length pages = subst (λ (k : ℕ). at / PAGE < k) (length-map pages f) c.page in
    record {
      page = within;
      place = λ x e. subst (λ (page : List ℕ). at % PAGE < length page) (page-is f pages (at / PAGE) x within e) c.place;
      code = All-get_or (λ v. v < 32) (concat (map f pages)) at 0 within-cells cells.codes;
      value = λ x e. ap (λ (page : List ℕ). get_or page (at % PAGE) 0) (sym (page-is f pages (at / PAGE) x within e)) ∙ sym c.value;
    }

-- what is read at the cell's place in its page
pub read-cell : {X : Type 0} (f : X → List ℕ) (pages : List X) (at : ℕ) → HasCell f pages at → (x : X) → x ≡ get_or pages (at / PAGE) x
    → (v : ℕ) → v ≡ get_or (f x) (at % PAGE) v → v ≡ get_or (concat (map f pages)) at 0
read-cell f pages at h x e v is = get_or_read (f x) (at % PAGE) v (h.place x e) is 0 ∙ h.value x e

-- the page with the cell set is put back
pub cell-set : {X : Type 0} (f : X → List ℕ) (pages : List X) (n at v : ℕ) (x y : X) → AreCells n (map f pages) → at < length (concat (map f pages))
    → x ≡ get_or pages (at / PAGE) x → f y ≡ set (f x) (at % PAGE) v → concat (map f (set pages (at / PAGE) y)) ≡ set (concat (map f pages)) at v
cell-set f pages n at v x y cells within-cells e written =
    let within = (has-cell f pages n at cells within-cells).page in
    let l : at < n = subst (λ (k : ℕ). at < k) (length-pages n (map f pages) cells.paged) within-cells in
    ap concat (map-set f pages (at / PAGE) y)
    ∙ ap (λ (page : List ℕ). concat (set (map f pages) (at / PAGE) page))
    (written ∙ ap (λ (page : List ℕ). set page (at % PAGE) v) (sym (page-is f pages (at / PAGE) x within e)))
    ∙ set-at n at v (map f pages) cells.paged l

-- pages with one of them replaced by one as long
pub paged-set : {X : Type 0} (f : X → List ℕ) (pages : List X) (n k : ℕ) (x y : X) → ArePages n (map f pages) → k < length pages
    → x ≡ get_or pages k x → length (f y) ≡ length (f x) → ArePages n (map f (set pages k y))
paged-set f pages n k x y p l e long =
    subst (ArePages n) (sym (map-set f pages k y))
    (pages-set n k (map f pages) (f y) p (long ∙ ap length (sym (page-is f pages k x l e))))

-- the cells of a page
pub page-at : {X : Type 0} (f : X → List ℕ) (pages : List X) (n k : ℕ) → ArePages n (map f pages) → PAGE * k < length (concat (map f pages))
    → (k < length pages)
    × ((x : X) → x ≡ get_or pages k x → f x ≡ slice_range (concat (map f pages)) (PAGE * k) (min (PAGE * k + PAGE) (length (concat (map f pages)))))
page-at f pages n k p l =
    let size : n ≡ length (concat (map f pages)) = sym (length-pages n (map f pages) p) in
    let c = page-cells (map f pages) n k p (subst (λ (m : ℕ). PAGE * k < m) (sym size) l) in
    let within : k < length pages = subst (λ (m : ℕ). k < m) (length-map pages f) c.0 in (
      within,
      λ x e. sym (page-is f pages k x within e) ∙ c.1
          ∙ ap (λ (m : ℕ). slice_range (concat (map f pages)) (PAGE * k) (min (PAGE * k + PAGE) m)) size,
    )

-- each cell of a page holds a code
pub code-of-page : {X : Type 0} (f : X → List ℕ) (pages : List X) (n k p : ℕ) (x : X) → AreCells n (map f pages) → x ≡ get_or pages k x
    → f x ≡ slice_range (concat (map f pages)) (PAGE * k) (min (PAGE * k + PAGE) (length (concat (map f pages)))) → p < length (f x) → get_or (f x) p 0 < 32
code-of-page f pages n k p x cells e same h =
    let all = concat (map f pages) in
    let long : length (f x) ≡ length (take (min (PAGE * k + PAGE) (length all) - PAGE * k) (drop (PAGE * k) all)) = ap length same in
    let few : p < min (PAGE * k + PAGE) (length all) - PAGE * k =
    omega (arith, long, length-take (min (PAGE * k + PAGE) (length all) - PAGE * k) (drop (PAGE * k) all), length-drop (PAGE * k) all) in
    let page : (PAGE * k + p) / PAGE ≡ k = omega arith in
    let place : (PAGE * k + p) % PAGE ≡ p = omega arith in
    let c = has-cell f pages n (PAGE * k + p) cells (omega arith) in
    let is = c.value x (e ∙ ap (λ (i : ℕ). get_or pages i x) (sym page)) in
    subst (λ (m : ℕ). m < 32) (sym is ∙ ap (λ (i : ℕ). get_or (f x) i 0) place) c.code
