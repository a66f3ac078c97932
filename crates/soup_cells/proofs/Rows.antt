-- All cells of a row are ready that is not cut.
use Rattle.std.proofs.Common.{◌≡◌, ℕ, ◌+◌, ◌/◌, ◌<◌, List, ap, arith, false, get_or, length, replicate, set, true}
use Rattle.std.proofs.lemmas.List.{get_or-replicate, length-set}
use Rattle.soup_cells.specs.Soup.{SoupFields, is_ready}
use Rattle.soup_cells.specs.declared.page.TheConstants.{PAGE}

abbrev uncut : List ℕ → SoupFields
uncut row = record { cells = row; own = replicate ((length row + 16383) / PAGE) true }

pub row-ready : (row : List ℕ) (at : ℕ) → at < length row → is_ready (uncut row) at ≡ true
unfolding is_ready
row-ready row at l = get_or-replicate ((length row + 16383) / PAGE) (at / PAGE) true false (omega arith)

pub row-set : (row : List ℕ) (at v p : ℕ) → is_ready (uncut (set row at v)) p ≡ is_ready (uncut row) p
unfolding is_ready
row-set row at v p =
    ap (λ (n : ℕ). get_or (replicate ((n + 16383) / PAGE) true) (p / PAGE) false) (length-set row at v)
