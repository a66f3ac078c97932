use Rattle.std.proofs.Common.{◌≡◌, ◌∙◌, ◌<◌, ◌+◌, ◌*◌, ◌++◌, [], ◌∷◌, List, ap, length, map, min, refl, rules, subst, sym, ℕ}
use Rattle.std.proofs.lemmas.List.{map-append}
use Rattle.std.specs.Prelude.{slice_range}
use Rattle.soup_cells.specs.Pages.{page_cells}
use Rattle.soup_cells.specs.declared.page.Page.TheVariants.{Own}
use Rattle.soup_cells.proofs.Cutting.{AreCut, cut-push}
use Rattle.soup_cells.proofs.pages.Pages.cut.Goals as goal
use Rattle.soup_cells.specs.declared.page.TheConstants.{PAGE}

pub loop-number-preserved : goal.loop-number-preserved
loop-number-preserved c =
    let cells = c.args.cells.now in
    let start = PAGE * c.loop-number.number in
    let end = c.min-end.result in
    let pushed : map page_cells c.push.new.self.items ≡ map page_cells c.loop-number.pages.items ++ slice_range cells start end ∷ [] =
    ap (map page_cells) c.in_ok-push.ensures.items
    ∙ map-append page_cells c.loop-number.pages.items (Own c.in_ok-from_slice.field-0 ∷ [])
    ∙ ap (λ (page : List ℕ). map page_cells c.loop-number.pages.items ++ page ∷ []) {x = page_cells (Own c.in_ok-from_slice.field-0)}
    {y = slice_range cells start end} (search rules) in
    let more : PAGE * c.loop-number.number < length cells = search rules in
    let last : end ≡ min (PAGE * c.loop-number.number + PAGE) (length cells) = search rules in
    subst (AreCut cells (c.loop-number.number + 1)) (sym pushed)
    (cut-push cells c.loop-number.number start end (map page_cells c.loop-number.pages.items) more refl last c.loop-number.invariant)
