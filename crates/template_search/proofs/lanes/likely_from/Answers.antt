use Rattle.std.proofs.Common.{◌<◌, ◌^◌, ◌∙◌, ℕ, ap, subst, sym}
use Rattle.std.specs.Int.{bit_at}
use Rattle.template_search.proofs.Sixteen.{likely_below, likely_differs, likely_mask}
use Rattle.template_search.proofs.lanes.likely_from.Goals as goal

pub returns-clause-below : goal.returns-clause-below
returns-clause-below c =
    let unlike = c.unlike_from-unlike in
    subst (λ (n : ℕ). n < 2 ^ 16) (sym (likely_mask unlike.result unlike.ensures.long)) (likely_below _ _ _ _ unlike.ensures)

pub returns-clause-differ : goal.returns-clause-differ
returns-clause-differ c j h none =
    let unlike = c.unlike_from-unlike in
    likely_differs _ _ _ _ unlike.ensures j h (ap (λ (n : ℕ). bit_at n j) (sym (likely_mask unlike.result unlike.ensures.long)) ∙ none)
