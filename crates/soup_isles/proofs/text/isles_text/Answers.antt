use Rattle.std.proofs.Common.{◌∙◌, ◌++◌, List, ℕ, ap, sym}
use Rattle.soup_isles.specs.Text.{isle_text}
use Rattle.soup_isles.proofs.Lines.{texts-more}
use Rattle.soup_isles.proofs.text.isles_text.Goals as goal

pub loop-place-preserved : goal.loop-place-preserved
loop-place-preserved c =
    let line = isle_text c.args.worlds.now in
    let k = c.loop-place.place in
    c.in_ok-add_isle.ensures ∙ ap (λ (t : List ℕ). t ++ line k) c.loop-place.invariant ∙ sym (texts-more line k)
