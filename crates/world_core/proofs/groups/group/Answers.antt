use Rattle.std.proofs.Common.{◌≡◌, ◌∙◌, ◌<◌, ◌+◌, ◌++◌, ◌∷◌, [], List, ap, get_or, length, map, subst, sym, take, ℕ}
use Rattle.std.proofs.lemmas.List.{get_or-map, length-map, map-append, map_more}
use Rattle.tierra_model.specs.Genebank.{saved_of}
use Rattle.tierra_model.specs.World.{Saving as ModelSaving}
use Rattle.world_core.specs.Savings.{no_saving}
use Rattle.world_state.specs.Savings.{saving_of, savings_of}
use Rattle.world_core.proofs.groups.group.Goals as goal

pub saved-requires-clause-known : goal.saved-requires-clause-known
saved-requires-clause-known c =
    let xs = c.args.savings.now in
    let i = c.loop-saving.saving-index in
    let within : i < length (savings_of xs) = rw (length-map xs saving_of) c.loop-saving-test.true in
    subst (λ (s : ModelSaving). s.genotype < length c.args.genotypes.now.genotypes)
    (get_or-map saving_of xs i no_saving (saving_of no_saving) c.loop-saving-test.true)
    (c.requires.known i (saving_of no_saving) within)

images-more : {X Y Z : Type 0} (g : Y → Z) (f : X → Y) (xs : List X) (i : ℕ) (d : X) → i < length xs
    → map g (map f (take (i + 1) xs)) ≡ map g (map f (take i xs)) ++ g (f (get_or xs i d)) ∷ []
images-more g f xs i d within = ap (map g) (map_more f xs i d within) ∙ map-append g (map f (take i xs)) (f (get_or xs i d) ∷ [])

pub loop-saving-preserved : goal.loop-saving-preserved
loop-saving-preserved c =
    let bank = saved_of c.args.genotypes.now.genotypes in
    c.in_ok-push.ensures.items ∙ (λ i. c.loop-saving.invariant i ++ c.in_ok-saved.ensures i ∷ [])
    ∙ sym (images-more bank saving_of c.args.savings.now c.loop-saving.saving-index _ c.loop-saving-test.true)
