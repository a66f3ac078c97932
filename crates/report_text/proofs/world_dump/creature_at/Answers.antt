use Rattle.std.proofs.Common.{◌≡◌, ◌∙◌, ◌<◌, Some, ap, get_or, length, subst, sym}
use Rattle.std.proofs.lemmas.Option.{slice_get-get_or}
use Rattle.std.specs.Prelude.{option_map}
use Rattle.tierra_model.specs.declared.creatures.Creature.{Creature}
use Rattle.tierra_model.specs.Living.{one_of}
use Rattle.world_core.proofs.Within.{of_one, reaped_here}
use Rattle.report_text.proofs.world_dump.creature_at.Goals as goal

pub returns-clause-genotype : goal.returns-clause-genotype
returns-clause-genotype c =
    let w = c.args.world.now.world in
    let k = c.args.k in
    let sound = c.requires.sound in
    let here = reaped_here (record w { reaper = w.slicer }) k sound.slicer c.requires.within in
    let is : Some c.in-Some.creature.now ≡ Some (one_of w.living (get_or w.slicer k 0))
    = c.in-Some.ensures ∙ ap (option_map (one_of w.living)) (slice_get-get_or w.slicer k 0 c.requires.within) in
    let one : c.in-Some.creature.now ≡ one_of w.living (get_or w.slicer k 0) = cc in
    subst (λ (x : Creature). x.genotype < length w.genotypes) (sym one)
    (of_one (λ x. x.genotype < length w.genotypes) w.living (get_or w.slicer k 0) sound.genotype here)
