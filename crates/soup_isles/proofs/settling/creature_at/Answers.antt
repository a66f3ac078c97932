use Rattle.std.proofs.Common.{◌≡◌, ◌∙◌, Some, ap, arith, get_or, subst, sym}
use Rattle.std.proofs.lemmas.Option.{slice_get-get_or}
use Rattle.std.specs.Prelude.{option_map}
use Rattle.tierra_model.specs.Living.{one_of}
use Rattle.tierra_model.specs.Sound.{IsPlaced}
use Rattle.world_core.proofs.Within.{of_one, reaped_here}
use Rattle.soup_isles.proofs.settling.creature_at.Goals as goal

pub returns-clause-lies : goal.returns-clause-lies
returns-clause-lies c =
    let w = c.args.world.now.world in
    let k = c.args.k in
    let sound = c.requires.sound in
    let here = reaped_here (record w { reaper = w.slicer }) k sound.slicer c.requires.within in
    let is : Some c.in-Some.creature.now ≡ Some (one_of w.living (get_or w.slicer k 0))
    = c.in-Some.ensures ∙ ap (option_map (one_of w.living)) (slice_get-get_or w.slicer k 0 c.requires.within) in
    let one : c.in-Some.creature.now ≡ one_of w.living (get_or w.slicer k 0) = cc in
    let placed : IsPlaced w.settings.soup_size c.in-Some.creature.now = subst (IsPlaced w.settings.soup_size) (sym one)
    (of_one (IsPlaced w.settings.soup_size) w.living (get_or w.slicer k 0) sound.placed here) in
    omega (arith, placed.own.2, sound.cells)
