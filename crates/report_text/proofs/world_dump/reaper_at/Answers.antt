use Rattle.std.proofs.Common.{◌∙◌, ap, slice_index}
use Rattle.std.proofs.lemmas.List.{get_or-map}
use Rattle.tierra_model.specs.declared.creatures.Standing.{Standing}
use Rattle.tierra_model.specs.Living.{one_of}
use Rattle.tierra_model.specs.Yard.{no_standing, standing}
use Rattle.tierra_model.proofs.Living.{one_of-id}
use Rattle.tierra_model.proofs.Owners.{is_here-times}
use Rattle.world_core.proofs.Within.{reaped_here}
use Rattle.report_text.proofs.world_dump.reaper_at.Goals as goal

pub returns : goal.returns
returns c =
    let w = c.args.world.now.world in
    let place = c.args.place in
    let id = slice_index w.reaper place in
    let within = c.requires.within in
    let here = is_here-times w.living id (reaped_here w place c.requires.sound.reaper within) in
    ap (λ (s : Standing). s.id) (c.standing.ensures ∙ get_or-map (λ i. standing (one_of w.living i)) w.reaper place 0 no_standing within)
    ∙ one_of-id w.living id here
