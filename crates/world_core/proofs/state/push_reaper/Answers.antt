use Rattle.std.proofs.Common.{◌∙◌, ◌<◌, ◌++◌, ap, arith, get_or, length, sym}
use Rattle.std.proofs.lemmas.List.{flat_map_more, take_more}
use Rattle.std.specs.List.{flat_map}
use Rattle.byte_fields.specs.Writing.{eight}
use Rattle.world_core.proofs.state.push_reaper.Goals as goal

pub loop-place-preserved : goal.loop-place-preserved
loop-place-preserved c =
    let ids = c.args.running.now.world.reaper in
    let place = c.loop-place.place in
    let start = c.args.out.now.items in
    let within : place < length ids = omega arith in
    c.in_ok-push_eight.ensures ∙ (λ i. c.loop-place.invariant i ++ eight (c.reaper_at.ensures i)) ∙ flat_map_more eight start _ (get_or ids place 0)
    ∙ ap (λ l. start ++ flat_map eight l) (sym (take_more ids place 0 within))
