use Rattle.std.proofs.Common.{◌∙◌, ◌++◌, [], ◌∷◌, arith, sym}
use Rattle.std.proofs.lemmas.List.Elements.{All-push}
use Rattle.std.proofs.lemmas.List.FromFn.{map-range_with_len_more}
use Rattle.tierra_model.specs.Setups.{IsSetup}
use Rattle.soup_isles.specs.Isles.{next_setup}
use Rattle.soup_isles.proofs.migration.next_setups.Goals as goal

pub loop-place-preserved : goal.loop-place-preserved
loop-place-preserved c =
    let f = next_setup c.args.setups.now c.args.worlds.now c.args.seed.now c.args.epoch in
    let k = c.loop-place.place in (
      c.in_ok-push.ensures.items
          ∙ (λ i. c.loop-place.invariant.0 i ++ c.in_ok-next_setup.ensures.next i ∷ [])
          ∙ sym (map-range_with_len_more f 0 k k (omega arith)),
      rw c.in_ok-push.ensures.items (All-push IsSetup c.loop-place.items.items c.in_ok-next_setup.field-0 c.loop-place.invariant.1
          c.in_ok-next_setup.ensures.setup),
    )
