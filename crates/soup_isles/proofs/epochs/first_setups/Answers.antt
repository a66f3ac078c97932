use Rattle.std.proofs.Common.{◌∙◌, ◌++◌, [], ◌∷◌, ℕ, ap, arith, length, sym}
use Rattle.std.proofs.lemmas.List.Elements.{All-push}
use Rattle.std.proofs.lemmas.List.FromFn.{length-map-range_with_len, map-range_with_len_more}
use Rattle.tierra_model.specs.Setups.{IsSetup, SetupFields}
use Rattle.soup_isles.specs.Runs.{first_setup}
use Rattle.soup_isles.proofs.epochs.first_setups.Goals as goal

pub loop-place-preserved : goal.loop-place-preserved
loop-place-preserved c =
    let f = first_setup c.args.setup.now in
    let k = c.loop-place.place in (
      c.in_ok-push.ensures.items
          ∙ (λ i. c.loop-place.invariant.0 i ++ c.in_ok-first_setup.ensures.first i ∷ [])
          ∙ sym (map-range_with_len_more f 0 k k (omega arith)),
      rw c.in_ok-push.ensures.items (All-push IsSetup c.loop-place.items.items c.in_ok-first_setup.field-0 c.loop-place.invariant.1
          c.in_ok-first_setup.ensures.setup),
    )

pub returns-clause-count : goal.returns-clause-count
returns-clause-count c =
    let f : ℕ → SetupFields = first_setup c.args.setup.now in
    omega (arith, length-map-range_with_len f 0 c.loop-place.place, ap length c.loop-place.invariant.0)
