use Rattle.std.proofs.Common.{◌∙◌, sym, ◌++◌, ◌∷◌, [], arith}
use Rattle.std.proofs.lemmas.List.FromFn.{filter_of_map_range_with_len_more}
use Rattle.std.specs.Prelude.{filter}
use Rattle.soup_watch.specs.Seeing.{count_of, lives}
use Rattle.soup_watch.proofs.sight.counts_of.Goals as goal

pub loop-number-preserved : goal.loop-number-preserved
loop-number-preserved c =
    let count = count_of c.args.world.now.world in
    let n = c.loop-number.number in
    c.in_ok-add_living.ensures
    ∙ (λ i. c.loop-number.invariant i ++ filter lives (c.count_of.ensures i ∷ []))
    ∙ sym (filter_of_map_range_with_len_more lives count 0 n n (omega arith))
