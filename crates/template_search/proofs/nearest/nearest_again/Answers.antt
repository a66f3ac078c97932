use Rattle.std.proofs.Common.{◌+◌, ◌-◌, ◌∙◌, ap, arith, length}
use Rattle.tierra_model.specs.Search.{candidates, is_complement}
use Rattle.template_search.proofs.Circling.{none_comes_later, reaches_again}
use Rattle.template_search.proofs.Traceless.{try_each_traceless}
use Rattle.template_search.proofs.nearest.nearest_again.Goals as goal

pub returns-then-is_known-clause-passes : goal.returns-then-is_known-clause-passes
returns-then-is_known-clause-passes g c =
    let view = c.args.view.now in
    let course = c.args.course in
    let vs = c.args.nops.now in
    let others = c.args.limit - course.size in
    let matches = is_complement course.size (g.V.View.cells view) vs in
    let traceless = c.is_known.ensures c.if-is_known.true in
    try_each_traceless _ _ course.size view (omega arith) (λ p below. traceless p (omega arith)) vs
    (candidates course.size course.ip (length vs) course.way others (course.size + 1))
    ∙ ap (λ o. (view, o))
    (none_comes_later course.size course.ip (length vs) course.way matches others (omega arith) c.requires.none)

pub nearest_round-requires-clause-places : goal.nearest_round-requires-clause-places
nearest_round-requires-clause-places g c =
    reaches_again _ _ _ _ _ (omega arith) c.first_pair-first.ensures.places
