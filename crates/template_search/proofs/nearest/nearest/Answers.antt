use Rattle.std.proofs.Common.{◌≡◌, ◌≤◌, arith}
use Rattle.template_search.proofs.Distances.{found_far, found_near}
use Rattle.template_search.proofs.Keeping.{none_is_left}
use Rattle.template_search.proofs.nearest.nearest.Goals as goal

pub returns-in-Some-clause-passes : goal.returns-in-Some-clause-passes
returns-in-Some-clause-passes g c =
    let within : c.min-circle.result ≤ c.args.limit = omega (arith, c.min-circle.ensures) in
    found_near _ _ _ _ _ _ _ _ within _ _ _ c.in-Some.ensures.passes

pub nearest_again-requires-clause-none : goal.nearest_again-requires-clause-none
nearest_again-requires-clause-none g c =
    let full : c.min-circle.result ≡ c.args.course.size = omega (arith, c.min-circle.ensures) in
    none_is_left _ _ g.met.V.View.look_keeps_cells _ _ _ _ _ (rw full at c.in_default.ensures.passes)

pub returns-clause-passes : goal.returns-clause-passes
returns-clause-passes g c =
    let full : c.min-circle.result ≡ c.args.course.size = omega (arith, c.min-circle.ensures) in
    let within : c.args.course.size ≤ c.args.limit = omega (arith, c.min-circle.ensures) in
    found_far _ _ _ _ _ _ _ _ within _ _ _ _ (rw full at c.in_default.ensures.passes) c.nearest_again.ensures.passes
