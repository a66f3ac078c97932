use Rattle.std.proofs.Common.{◌+◌, ◌-◌, ◌≡◌, arith}
use Rattle.template_search.proofs.Distances.{none_in_vain, search_begins, search_fails, search_goes_over, straight_in_vain}
use Rattle.template_search.proofs.nearest.first_likely.Goals as goal

pub loop-near-init : goal.loop-near-init
loop-near-init g c =
    record {
      near = omega arith;
      tried = none_in_vain _ _ _ _ _ _ _ 0;
    }

pub returns-then-further-lt-LANES-clause-none : goal.returns-then-further-lt-LANES-clause-none
returns-then-further-lt-LANES-clause-none g c =
    let pair = c.pair_at.ensures in
    let all : c.loop-near.near + c.ruled_out-further.result - 0 ≡ c.loop-near.near + c.ruled_out-further.result = omega arith in
    rw (← all) (straight_in_vain _ _ _ _ _ _ _ c.ruled_out-further.result c.loop-near.near _ _ _ _ _ c.requires.size (omega arith) (omega arith) c.requires.behind
    c.requires.places pair.ahead pair.behind c.ruled_out-further.ensures.none c.loop-near.invariant.tried)

pub loop-near-preserved : goal.loop-near-preserved
loop-near-preserved g c =
    let pair = c.pair_at.ensures in
    record {
      near = omega arith;
      tried =
          straight_in_vain _ _ _ _ _ _ _ c.ruled_out-further.result c.loop-near.near _ _ _ _ _ c.requires.size (omega arith) (omega arith) c.requires.behind
          c.requires.places pair.ahead pair.behind c.ruled_out-further.ensures.none c.loop-near.invariant.tried;
    }

pub returns-clause-none : goal.returns-clause-none
returns-clause-none g c =
    let v = g.V.View in
    let a = c.args in
    let near = c.loop-near.near in
    let upto = c.next_likely.result in
    let all : upto - 0 ≡ upto = omega arith in
    let tried = search_goes_over v.cells v.looked a.course.size a.course.ip a.course.way 0 upto a.nops.now a.view.now 0 near _ a.view.now (omega arith) (omega arith)
    c.loop-near.invariant.tried (search_begins _ _ _ _ _ _ _ _ _) in
    let over = search_goes_over _ _ _ _ _ 0 upto _ _ near upto _ _ (omega arith) (omega arith) c.next_likely.ensures.none tried in
    rw (← all) (search_fails _ _ _ _ _ 0 upto _ _ upto _ (omega arith) over)
