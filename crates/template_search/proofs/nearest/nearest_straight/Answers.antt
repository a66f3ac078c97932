use Rattle.std.proofs.Common.{◌+◌, ◌-◌, ◌≡◌, arith, length, rules}
use Rattle.template_search.specs.Reaching.{Reaches}
use Rattle.template_search.proofs.Distances.{search_begins, search_finds, search_goes_on, search_goes_over}
use Rattle.template_search.proofs.Reaching.{reaches_straight}
use Rattle.template_search.proofs.nearest.nearest_straight.Goals as goal

pub loop-near-init : goal.loop-near-init
loop-near-init g c =
    let v = g.V.View in
    let a = c.args in
    let near = c.first_likely-near.result in
    let all : near - 0 ≡ near = omega arith in
    record {
      size = c.requires.size;
      opening = c.requires.opening;
      near = c.first_likely-near.ensures.up_to;
      tried =
          search_goes_over v.cells v.looked a.course.size a.course.ip a.course.way 0 a.straight a.nops.now a.view.now 0 near a.view.now a.view.now (omega arith)
          (omega arith) (rw all c.first_likely-near.ensures.none) (search_begins _ _ _ _ _ _ _ _ _);
    }

pub returns-in-Some-clause-passes : goal.returns-in-Some-clause-passes
returns-in-Some-clause-passes g c =
    let near = c.loop-near.near in
    let pair = c.pair_at.result in
    let places : Reaches c.args.course.size c.args.course.ip (length c.args.nops.now) (near + 1) pair.ahead pair.behind =
    rw (c.pair_at.ensures.ahead, c.pair_at.ensures.behind)
    (reaches_straight _ _ _ 1 _ _ near (omega arith) (omega arith) c.requires.behind c.requires.places) in
    let all : c.args.straight - 0 ≡ c.args.straight = omega arith in
    rw (← all) (search_finds _ _ _ _ _ 0 _ _ _ near _ _ _ _ _ (omega arith) places c.in-Some.ensures.passes c.loop-near.invariant.tried)

pub loop-near-preserved : goal.loop-near-preserved
loop-near-preserved g c =
    let near = c.loop-near.near in
    let pair = c.pair_at.result in
    let places : Reaches c.args.course.size c.args.course.ip (length c.args.nops.now) (near + 1) pair.ahead pair.behind =
    rw (c.pair_at.ensures.ahead, c.pair_at.ensures.behind)
    (reaches_straight _ _ _ 1 _ _ near (omega arith) (omega arith) c.requires.behind c.requires.places) in
    let one = search_goes_on _ _ _ _ _ _ _ _ _ near _ _ _ _ (omega arith) places c.in_default.ensures.passes c.loop-near.invariant.tried in
    record {
      size = search rules;
      opening = c.loop-near.invariant.opening;
      near = c.next_likely-near.ensures.up_to;
      tried = search_goes_over _ _ _ _ _ 0 _ _ _ (near + 1) c.next_likely-near.result _ _ (omega arith) (omega arith) c.next_likely-near.ensures.none one;
    }
