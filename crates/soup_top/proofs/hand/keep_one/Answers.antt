use Rattle.std.proofs.Common.{rules, refl, arith}
use Rattle.std.proofs.lemmas.Option.{slice_get_within}
use Rattle.std.proofs.lemmas.Result.{err_from_is_err_and}
use Rattle.soup_top.specs.Handing.{HasTaken, groups_of}
use Rattle.soup_top.proofs.Handed.{next_has_stopped, next_has_taken, run-few, that_bank}
use Rattle.soup_top.proofs.hand.keep_one.Given.{Over}
use Rattle.soup_top.proofs.hand.keep_one.Goals as goal
use Rattle.soup_top.proofs.hand.keep_one.Goals.{After-take_group}

-- where the one that is taken comes
so_far : (g : Over) (c : After-take_group g)
    → HasTaken c.args.start.now.bank.value (groups_of c.args.start.now) (g.D.Desk.state c.args.start.now.desk.value)
    (g.D.Desk.state c.args.desk.now) c.args.keeper.now.done c.in-Some.bank
so_far g c =
    let start = c.args.start.now in
    that_bank (HasTaken start.bank.value (groups_of start) (g.D.Desk.state start.desk.value) (g.D.Desk.state c.args.desk.now) c.args.keeper.now.done)
    c.args.keeper.now.bank c.in-Some.bank c.requires.way (search rules)

pub returns-in_err-bank-clause-stopped : goal.returns-in_err-bank-clause-stopped
returns-in_err-bank-clause-stopped g c =
    let result = err_from_is_err_and c.from_residual.result c.from_residual.ensures.1 in
    let taking = c.take_group.ensures in
    let stops = c.in_err-bank.ensures in
    rw (result.1, result.2) (next_has_stopped (so_far g (goal.at.returns-in_err-bank-clause-stopped g c).After-take_group) c.requires.next
    (g.D.Desk.state c.take_group.new.desk) taking.kept taking.moments c.in_err-bank.field-0.0 stops.differs stops.told.partly stops.counts)

pub overflow_add-keeper : goal.overflow_add-keeper
overflow_add-keeper g c =
    let start = c.args.start.now in
    let plan = start.plan.value in
    let few = run-few plan.setup plan.quanta plan.few.1 in
    let inside = slice_get_within (groups_of start) c.args.keeper.now.done c.args.group c.requires.next in
    omega (arith, few, inside)

pub returns-clause-way : goal.returns-clause-way
returns-clause-way g c =
    let taking = c.take_group.ensures in
    let takes = c.in_ok-bank.ensures in (
      c.in_ok-bank.bank,
      refl,
      next_has_taken (so_far g (goal.at.returns-clause-way g c).After-take_group) c.requires.next
          (g.D.Desk.state c.take_group.new.desk) taking.kept taking.moments c.in_ok-bank.bank takes.taken takes.told.all,
    )
