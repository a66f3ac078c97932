use Rattle.std.proofs.Common.{◌∙◌, ap, arith, sym}
use Rattle.std.proofs.lemmas.Result.{err_from_is_err_and}
use Rattle.soup_checkpoint.specs.declared.owner.Owner.{Owner}
use Rattle.soup_hold.proofs.Settled.{first_settings}
use Rattle.soup_hold.proofs.Together.{begun_quietly, begun_time, done_then, stopped_attaching, stopped_beyond, stopped_then, went_on_unrefused, whole_time}
use Rattle.soup_hold.proofs.holding.hold.Goals as goal

pub returns-in_err-shelf-clause-quiet : goal.returns-in_err-shelf-clause-quiet
returns-in_err-shelf-clause-quiet g c =
    begun_quietly c.args.setup.now c.args.quanta c.args.every (g.D.Desk.state c.args.desk.now) (g.D.Desk.state c.begin.new.desk) c.begin.ensures.quiet

pub returns-in_err-shelf-clause-moments : goal.returns-in_err-shelf-clause-moments
returns-in_err-shelf-clause-moments g c =
    begun_time c.args.setup.now c.args.quanta c.args.every (g.D.Desk.state c.args.desk.now) (g.D.Desk.state c.begin.new.desk) c.begin.ensures.moments

pub returns-in_err-shelf-clause-stopped : goal.returns-in_err-shelf-clause-stopped
returns-in_err-shelf-clause-stopped g c =
    let stop = err_from_is_err_and c.from_residual.result c.from_residual.ensures.1 in
    rw (stop.1, stop.2) (stopped_attaching c.args.setup.now c.args.quanta c.args.every (g.D.Desk.state c.args.desk.now)
    (g.D.Desk.state c.begin.new.desk) c.in_err-shelf.field-0.0 c.begin.ensures.moments.told c.in_err-shelf.ensures.refused)

pub returns-then-held-quanta-clause-stopped : goal.returns-then-held-quanta-clause-stopped
returns-then-held-quanta-clause-stopped g c =
    stopped_beyond c.args.setup.now c.args.quanta c.args.every (g.D.Desk.state c.args.desk.now) (g.D.Desk.state c.begin.new.desk) c.in_ok-shelf.shelf
    c.in_ok-shelf.world.world c.in_ok-shelf.ensures.begun c.quanta-held.result c.quanta-held.ensures (omega (arith, c.if-held-quanta.true))
    c.begin.ensures.moments.told c.in_ok-shelf.ensures.kept

pub returns-then-held-quanta-clause-quiet : goal.returns-then-held-quanta-clause-quiet
returns-then-held-quanta-clause-quiet g c =
    begun_quietly c.args.setup.now c.args.quanta c.args.every (g.D.Desk.state c.args.desk.now) (g.D.Desk.state c.begin.new.desk) c.begin.ensures.quiet

pub returns-then-held-quanta-clause-moments : goal.returns-then-held-quanta-clause-moments
returns-then-held-quanta-clause-moments g c =
    begun_time c.args.setup.now c.args.quanta c.args.every (g.D.Desk.state c.args.desk.now) (g.D.Desk.state c.begin.new.desk) c.begin.ensures.moments

pub hold_from-requires-clause-settings : goal.hold_from-requires-clause-settings
hold_from-requires-clause-settings g c =
    first_settings c.args.setup.now (g.D.Desk.state c.args.desk.now).reads c.in_ok-shelf.world.world c.in_ok-shelf.ensures.begun.goes_on
    ∙ sym (ap (λ (o : Owner). o.settings) c.in_ok-shelf.ensures.begun.owner_is)

pub returns-clause-done : goal.returns-clause-done
returns-clause-done g c =
    done_then c.args.setup.now c.args.quanta c.args.every (g.D.Desk.state c.args.desk.now) (g.D.Desk.state c.begin.new.desk) c.in_ok-shelf.shelf
    c.in_ok-shelf.world.world c.in_ok-shelf.ensures.begun c.hold_from.result (g.D.Desk.state c.hold_from.new.desk)
    (omega (arith, c.if-held-quanta.false, c.quanta-held.ensures)) c.begin.ensures.moments.told c.hold_from.ensures.told c.hold_from.ensures.small
    c.hold_from.ensures.last

pub returns-clause-stopped : goal.returns-clause-stopped
returns-clause-stopped g c =
    stopped_then c.args.setup.now c.args.quanta c.args.every (g.D.Desk.state c.args.desk.now) (g.D.Desk.state c.begin.new.desk) c.in_ok-shelf.shelf
    c.in_ok-shelf.world.world c.in_ok-shelf.ensures.begun c.hold_from.result (g.D.Desk.state c.hold_from.new.desk)
    (omega (arith, c.if-held-quanta.false, c.quanta-held.ensures)) c.begin.ensures.moments.told c.hold_from.ensures.told
    c.hold_from.ensures.unfinished c.hold_from.ensures.large

pub returns-clause-quiet : goal.returns-clause-quiet
returns-clause-quiet g c =
    went_on_unrefused c.args.setup.now c.args.quanta c.args.every (g.D.Desk.state c.args.desk.now) (g.D.Desk.state c.begin.new.desk) c.in_ok-shelf.shelf
    c.in_ok-shelf.world.world c.in_ok-shelf.ensures.begun (g.D.Desk.state c.hold_from.new.desk)
    (omega (arith, c.if-held-quanta.false, c.quanta-held.ensures))

pub returns-clause-moments : goal.returns-clause-moments
returns-clause-moments g c =
    whole_time c.args.setup.now c.args.quanta c.args.every (g.D.Desk.state c.args.desk.now) (g.D.Desk.state c.begin.new.desk) c.in_ok-shelf.shelf
    c.in_ok-shelf.world.world c.in_ok-shelf.ensures.begun (g.D.Desk.state c.hold_from.new.desk)
    (omega (arith, c.if-held-quanta.false, c.quanta-held.ensures)) c.begin.ensures.moments c.hold_from.ensures.moments
