use Rattle.std.proofs.lemmas.Result.{err_from_is_err_and}
use Rattle.byte_fields.specs.Reading.{list_at}
use Rattle.byte_fields.proofs.ListLoop.{goes_on, stops, is_done}
use Rattle.byte_fields.proofs.lists.list_of.Goals as goal

pub returns-in_err-field : goal.returns-in_err-field
returns-in_err-field g c =
    let p = err_from_is_err_and c.from_residual.result c.from_residual.ensures.1 in
    rw (p.1, p.2)
    (stops c.in_err-field.field-0.0 (g.F.Field.at c.args.format) c.loop.list.items c.args.count c.loop.counter c.loop.rest.now
    (list_at (g.F.Field.at c.args.format) c.args.count c.args.bytes.now) c.loop-test.true c.in_err-field.ensures c.loop.invariant)

pub loop-preserved : goal.loop-preserved
loop-preserved g c =
    let field = c.in_ok-field.field in
    rw c.in_ok-push.ensures.items (goes_on (g.F.Field.at c.args.format) c.loop.list.items c.args.count c.loop.counter c.loop.rest.now field
    c.in_ok-field.after.now
    (list_at (g.F.Field.at c.args.format) c.args.count c.args.bytes.now) c.loop-test.true c.in_ok-field.ensures c.loop.invariant)

pub returns : goal.returns
returns g c =
    is_done (g.F.Field.at c.args.format) c.loop.list.items c.args.count c.loop.counter c.loop.rest.now
    (list_at (g.F.Field.at c.args.format) c.args.count c.args.bytes.now) c.loop-test.false
    c.loop.invariant
