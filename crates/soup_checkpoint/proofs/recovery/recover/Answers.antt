use Rattle.std.proofs.Common.{arith}
use Rattle.soup_checkpoint.proofs.Reading.{inside_there, rest_there}
use Rattle.soup_checkpoint.proofs.recovery.recover.Goals as goal

pub returns-clause-at_rest : goal.returns-clause-at_rest
returns-clause-at_rest c =
    let f = c.in_ok-frames.frames in
    let read = c.in_ok-frames.ensures.read in
    rest_there c.args.image.now f read.0 read.1 c.in_ok-frames.ensures.closed c.args.owner.now c.in_ok-check_owner.ensures.owned

pub returns-clause-inside : goal.returns-clause-inside
returns-clause-inside c =
    let read = c.in_ok-frames.ensures.read in
    inside_there c.args.image.now c.in_ok-frames.frames read.0 read.1 c.in_ok-frames.ensures.closed c.requires.long

pub overflow_add-result : goal.overflow_add-result
overflow_add-result c =
    let read = c.in_ok-frames.ensures.read in
    omega (arith, inside_there c.args.image.now c.in_ok-frames.frames read.0 read.1 c.in_ok-frames.ensures.closed c.requires.long, c.type_inv.image)
