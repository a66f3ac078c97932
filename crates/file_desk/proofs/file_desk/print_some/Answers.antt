use Rattle.std.proofs.Common.{◌∙◌}
use Rattle.file_desk.proofs.Known.{keeps_same, write_told}
use Rattle.file_desk.proofs.file_desk.print_some.Goals as goal

pub returns-in_default-clause-err : goal.returns-in_default-clause-err
returns-in_default-clause-err g c =
    keeps_same _ _ (g.met.W.SteadyWrite.steady c.loop.output c.write.new.self) c.in-Err.ensures.bytes ∙ c.loop.invariant

pub returns-in_default-2-clause-ok : goal.returns-in_default-2-clause-ok
returns-in_default-2-clause-ok g c =
    write_told _ _ _ c.write.result c.args.bytes.now c.loop.invariant (g.met.W.SteadyWrite.steady c.loop.output c.write.new.self)
    c.write.ensures.bytes

pub loop-preserved : goal.loop-preserved
loop-preserved g c =
    keeps_same _ _ (g.met.W.SteadyWrite.steady c.loop.output c.write.new.self) c.in-Err.ensures.bytes ∙ c.loop.invariant
