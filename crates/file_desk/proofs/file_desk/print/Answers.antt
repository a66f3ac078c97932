use Rattle.std.proofs.Common.{◌∙◌, arith}
use Rattle.file_desk.proofs.Known.{appended_more, appended_none, keeps_same, kept_whole, length-slice}
use Rattle.file_desk.proofs.file_desk.print.Goals as goal

pub loop-at-init : goal.loop-at-init
loop-at-init g c = (omega arith, appended_none (g.W.Write.contents c.args.output.now) c.args.piece.now)

pub loop-at-preserved : goal.loop-at-preserved
loop-at-preserved g c = (
  omega (arith, c.loop-at.invariant.0, c.in_ok-count.ensures.fits, length-slice c.loop-at.at c.args.piece.now),
  appended_more _ _ _ c.args.piece.now c.loop-at.at c.in_ok-count.count c.loop-at.invariant.1 c.in_ok-count.ensures.ok,
)

pub returns-clause-all : goal.returns-clause-all
returns-clause-all g c =
    kept_whole _ _ _ c.args.piece.now c.loop-at.at c.flush.result (omega (arith, c.loop-at-test.false)) c.loop-at.invariant.1
    (keeps_same _ _ (g.met.W.SteadyWrite.steady c.loop-at.output c.flush.new.self) c.flush.ensures.bytes)

pub returns-clause-partly : goal.returns-clause-partly
returns-clause-partly g c = (
  c.loop-at.at,
  keeps_same _ _ (g.met.W.SteadyWrite.steady c.loop-at.output c.flush.new.self) c.flush.ensures.bytes ∙ c.loop-at.invariant.1,
)
