use Rattle.std.proofs.Common.{◌∙◌, ◌<◌}
use Rattle.std.proofs.lemmas.Result.{IfOk-weaker}
use Rattle.crew.specs.Beside.{IsOfRun}
use Rattle.crew.proofs.Later.{worked}
use Rattle.crew.proofs.beside.run_stretch.Goals as goal

pub returns-clause-of : goal.returns-clause-of
returns-clause-of g c = IfOk-weaker c.work_some.result _ (IsOfRun g.C.Course.setup g.C.Course.quanta)
    (λ b w.
    let on = worked c.stretch-most.result c.args.book b 0 w.0 c.stretch-most.ensures w.1 in
    record { setup = on.setup ∙ c.requires.of.setup; quanta = on.quanta ∙ c.requires.of.quanta })
    c.work_some.ensures.works

pub returns-clause-more : goal.returns-clause-more
returns-clause-more g c = IfOk-weaker c.work_some.result _ (λ b. c.args.book.committed < b.committed)
    (λ b w. (worked c.stretch-most.result c.args.book b 0 w.0 c.stretch-most.ensures w.1).more c.requires.left) c.work_some.ensures.works
