use Rattle.std.proofs.Common.{◌∙◌, subst, arith}
use Rattle.schedule_drill.proofs.drill.keeps_settings.Goals as goal
use Rattle.tierra_model.specs.Setups.{IsSetup}
use Rattle.tierra_model.proofs.StartIsSound.{serial_is_sound}

pub returns-clause-same : goal.returns-clause-same
returns-clause-same c =
    (serial_is_sound c.args.book.now.setup c.args.book.now.committed
    (subst IsSetup (c.behind-book.view_is ∙ c.setup.ensures) c.behind-book.invariant)
    (omega (arith, c.committed-committed.ensures.most, c.quanta-quanta.ensures.value, c.quanta-quanta.ensures.most))).settings
