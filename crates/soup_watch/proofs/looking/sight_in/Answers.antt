use Rattle.std.proofs.Common.{◌≡◌, ◌∙◌, ap, arith, subst}
use Rattle.std.proofs.lemmas.Result.{IfOk-weaker}
use Rattle.tierra_model.specs.Setups.{IsSetup}
use Rattle.tierra_model.proofs.StartIsSound.{serial_is_sound}
use Rattle.tierra_model.specs.World.{World}
use Rattle.soup_watch.specs.declared.sight.Sight.{Sight}
use Rattle.soup_watch.proofs.looking.sight_in.Goals as goal

-- the serial world after that quantum has them
pub returns-clause-quanta : goal.returns-clause-quanta
returns-clause-quanta c =
    let book = c.args.book.now in
    let is : IsSetup book.setup = subst IsSetup (c.behind-book.view_is ∙ c.setup.ensures) c.behind-book.invariant in
    let few = c.quanta-quanta.ensures.most in
    let all = c.quanta-quanta.ensures.value in
    let most = c.committed-committed.ensures.most in
    let now = c.committed-committed.ensures.value in
    let quanta = (serial_is_sound book.setup book.committed is (omega arith)).quanta in
    IfOk-weaker c.sight_of.result _ (λ s. s.quanta ≡ book.committed)
    (λ s same. ap (λ (x : Sight). x.quanta) same ∙ ap (λ (w : World). w.quanta) c.world.ensures ∙ quanta) c.sight_of.ensures
