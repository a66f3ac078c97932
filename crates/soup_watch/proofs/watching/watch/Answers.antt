use Rattle.std.proofs.Common.{◌≡◌, ◌++◌, ◌∙◌, ◌+◌, ℕ, ap, length, subst}
use Rattle.std.proofs.lemmas.Result.{IfOk-weaker}
use Rattle.report_text.specs.Report.{report}
use Rattle.tierra_model.specs.Serial.{serial}
use Rattle.tierra_model.specs.Setups.{SetupFields}
use Rattle.tierra_model.specs.World.{World}
use Rattle.turn_lock.specs.declared.view.Summary.{Summary}
use Rattle.commit_book.specs.Book.{BookFields, world_of}
use Rattle.soup_watch.specs.Seats.{IsWatched}
use Rattle.soup_watch.specs.Text.{sights_text}
use Rattle.soup_watch.specs.Watching.{AreSights, IsWatchText}
use Rattle.soup_watch.proofs.watching.watch.Goals as goal

pub see_end-requires-clause-watched : goal.see_end-requires-clause-watched
see_end-requires-clause-watched g c =
    let number : length c.add_seats.new.seats.items + 1 ≡ c.args.workers + 1 = c.in_ok-add_seats.ensures.all in
    subst (λ (k : ℕ). IsWatched c.in-Ok.lock.opening.setup.0 c.in-Ok.lock k c.args.looks c.in_ok-watched.watched) number c.in_ok-watched.ensures

pub returns : goal.returns
returns g c =
    let run : c.in-Ok.lock.opening.setup ≡ (c.args.setup, c.args.quanta) =
    ap (λ (s : Summary). s.setup) c.in-Ok.ensures.opening ∙ ap (λ (b : BookFields). (b.setup, b.quanta)) c.in_ok-book.ensures in
    let are : AreSights c.args.setup c.args.quanta c.args.looks c.in_ok-sights.sights.sights =
    subst (λ (r : SetupFields × ℕ). AreSights r.0 r.1 c.args.looks c.in_ok-sights.sights.sights) run c.in_ok-sights.ensures.sights in
    let end : World = world_of c.in_ok-sights.book in
    let is : end ≡ serial c.args.setup c.args.quanta = c.in_ok-sights.ensures.book ∙ ap (λ (r : SetupFields × ℕ). serial r.0 r.1) run in
    IfOk-weaker c.told.result (λ text. text ≡ sights_text c.in_ok-sights.sights.sights ++ report end) (IsWatchText c.args.setup c.args.quanta c.args.looks)
    (λ text h. (c.in_ok-sights.sights.sights, are, h ∙ ap (λ (w : World). sights_text c.in_ok-sights.sights.sights ++ report w) is)) c.told.ensures
