use Rattle.std.proofs.Common.{◌∙◌, sym}
use Rattle.std.specs.Arc.{arc_value}
use Rattle.tierra_model.specs.FreeList.{free_list}
use Rattle.tierra_model.specs.Replay.{after_events}
use Rattle.commit_book.proofs.ShownLemmas.{free-follows, still}
use Rattle.commit_book.proofs.shown.followed_free.Goals as goal

pub returns-then-all_keep_free : goal.returns-then-all_keep_free
returns-then-all_keep_free c =
    let w = c.args.world.now.world in
    let es = c.args.events.now in
    still arc_value c.args.was (free_list w) (free_list (after_events w es)) c.requires.was
    (free-follows w es c.settings-settings.ensures.sound c.requires.can c.requires.few (sym c.all_keep_free.ensures ∙ c.if-all_keep_free.true))
