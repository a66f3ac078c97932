use Rattle.std.proofs.Common.{◌≡◌, ◌∙◌, ap, sym, true}
use Rattle.std.specs.Arc.{arc_value}
use Rattle.std.specs.List.{list_all}
use Rattle.tierra_model.specs.FreeList.{free_list}
use Rattle.tierra_model.specs.Replay.{after_events}
use Rattle.tierra_model.specs.Yard.{yard}
use Rattle.commit_book.specs.Shown.{is_write}
use Rattle.commit_book.proofs.ShownLemmas.{still, writes-free, writes-yard}
use Rattle.commit_book.proofs.shown.Shown.follow.Goals as goal

pub returns-else-not-all_write : goal.returns-else-not-all_write
returns-else-not-all_write c =
    let w = c.args.world.now.world in
    let es = c.args.events.now in
    let shown = c.args.self.now in
    let only : list_all is_write es ≡ true =
    ap (list_all is_write) (sym (c.deref.ensures.value ∙ c.events.view_is)) ∙ sym c.all_write.ensures ∙ c.if-not-all_write.false in
    record {
      free = still arc_value shown.free (free_list w) (free_list (after_events w es)) c.requires.are.free (writes-free es w only);
      yard = still arc_value shown.yard (yard w) (yard (after_events w es)) c.requires.are.yard (writes-yard es w only);
    }
