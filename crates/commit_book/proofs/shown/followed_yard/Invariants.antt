use Rattle.std.proofs.Common.{drop}
use Rattle.commit_book.proofs.ShownLemmas.{Followed}
use Rattle.commit_book.proofs.shown.followed_yard.Given as goal

abbrev pub invariant-loop-event : goal.invariant-loop-event
invariant-loop-event l = Followed l.world.world l.events l.event-index (drop l.event-index l.events) l.front l.number l.items.items
