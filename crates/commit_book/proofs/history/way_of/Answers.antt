use Rattle.commit_book.proofs.Recording.{keeps-more}
use Rattle.commit_book.proofs.history.way_of.Goals as goal

pub returns-in_ok-push-in-Stale-clause-lines : goal.returns-in_ok-push-in-Stale-clause-lines
returns-in_ok-push-in-Stale-clause-lines c =
    keeps-more c.args.differences.now.items c.push.new.self.items c.in-Stale.difference c.in_ok-push-in-Stale.ensures.items
