use Rattle.std.proofs.Common.{◌≡◌, true}
use Rattle.std.specs.List.{list_all}
use Rattle.std.specs.Prelude.{take}
use Rattle.commit_book.specs.Shown.{is_write}
use Rattle.commit_book.proofs.shown.all_write.Given as goal

abbrev pub invariant-loop-event : goal.invariant-loop-event
invariant-loop-event l = list_all is_write (take l.event-index l.events) ≡ true
