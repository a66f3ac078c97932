use Rattle.std.proofs.Common.{◌≡◌, true}
use Rattle.std.specs.List.{list_all}
use Rattle.std.specs.Prelude.{take}
use Rattle.commit_book.specs.Shown.{keeps_free}
use Rattle.commit_book.proofs.shown.all_keep_free.Given as goal

abbrev pub invariant-loop-event : goal.invariant-loop-event
invariant-loop-event l = list_all keeps_free (take l.event-index l.events) ≡ true
