use Rattle.std.proofs.Common.{◌≡◌, All, List, sym, subst}
use Rattle.std.proofs.lemmas.List.Elements.{All-push}
use Rattle.schedule_drill.specs.declared.moves.Move.{Move}
use Rattle.schedule_drill.specs.Moves.{IsOfHand}
use Rattle.crew_tests.proofs.schedules.moves_of.Goals as goal

pub loop-word-preserved : goal.loop-word-preserved
loop-word-preserved c =
    subst (λ (ms : List Move). All IsOfHand ms) (sym c.in_ok-push.ensures.items)
    (All-push IsOfHand c.loop-word.items.items c.move_of.result c.loop-word.invariant c.move_of.ensures)
