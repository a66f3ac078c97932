use Rattle.std.proofs.Common.{rules, ◌≡◌, All, List, ap, ◌∙◌, sym, subst}
use Rattle.std.proofs.lemmas.List.Elements.{All-push}
use Rattle.tierra_model.specs.Draw.{word}
use Rattle.schedule_drill.specs.declared.moves.Move.{Move}
use Rattle.schedule_drill.specs.Moves.{IsOfHand, move_of, seed_of}
use Rattle.schedule_drill.proofs.moves.moves_from.Goals as goal
use Rattle.schedule_drill.proofs.Made.{made-more}

pub loop-place-preserved : goal.loop-place-preserved
unfolding word
loop-place-preserved c =
    let drawn : c.next_word.result ≡ word (seed_of c.args.number) 0 c.loop-place._place = search rules in
    let made = made-more c.args.number c.loop-place._place c.loop-place.items.items c.move_of.result c.loop-place.invariant.0
    (c.move_of.ensures.is ∙ ap move_of drawn) in
    let hands =
    subst (λ (ms : List Move). All IsOfHand ms) (sym c.in_ok-push.ensures.items)
    (All-push IsOfHand c.loop-place.items.items c.move_of.result c.loop-place.invariant.1 c.move_of.ensures.hand) in
    (c.in_ok-push.ensures.items ∙ made, hands, search rules, search rules, search rules)
