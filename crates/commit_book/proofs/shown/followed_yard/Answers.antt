use Rattle.std.proofs.Common.{◌≡◌, ◌∙◌, ◌+◌, ℕ, suc, List, ◌∷◌, ap, arith, drop, drop-cons, get_or, subst}
use Rattle.std.specs.Arc.{arc_value}
use Rattle.std.specs.Prelude.{IfSome, Option}
use Rattle.std.specs.declared.alloc.Global.{Global}
use Rattle.std.specs.declared.sync.Arc.{Arc}
use Rattle.tierra_model.specs.declared.events.Event.{Event}
use Rattle.tierra_model.specs.declared.events.Event.TheVariants as event
use Rattle.tierra_model.specs.declared.lists.Yard.{Yard}
use Rattle.tierra_model.specs.Replay.{after_events}
use Rattle.tierra_model.specs.Yard.{yard}
use Rattle.commit_book.proofs.ShownLemmas.{Followed, followed-all, followed-inside, followed-next, followed-none, followed-small, some-shared}
use Rattle.commit_book.proofs.shown.followed_yard.Goals as goal

pub loop-event-init : goal.loop-event-init
loop-event-init c =
    let w = c.args.world.now.world in
    let was : arc_value c.in_ok-was.field-0 ≡ yard w =
    subst (λ (o : Option (Arc Yard Global)). IfSome o (λ a. arc_value a ≡ yard w)) c.in_ok-was.was c.requires.was in
    followed-none w c.args.events.now c.front.result.now c.next_birth-number.result c.in_ok-items.items.items c.settings-settings.ensures.sound c.requires.can
    c.requires.few
    c.front.ensures c.next_birth-number.ensures (c.in_ok-items.ensures ∙ was)

pub shown_after-front-requires : goal.shown_after-front-requires
shown_after-front-requires c =
    let w = c.args.world.now.world in
    let es = c.args.events.now in
    let i = c.loop-event.event-index in
    let e : Event = get_or es i (event.Write 0 0) in
    let left = drop (i + 1) es in
    let next : suc i ≡ i + 1 = omega arith in
    let split : drop i es ≡ e ∷ left = drop-cons es i (event.Write 0 0) (omega arith) ∙ ap (λ (k : ℕ). e ∷ drop k es) next in
    let before : Followed w es i (e ∷ left) c.loop-event.front c.loop-event.number c.loop-event.items.items =
    subst (λ (l : List Event). Followed w es i l c.loop-event.front c.loop-event.number c.loop-event.items.items) split c.loop-event.invariant in
    let small = followed-small w es i (e ∷ left) c.loop-event.front c.loop-event.number c.loop-event.items.items before in
    record {
      errors = small.0;
      bred = small.1;
      inside = followed-inside w es i e left c.loop-event.front c.loop-event.number c.loop-event.items.items before;
    }

pub number_after-number-requires : goal.number_after-number-requires
number_after-number-requires c =
    let es = c.args.events.now in
    let i = c.loop-event.event-index in
    (followed-small c.args.world.now.world es i (drop i es) c.loop-event.front c.loop-event.number c.loop-event.items.items c.loop-event.invariant).2

pub loop-event-preserved : goal.loop-event-preserved
loop-event-preserved c =
    let w = c.args.world.now.world in
    let es = c.args.events.now in
    let i = c.loop-event.event-index in
    let e : Event = get_or es i (event.Write 0 0) in
    let left = drop (i + 1) es in
    let next : suc i ≡ i + 1 = omega arith in
    let split : drop i es ≡ e ∷ left = drop-cons es i (event.Write 0 0) (omega arith) ∙ ap (λ (k : ℕ). e ∷ drop k es) next in
    let before : Followed w es i (e ∷ left) c.loop-event.front c.loop-event.number c.loop-event.items.items =
    subst (λ (l : List Event). Followed w es i l c.loop-event.front c.loop-event.number c.loop-event.items.items) split c.loop-event.invariant in
    subst (λ (k : ℕ). Followed w es k left c.shown_after-front.result c.number_after-number.result c.follow_event.new.items.items) next
    (followed-next w es i e left c.loop-event.front c.shown_after-front.result c.loop-event.number c.number_after-number.result c.loop-event.items.items
    c.follow_event.new.items.items before c.shown_after-front.ensures c.number_after-number.ensures (c.follow_event.ensures c.if-not-follow_event.false))

pub returns : goal.returns
returns c =
    let w = c.args.world.now.world in
    let es = c.args.events.now in
    let all : c.loop-event.items.items ≡ yard (after_events w es) =
    followed-all w es c.loop-event.event-index c.loop-event.front c.loop-event.number c.loop-event.items.items c.loop-event-test.false c.loop-event.invariant in
    some-shared c.new.result c.ok.result c.loop-event.items.items (yard (after_events w es)) c.ok.ensures.value c.new.ensures.ok all
