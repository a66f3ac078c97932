use Rattle.std.proofs.Common.{◌≡◌, ◌∙◌, ◌+◌, ◌<◌, ℕ, suc, List, ◌∷◌, ap, arith, drop, drop-cons, get_or, length, subst}
use Rattle.tierra_model.specs.declared.events.Event.{Event}
use Rattle.tierra_model.specs.declared.events.Event.TheVariants as event
use Rattle.tierra_model.specs.World.{World}
use Rattle.world_core.specs.Running.{WorldFields}
use Rattle.world_core.proofs.Replaying.{Doing, codes-next, doing-next, doing-none, doing-runs}
use Rattle.world_core.proofs.prepared.do_all.Goals as goal

pub loop-event-init : goal.loop-event-init
loop-event-init c = doing-none c.args.running.now c.args.events.now c.args.codes.items c.requires.sound c.requires.can c.requires.room

-- the event at place i is next
doing-now : (w : World) (es : List Event) (i : ℕ) (codes : List (List ℕ)) (h : WorldFields) → i < length es → Doing w es i (drop i es) codes h
    → Doing w es i (get_or es i (event.Write 0 0) ∷ drop (i + 1) es) codes h
doing-now w es i codes h within d =
    let e : Event = get_or es i (event.Write 0 0) in
    let next : suc i ≡ i + 1 = omega arith in
    subst (λ (l : List Event). Doing w es i l codes h) (drop-cons es i (event.Write 0 0) within ∙ ap (λ (k : ℕ). e ∷ drop k es) next) d

pub do_event-requires-clause-running : goal.do_event-requires-clause-running
do_event-requires-clause-running c = doing-runs _ _ _ _ _ _ c.loop-event.invariant

pub do_event-requires-clause-can : goal.do_event-requires-clause-can
do_event-requires-clause-can c = (doing-now _ _ _ _ _ c.loop-event-test.true c.loop-event.invariant).can.0

pub do_event-requires-clause-cell : goal.do_event-requires-clause-cell
do_event-requires-clause-cell c = (doing-now _ _ _ _ _ c.loop-event-test.true c.loop-event.invariant).cells.0

pub do_event-requires-clause-code : goal.do_event-requires-clause-code
do_event-requires-clause-code c =
    let es = c.args.events.now in
    let i = c.loop-event.event-index in
    let now = doing-now _ _ _ _ _ c.loop-event-test.true c.loop-event.invariant in
    codes-next c.loop-event.running.world (get_or es i (event.Write 0 0)) (drop (i + 1) es) c.loop-event.codes.items now.newborns

pub do_event-requires-clause-births : goal.do_event-requires-clause-births
do_event-requires-clause-births c = (let d = doing-now _ _ _ _ _ c.loop-event-test.true c.loop-event.invariant in omega (arith, d.births))

pub do_event-requires-clause-blocks : goal.do_event-requires-clause-blocks
do_event-requires-clause-blocks c = (let d = doing-now _ _ _ _ _ c.loop-event-test.true c.loop-event.invariant in omega (arith, d.blocks))

pub loop-event-preserved : goal.loop-event-preserved
loop-event-preserved c =
    let w = c.args.running.now.world in
    let es = c.args.events.now in
    let i = c.loop-event.event-index in
    let e : Event = get_or es i (event.Write 0 0) in
    let left = drop (i + 1) es in
    let next : suc i ≡ i + 1 = omega arith in
    let before : Doing w es i (e ∷ left) c.loop-event.codes.items c.loop-event.running
    = doing-now w es i c.loop-event.codes.items c.loop-event.running c.loop-event-test.true c.loop-event.invariant in
    let done = c.do_event.ensures in
    subst (λ (k : ℕ). Doing w es k left c.do_event.new.codes.items c.do_event.new.running) next
    (doing-next w es i e left c.loop-event.codes.items c.do_event.new.codes.items c.loop-event.running c.do_event.new.running before
    done.world done.ready done.births done.blocks done.codes)
