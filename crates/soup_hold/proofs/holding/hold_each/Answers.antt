use Rattle.std.proofs.Common.{◌≡◌, ◌∙◌, ◌+◌, ◌-◌, ◌*◌, ◌/◌, ◌≤◌, ap, arith, refl, sym, subst, ℕ, Err}
use Rattle.std.specs.Prelude.{IfSome}
use Rattle.std.proofs.lemmas.Result.{err_from_is_err_and}
use Rattle.desk_io.specs.Desk.{Elapses}
use Rattle.soup_checkpoint.specs.declared.owner.Owner.{Owner}
use Rattle.tierra_model.specs.World.{World}
use Rattle.soup_hold.specs.Steps.{HasHeld, HoldsNext, IsHoldingNext, IsLargeAt}
use Rattle.soup_hold.specs.Stops.{IfRefused}
use Rattle.soup_hold.specs.Text.{held_line, held_quanta, world_at}
use Rattle.soup_hold.proofs.Places.{is_last, is_next, to_the_end}
use Rattle.soup_hold.proofs.Quanta.{mono}
use Rattle.soup_hold.proofs.Steps.{next_has_held, next_has_stopped, none_held}
use Rattle.soup_hold.proofs.holding.hold_each.Goals as goal

pub loop-number-init : goal.loop-number-init
loop-number-init g c =
    let first = c.args.world.world in
    let quanta = held_quanta c.args.every first.quanta c.args.quanta in
    let old = g.D.Desk.state c.args.desk.now in
    let from = c.quanta.result / c.args.every + 1 in
    let none : 0 ≡ from - from = omega arith in
    record {
      begun = omega arith;
      so_far = subst (λ (j : ℕ). HasHeld c.args.shelf.owner first quanta old old j c.args.shelf first) none
          (none_held c.args.shelf.owner first quanta old c.args.shelf refl c.requires.attached);
    }

pub overflow_mul-number : goal.overflow_mul-number
overflow_mul-number g c =
    let so_far = c.loop-number.invariant.so_far in
    let next = is_next c.args.world.world c.settings.ensures.sound c.args.every c.args.quanta c.quanta.result c.loop-number.number c.quanta.ensures
    (omega (arith, c.requires.every)) c.requires.not_beyond c.requires.few c.loop-number.invariant.begun c.loop-number-test.true
    c.loop-number.world.world so_far.world_is in
    omega (arith, next.within, c.requires.few)

pub hold_next-requires-clause-settings : goal.hold_next-requires-clause-settings
hold_next-requires-clause-settings g c =
    let so_far = c.loop-number.invariant.so_far in
    let next = is_next c.args.world.world c.settings.ensures.sound c.args.every c.args.quanta c.quanta.result c.loop-number.number c.quanta.ensures
    (omega (arith, c.requires.every)) c.requires.not_beyond c.requires.few c.loop-number.invariant.begun c.loop-number-test.true
    c.loop-number.world.world so_far.world_is in
    next.way.settings ∙ c.requires.settings ∙ sym (ap (λ (o : Owner). o.settings) so_far.owner_is)

pub hold_next-requires-clause-later : goal.hold_next-requires-clause-later
hold_next-requires-clause-later g c =
    let so_far = c.loop-number.invariant.so_far in
    let next = is_next c.args.world.world c.settings.ensures.sound c.args.every c.args.quanta c.quanta.result c.loop-number.number c.quanta.ensures
    (omega (arith, c.requires.every)) c.requires.not_beyond c.requires.few c.loop-number.invariant.begun c.loop-number-test.true
    c.loop-number.world.world so_far.world_is in
    next.way.later

pub hold_next-requires-clause-few : goal.hold_next-requires-clause-few
hold_next-requires-clause-few g c =
    let so_far = c.loop-number.invariant.so_far in
    let next = is_next c.args.world.world c.settings.ensures.sound c.args.every c.args.quanta c.quanta.result c.loop-number.number c.quanta.ensures
    (omega (arith, c.requires.every)) c.requires.not_beyond c.requires.few c.loop-number.invariant.begun c.loop-number-test.true
    c.loop-number.world.world so_far.world_is in
    omega (arith, next.within, c.requires.few)

pub returns-in_err-next_shelf-clause-stopped : goal.returns-in_err-next_shelf-clause-stopped
returns-in_err-next_shelf-clause-stopped g c =
    let first = c.args.world.world in
    let quanta = held_quanta c.args.every first.quanta c.args.quanta in
    let so_far = c.loop-number.invariant.so_far in
    let q = c.loop-number.number * c.args.every in
    let next = is_next first c.settings.ensures.sound c.args.every c.args.quanta c.quanta.result c.loop-number.number c.quanta.ensures
    (omega (arith, c.requires.every)) c.requires.not_beyond c.requires.few c.loop-number.invariant.begun c.loop-number-test.true
    c.loop-number.world.world so_far.world_is in
    let mid = g.D.Desk.state c.loop-number.desk in
    let new = g.D.Desk.state c.hold_next.new.desk in
    let moments = subst (λ (w : World). IfSome mid.reads (λ file. Elapses mid new (IsHoldingNext c.loop-number.shelf.owner file w (held_line q) mid.told)))
    next.way.on c.hold_next.ensures.moments in
    let large = subst (λ (w : World). IfRefused c.in_err-next_shelf.field-0.0 (IsLargeAt w q)) next.way.on c.in_err-next_shelf.ensures.large in
    let stop = err_from_is_err_and c.from_residual.result c.from_residual.ensures.1 in
    let is : c.from_residual.result ≡ Err c.in_err-next_shelf.field-0.0 = cc (stop.1, stop.2) in
    rw is (next_has_stopped c.args.shelf.owner first quanta so_far next.there new moments c.in_err-next_shelf.field-0.0 large
    c.in_err-next_shelf.ensures.told.partly c.in_err-next_shelf.ensures.counts)

pub loop-number-preserved : goal.loop-number-preserved
loop-number-preserved g c =
    let first = c.args.world.world in
    let quanta = held_quanta c.args.every first.quanta c.args.quanta in
    let so_far = c.loop-number.invariant.so_far in
    let q = c.loop-number.number * c.args.every in
    let next = is_next first c.settings.ensures.sound c.args.every c.args.quanta c.quanta.result c.loop-number.number c.quanta.ensures
    (omega (arith, c.requires.every)) c.requires.not_beyond c.requires.few c.loop-number.invariant.begun c.loop-number-test.true
    c.loop-number.world.world so_far.world_is in
    let old = g.D.Desk.state c.args.desk.now in
    let mid = g.D.Desk.state c.loop-number.desk in
    let new = g.D.Desk.state c.hold_next.new.desk in
    let from = c.quanta.result / c.args.every + 1 in
    let shelf = c.in_ok-next_shelf.next_shelf in
    let world = c.in_ok-next_shelf.next_world.world in
    let moments = subst (λ (w : World). IfSome mid.reads (λ file. Elapses mid new (IsHoldingNext c.loop-number.shelf.owner file w (held_line q) mid.told)))
    next.way.on c.hold_next.ensures.moments in
    let held = subst (λ (w : World). HoldsNext c.loop-number.shelf w mid new shelf) next.way.on c.in_ok-next_shelf.ensures.held in
    let is : world ≡ world_at first q = c.in_ok-next_shelf.ensures.world ∙ next.way.on in
    let more : (c.loop-number.number - from) + 1 ≡ c.loop-number.number + 1 - from = omega (arith, c.loop-number.invariant.begun) in
    record {
      begun = omega (arith, c.loop-number.invariant.begun);
      so_far = subst (λ (j : ℕ). HasHeld c.args.shelf.owner first quanta old new j shelf world) more
          (next_has_held c.args.shelf.owner first quanta so_far next.there new moments shelf world held is c.in_ok-next_shelf.ensures.told.all);
    }

pub returns-clause-held : goal.returns-clause-held
returns-clause-held g c =
    let first = c.args.world.world in
    let quanta = held_quanta c.args.every first.quanta c.args.quanta in
    let few = mono c.args.every first.quanta c.args.quanta (omega (arith, c.requires.every)) c.requires.not_beyond in
    let low : c.quanta.result / c.args.every ≤ c.args.quanta / c.args.every =
    subst (λ (m : ℕ). m / c.args.every ≤ c.args.quanta / c.args.every) (sym c.quanta.ensures) few in
    let last = is_last first c.settings.ensures.sound c.args.every c.args.quanta c.quanta.result c.loop-number.number c.quanta.ensures
    (omega (arith, c.requires.every)) c.requires.not_beyond c.requires.few c.loop-number.invariant.begun
    (omega (arith, c.loop-number.auto.number-end, low)) (omega (arith, c.loop-number-test.false)) in (
      c.loop-number.shelf,
      subst (λ (j : ℕ). HasHeld c.args.shelf.owner first quanta (g.D.Desk.state c.args.desk.now) (g.D.Desk.state c.loop-number.desk) j
          c.loop-number.shelf c.loop-number.world.world) last c.loop-number.invariant.so_far,
    )

pub returns-clause-later : goal.returns-clause-later
returns-clause-later g c =
    let so_far = c.loop-number.invariant.so_far in
    (to_the_end c.args.world.world c.settings.ensures.sound c.args.every c.args.quanta (omega (arith, c.requires.every)) c.requires.not_beyond
    c.requires.few (c.loop-number.number - (c.quanta.result / c.args.every + 1)) c.loop-number.world.world so_far.world_is so_far.inside).later

pub returns-clause-last : goal.returns-clause-last
returns-clause-last g c =
    let so_far = c.loop-number.invariant.so_far in
    (to_the_end c.args.world.world c.settings.ensures.sound c.args.every c.args.quanta (omega (arith, c.requires.every)) c.requires.not_beyond
    c.requires.few (c.loop-number.number - (c.quanta.result / c.args.every + 1)) c.loop-number.world.world so_far.world_is so_far.inside).on
