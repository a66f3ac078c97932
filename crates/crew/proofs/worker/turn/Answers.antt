use Rattle.std.proofs.Common.{rules, ◌≡◌, ◌∙◌, sym, subst, ℕ}
use Rattle.tierra_model.specs.Setups.{SetupFields}
use Rattle.crew.proofs.Seating.{may_give}
use Rattle.crew.proofs.worker.turn.Goals as goal

pub give-seat-requires-clause-value : goal.give-seat-requires-clause-value
give-seat-requires-clause-value g c =
    may_give c.args.seat c.take-turn.result.0 c.caller-caller.result _ _ c.take-turn.ensures.seat c.caller-caller.ensures.own c.take-turn.ensures.taken
    c.serve-served.ensures.gives

pub run-next-requires : goal.run-next-requires
run-next-requires g c =
    let book = c.serve-served.new.book in
    let run : (book.setup, book.quanta) ≡ c.args.crew.now.lock.now.opening.setup = c.serve-served.ensures.gives.setup ∙ c.take-turn.ensures.setup in
    let load : g.E.Errand.is_load book c.args.errand.now c.in-Ok.load = search rules in
    (book, subst (λ (r : SetupFields × ℕ). g.E.Errand.is_ready r c.args.errand.now) (sym run) c.requires.ready, load)
