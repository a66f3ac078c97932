use Rattle.std.proofs.Common.{◌≡◌, ◌∙◌, ◌<◌, ◌^◌, sym, ap, subst, arith, rules, List, ℕ}
use Rattle.tierra_model.specs.Queue.{error_move}
use Rattle.reaper_queue.specs.Reaper.{ReaperFields, is_of, errors_of, errors_in, with_error}
use Rattle.reaper_queue.specs.Standing.{StandsAt}
use Rattle.reaper_queue.proofs.Changes.{count-at, raised-at, stands-raised, once-error}
use Rattle.reaper_queue.proofs.reaper.Reaper.error.Goals as goal
use Rattle.reaper_queue.proofs.reaper.Reaper.error.Goals.{After-index, After-move_up}

entries-is : (c : After-index) → c.self.inside.entries.items ≡ c.args.self.now.entries
entries-is c = ap (λ (q : ReaperFields). q.entries) (c.self.view_is ∙ c.find_place-place.ensures.same)

here : (c : After-index) → StandsAt c.self.inside.entries.items c.args.id c.find_place-place.result
here c = subst (λ (xs : List (ℕ × ℕ)). StandsAt xs c.args.id c.find_place-place.result) (sym (entries-is c)) c.find_place-place.ensures.here

moved : (c : After-move_up) → c.move_up.new.entries.items ≡ error_move (is_of c.args.id) errors_of (with_error c.args.id c.self.inside.entries.items)
moved c =
    c.move_up.ensures.items
    ∙ ap (error_move (is_of c.args.id) errors_of)
    (sym (raised-at c.self.inside.entries.items c.args.id c.find_place-place.result (here ((goal.at.invariant_of-self c).After-index)) c.index.result.now
    c.index.ensures))

pub overflow_add-errors : goal.overflow_add-errors
overflow_add-errors c =
    let before : errors_in c.args.id c.self.inside.entries.items ≡ c.index.result.now.1 =
    count-at c.self.inside.entries.items c.args.id c.find_place-place.result (here c) c.index.result.now c.index.ensures in
    let small : errors_in c.args.id c.self.inside.entries.items < 2 ^ 60 = rw (entries-is c) c.requires.small in
    omega arith

pub move_up-requires-clause-here : goal.move_up-requires-clause-here
move_up-requires-clause-here c =
    stands-raised c.self.inside.entries.items c.args.id c.find_place-place.result (here ((goal.at.move_up-requires-clause-here c).After-index))
    c.index.result.now c.index.ensures

pub invariant_of-self : goal.invariant_of-self
invariant_of-self c = (
  search rules,
  rw (moved c) (once-error c.self.inside.entries.items c.args.id c.find_place-place.result (here ((goal.at.invariant_of-self c).After-index))),
)

pub returns-clause-entries : goal.returns-clause-entries
returns-clause-entries c =
    moved c ∙ ap (λ (xs : List (ℕ × ℕ)). error_move (is_of c.args.id) errors_of (with_error c.args.id xs))
    (entries-is ((goal.at.returns-clause-entries c).After-index))
