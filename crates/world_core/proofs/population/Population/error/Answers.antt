use Rattle.std.proofs.Common.{◌≡◌, ◌∙◌, ◌<◌, ◌≤◌, ◌+◌, ◌^◌, ◌==◌, ℕ, List, ap, subst, sym, arith}
use Rattle.tierra_model.specs.Counting.{times_in}
use Rattle.tierra_model.specs.Living.{ids_of, one_of, with_record}
use Rattle.tierra_model.specs.Queue.{error_move}
use Rattle.reaper_queue.specs.Reaper.{errors_in, errors_of, ids_of as entry_ids, is_of, with_error}
use Rattle.world_core.specs.Population.{PopulationFields, entries_of}
use Rattle.world_core.proofs.Entries.{Moved, entries-error, errors-entries}
use Rattle.world_core.proofs.population.Population.error.Goals as goal
use Rattle.world_core.proofs.population.Population.error.Goals.{After-error, After-self}

here : (c : After-self) → 0 < times_in (ids_of c.self.inside.living.creatures) c.args.creature.id
here c = subst (λ (p : PopulationFields). 0 < times_in (ids_of p.living) c.args.creature.id) (sym c.self.view_is) c.requires.here

one_more : (c : After-self) → c.args.creature.errors ≡ (one_of c.self.inside.living.creatures c.args.creature.id).errors + 1
one_more c = subst (λ (p : PopulationFields). c.args.creature.errors ≡ (one_of p.living c.args.creature.id).errors + 1) (sym c.self.view_is) c.requires.errors

-- the queue has moved, with the errors of the record that is put in
moved : (c : After-error)
    → Moved (with_record c.args.creature c.self.inside.living.creatures)
    (error_move (λ id. id == c.args.creature.id) (λ id. (one_of (with_record c.args.creature c.self.inside.living.creatures) id).errors)
    (entry_ids c.self.inside.reaper.entries))
    c.error.new.self.entries
moved c =
    subst (Moved _ _)
    (sym (c.error.ensures.entries ∙ ap (λ (l : List (ℕ × ℕ)). error_move (is_of c.args.creature.id) errors_of (with_error c.args.creature.id l))
    c.self.invariant))
    (entries-error c.args.creature c.self.inside.living.creatures (entry_ids c.self.inside.reaper.entries) (here (goal.at.After-error c).After-self)
    (one_more (goal.at.After-error c).After-self))

pub error-requires-clause-small : goal.error-requires-clause-small
error-requires-clause-small c =
    let id = c.args.creature.id in
    let there : 0 < times_in (entry_ids c.self.inside.reaper.entries) id
    = subst (λ (p : PopulationFields). 0 < times_in p.reaper id) (sym c.self.view_is) c.requires.queue in
    let now : errors_in id c.self.inside.reaper.entries ≡ (one_of c.self.inside.living.creatures id).errors
    = ap (errors_in id) c.self.invariant ∙ errors-entries c.self.inside.living.creatures (entry_ids c.self.inside.reaper.entries) id there in
    let one : c.args.creature.errors ≡ (one_of c.self.inside.living.creatures id).errors + 1
    = subst (λ (p : PopulationFields). c.args.creature.errors ≡ (one_of p.living id).errors + 1) (sym c.self.view_is) c.requires.errors in
    let small : c.args.creature.errors ≤ 2 ^ 60 = c.requires.small in
    omega arith

pub invariant_of-self : goal.invariant_of-self
invariant_of-self c =
    let m = moved ((goal.at.invariant_of-self c).After-error) in
    m.shows ∙ (λ i. entries_of (sym c.put.ensures.creatures i) (sym m.holds i))

pub returns-clause-reaper : goal.returns-clause-reaper
returns-clause-reaper c =
    (moved ((goal.at.returns-clause-reaper c).After-error)).holds
    ∙ ap (λ (p : PopulationFields). error_move (λ id. id == c.args.creature.id) (λ id. (one_of (with_record c.args.creature p.living) id).errors) p.reaper)
    c.self.view_is
