use Rattle.std.proofs.Common.{◌≡◌, ◌∙◌, ◌<◌, List, ℕ, ap, arith, length, rules, subst, sym}
use Rattle.std.specs.Prelude.{filter, not, remove, ◌==◌}
use Rattle.std.proofs.lemmas.Grind.{common_steps}
use Rattle.reaper_queue.specs.Reaper.{ReaperFields}
use Rattle.reaper_queue.specs.Standing.{StandsAt}
use Rattle.reaper_queue.proofs.Changes.{remove-filter}
use Rattle.reaper_queue.proofs.Once.{once_filter}
use Rattle.reaper_queue.proofs.reaper.Reaper.remove.Goals as goal
use Rattle.reaper_queue.proofs.reaper.Reaper.remove.Goals.{After-remove}

entries-is : (c : After-remove) → c.self.inside.entries.items ≡ c.args.self.now.entries
entries-is c = ap (λ (q : ReaperFields). q.entries) (c.self.view_is ∙ c.find_place-place.ensures.same)

-- what is left is the queue without the creature
left : (c : After-remove) → c.remove.new.self.items ≡ filter (λ x. not (x.0 == c.args.id)) c.self.inside.entries.items
left c =
    let xs = c.self.inside.entries.items in
    let here : StandsAt xs c.args.id c.find_place-place.result =
    subst (λ (l : List (ℕ × ℕ)). StandsAt l c.args.id c.find_place-place.result) (sym (entries-is c)) c.find_place-place.ensures.here in
    let within : c.find_place-place.result < length xs = here.within in
    let gone : c.remove.new.self.items ≡ remove xs c.find_place-place.result = grind (arith, common_steps) in
    gone ∙ remove-filter xs c.args.id c.find_place-place.result here

pub invariant_of-self : goal.invariant_of-self
invariant_of-self c = (
  search rules,
  rw (left ((goal.at.invariant_of-self c).After-remove)) (once_filter c.args.id c.self.inside.entries.items c.self.invariant.1),
)

pub returns-clause-entries : goal.returns-clause-entries
returns-clause-entries c =
    let d = (goal.at.returns-clause-entries c).After-remove in
    left d ∙ ap (filter (λ x. not (x.0 == c.args.id))) (entries-is d)
