use Rattle.std.proofs.Common.{◌≡◌, ◌∙◌, ◌<◌, List, ◌∷◌, ◌++◌, ap, drop, length, subst, sym}
use Rattle.std.proofs.lemmas.List.Elements.{All-head, All-tail}
use Rattle.std.specs.Prelude.{All, slice_range}
use Rattle.tierra_model.specs.Groups.{GroupFields, IsGroup}
use Rattle.tierra_model.specs.World.{Saving as ModelSaving}
use Rattle.world_core.specs.Groups.{group_of, grouped}
use Rattle.world_core.specs.Savings.{quantum_of}
use Rattle.world_state.specs.Savings.{savings_of}
use Rattle.world_core.proofs.Runs.{first-run, part-known}
use Rattle.world_core.proofs.groups.all_groups.Goals as goal
use Rattle.world_core.proofs.groups.all_groups.Goals.{After-run_end-end}

-- the group of the savings that begin at the place comes first
first : (c : After-run_end-end)
    → grouped c.args.genotypes.now.genotypes (savings_of (drop c.loop-at.at c.args.saved.now))
    ≡ group_of c.args.genotypes.now.genotypes (quantum_of (slice_range c.args.saved.now c.loop-at.at c.run_end-end.result))
    (savings_of (slice_range c.args.saved.now c.loop-at.at c.run_end-end.result))
    ∷ grouped c.args.genotypes.now.genotypes (savings_of (drop c.run_end-end.result c.args.saved.now))
first c =
    first-run c.args.genotypes.now.genotypes c.args.saved.now c.loop-at.at c.run_end-end.result c.run_end-end.ensures.within c.run_end-end.ensures.end
    c.run_end-end.ensures.same c.run_end-end.ensures.other

pub take_group-requires-clause-known : goal.take_group-requires-clause-known
take_group-requires-clause-known c =
    part-known (λ (s : ModelSaving). s.genotype < length c.args.genotypes.now.genotypes) c.args.saved.now c.loop-at.at c.run_end-end.result c.requires.known

pub take_group-requires-clause-range : goal.take_group-requires-clause-range
take_group-requires-clause-range c =
    All-head IsGroup _ _ (subst (All IsGroup) (first ((goal.at.take_group-requires-clause-range c).After-run_end-end)) c.loop-at.invariant.1)

pub loop-at-preserved : goal.loop-at-preserved
loop-at-preserved c =
    let gs = c.args.genotypes.now.genotypes in
    let rest = grouped gs (savings_of (drop c.run_end-end.result c.args.saved.now)) in
    let split = first ((goal.at.loop-at-preserved c).After-run_end-end) in (
      c.run_end-end.ensures.end,
      All-tail IsGroup _ _ (subst (All IsGroup) split c.loop-at.invariant.1),
      c.in_ok-take_group.ensures rest ∙ ap (λ (l : List GroupFields). c.loop-at.items.items ++ drop c.loop-at.skip l) (sym split) ∙ c.loop-at.invariant.2,
    )
