use Rattle.std.proofs.Common.{◌∙◌, ◌+◌, ap, arith, refl, subst, sym}
use Rattle.tierra_model.specs.declared.creatures.Creature.{Creature}
use Rattle.tierra_model.specs.declared.events.Event.TheVariants as event
use Rattle.tierra_model.specs.Events.{apply_event, record_after}
use Rattle.world_core.specs.Running.{IsRunning, WorldFields}
use Rattle.world_core.specs.contracts.running.Running.{the_view}
use Rattle.world_core.proofs.Within.{here_front, one_front, queued_front, small_front}
use Rattle.world_core.proofs.Tying.{tied-put}
use Rattle.world_core.proofs.EventWorlds.{after-err, with_lists}
use Rattle.world_core.proofs.running.Running.err.Goals as goal

pub err-requires : goal.err-requires
err-requires c =
    let r : IsRunning (the_view c.self.inside).world = subst (λ (h : WorldFields). IsRunning h.world) (sym c.self.view_is) c.requires in
    let small = small_front _ c.front.result.now r c.front.ensures in
    omega arith

pub error-requires-clause-here : goal.error-requires-clause-here
error-requires-clause-here c =
    let r : IsRunning (the_view c.self.inside).world = subst (λ (h : WorldFields). IsRunning h.world) (sym c.self.view_is) c.requires in
    rw c.err.ensures (here_front _ c.front.result.now r c.front.ensures)

pub error-requires-clause-queue : goal.error-requires-clause-queue
error-requires-clause-queue c =
    let r : IsRunning (the_view c.self.inside).world = subst (λ (h : WorldFields). IsRunning h.world) (sym c.self.view_is) c.requires in
    rw c.err.ensures (queued_front _ c.front.result.now r c.front.ensures)

pub error-requires-clause-errors : goal.error-requires-clause-errors
error-requires-clause-errors c =
    let r : IsRunning (the_view c.self.inside).world = subst (λ (h : WorldFields). IsRunning h.world) (sym c.self.view_is) c.requires in
    rw c.err.ensures (ap (λ (x : Creature). x.errors + 1) (sym (one_front _ c.front.result.now r c.front.ensures)))

pub error-requires-clause-small : goal.error-requires-clause-small
error-requires-clause-small c =
    let r : IsRunning (the_view c.self.inside).world = subst (λ (h : WorldFields). IsRunning h.world) (sym c.self.view_is) c.requires in
    let small = small_front _ c.front.result.now r c.front.ensures in
    rw c.err.ensures (omega arith)

pub invariant_of-self : goal.invariant_of-self
invariant_of-self c =
    let r : IsRunning (the_view c.self.inside).world = subst (λ (h : WorldFields). IsRunning h.world) (sym c.self.view_is) c.requires in
    let x = c.front.result.now in
    let e = c.front.ensures in
    let a : Creature = record_after event.Err x in
    rw (c.error.ensures.living, c.err.ensures)
    (tied-put c.self.inside.settings.soup_size c.self.inside.population.living c.self.inside.blocks c.self.inside.census x a
    (record { here = here_front _ x r e; once = r.once; found = one_front _ x r e; own = refl; genotype = refl }) refl c.self.invariant)

pub returns-clause-world : goal.returns-clause-world
returns-clause-world c =
    let r : IsRunning (the_view c.self.inside).world = subst (λ (h : WorldFields). IsRunning h.world) (sym c.self.view_is) c.requires in
    let x = c.front.result.now in
    (λ i. with_lists (the_view c.self.inside).world (c.error.ensures.living i) (c.error.ensures.slicer i) (c.error.ensures.reaper i))
    ∙ sym (after-err (the_view c.self.inside).world c.err.new.self r (c.err.ensures ∙ ap (record_after event.Err) c.front.ensures))
    ∙ ap (λ (h : WorldFields). apply_event h.world event.Err) c.self.view_is
