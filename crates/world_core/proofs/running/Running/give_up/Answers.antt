use Rattle.std.proofs.Common.{◌≡◌, ◌∙◌, ◌<◌, List, true, ap, refl, subst, sym}
use Rattle.tierra_model.specs.declared.creatures.Creature.{Creature}
use Rattle.tierra_model.specs.declared.events.Event.TheVariants as event
use Rattle.tierra_model.specs.declared.creatures.Block.{Block}
use Rattle.tierra_model.specs.FreeList.{is_in_some}
use Rattle.tierra_model.specs.Events.{apply_event, record_after}
use Rattle.tierra_model.specs.Room.{holds}
use Rattle.world_core.specs.Running.{IsRunning, WorldFields}
use Rattle.world_core.specs.contracts.running.Running.{the_view}
use Rattle.world_core.proofs.Within.{daughter_block, placed_front, here_front, one_front}
use Rattle.world_core.proofs.Ownership.{held_daughter, in_block, owned_is_not_free, owns_held}
use Rattle.world_core.proofs.Tying.{tied-given_up}
use Rattle.world_core.proofs.EventWorlds.{after-give_up, with_lists}
use Rattle.world_core.proofs.running.Running.give_up.Goals as goal

pub give_back-requires-clause-within : goal.give_back-requires-clause-within
give_back-requires-clause-within c p h =
    let r : IsRunning (the_view c.self.inside).world = subst (λ (h : WorldFields). IsRunning h.world) (sym c.self.view_is) c.requires.within in
    let placed = placed_front _ c.front.result.now r c.front.ensures in
    rw c.self.invariant.size (in_block c.self.inside.settings.soup_size c.unwrap-block.result p
    (daughter_block _ c.front.result.now c.unwrap-block.result placed c.unwrap-block.ensures) h)

pub give_back-requires-clause-owned : goal.give_back-requires-clause-owned
give_back-requires-clause-owned c p h =
    let r : IsRunning (the_view c.self.inside).world = subst (λ (h : WorldFields). IsRunning h.world) (sym c.self.view_is) c.requires.within in
    let x = c.front.result.now in
    let n = c.self.inside.settings.soup_size in
    let living = c.self.inside.population.living in
    let placed = placed_front _ x r c.front.ensures in
    let below : p < n = in_block n c.unwrap-block.result p (daughter_block n x c.unwrap-block.result placed c.unwrap-block.ensures) h in
    let held : holds x p ≡ true = held_daughter x c.unwrap-block.result p c.unwrap-block.ensures h in
    ap (λ (f : List Block). is_in_some f p) c.self.invariant.free
    ∙ owned_is_not_free n living p below (owns_held living x p (here_front _ x r c.front.ensures) r.once (one_front _ x r c.front.ensures) held)

pub put-requires-clause-here : goal.put-requires-clause-here
put-requires-clause-here c =
    let r : IsRunning (the_view c.self.inside).world = subst (λ (h : WorldFields). IsRunning h.world) (sym c.self.view_is) c.requires.within in
    rw c.give_up.ensures (here_front _ c.front.result.now r c.front.ensures)

pub put-requires-clause-errors : goal.put-requires-clause-errors
put-requires-clause-errors c =
    let r : IsRunning (the_view c.self.inside).world = subst (λ (h : WorldFields). IsRunning h.world) (sym c.self.view_is) c.requires.within in
    rw c.give_up.ensures (ap (λ (x : Creature). x.errors) (one_front _ c.front.result.now r c.front.ensures))

pub invariant_of-self : goal.invariant_of-self
invariant_of-self c =
    let r : IsRunning (the_view c.self.inside).world = subst (λ (h : WorldFields). IsRunning h.world) (sym c.self.view_is) c.requires.within in
    let x = c.front.result.now in
    let e = c.front.ensures in
    let a : Creature = record_after event.GiveUp x in
    rw (c.put.ensures.living, c.give_up.ensures)
    (tied-given_up c.self.inside.settings.soup_size c.self.inside.population.living c.self.inside.blocks c.give_back.new.self c.self.inside.census x a
    c.unwrap-block.result
    (record {
      here = here_front _ x r e;
      once = r.once;
      found = one_front _ x r e;
      own = refl;
      genotype = refl;
    }) c.unwrap-block.ensures refl r.apart c.give_back.ensures.size c.give_back.ensures.free c.self.invariant)

pub returns-clause-world : goal.returns-clause-world
returns-clause-world c =
    (λ i. with_lists (the_view c.self.inside).world (c.put.ensures.living i) (c.put.ensures.slicer i) (c.put.ensures.reaper i))
    ∙ sym (after-give_up (the_view c.self.inside).world c.give_up.new.self (c.give_up.ensures ∙ ap (record_after event.GiveUp) c.front.ensures))
    ∙ ap (λ (h : WorldFields). apply_event h.world event.GiveUp) c.self.view_is
