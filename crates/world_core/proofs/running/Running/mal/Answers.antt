use Rattle.std.proofs.Common.{◌≡◌, ◌∙◌, ◌≤◌, ◌+◌, List, None, ap, arith, refl, subst, sym}
use Rattle.tierra_model.specs.declared.creatures.Creature.{Creature}
use Rattle.tierra_model.specs.declared.events.Event.TheVariants as event
use Rattle.tierra_model.specs.declared.creatures.Block.{Block}
use Rattle.tierra_model.specs.FreeList.{is_in_some}
use Rattle.tierra_model.specs.Replay.{CanHappen}
use Rattle.tierra_model.specs.Events.{apply_event, record_after}
use Rattle.world_core.specs.Running.{IsRunning, WorldFields}
use Rattle.world_core.specs.contracts.running.Running.{the_view}
use Rattle.world_core.proofs.Within.{here_front, one_front}
use Rattle.world_core.proofs.Ownership.{free_is_not_owned, in_block}
use Rattle.world_core.proofs.Tying.{tied-taken}
use Rattle.world_core.proofs.EventWorlds.{after-mal, with_lists}
use Rattle.world_core.proofs.running.Running.mal.Goals as goal

pub take-requires : goal.take-requires
take-requires c =
    let can : CanHappen (the_view c.self.inside).world (event.Mal c.args.block.at c.args.block.size)
    = subst (λ (w : WorldFields). CanHappen w.world (event.Mal c.args.block.at c.args.block.size)) (sym c.self.view_is) c.requires.can in
    let lies : c.args.block.at + c.args.block.size ≤ c.self.inside.settings.soup_size = can.1.2 in
    omega (arith, c.self.inside.settings.soup)

pub take-requires-2-clause-free : goal.take-requires-2-clause-free
take-requires-2-clause-free c p h =
    let b = c.args.block in
    let n = c.self.inside.settings.soup_size in
    let can : CanHappen (the_view c.self.inside).world (event.Mal b.at b.size)
    = subst (λ (w : WorldFields). CanHappen w.world (event.Mal b.at b.size)) (sym c.self.view_is) c.requires.can in
    ap (λ (f : List Block). is_in_some f p) c.self.invariant.free
    ∙ free_is_not_owned n c.self.inside.population.living p (in_block n b p can.1 h) (can.2 p h)

pub put-requires-clause-here : goal.put-requires-clause-here
put-requires-clause-here c =
    let r : IsRunning (the_view c.self.inside).world = subst (λ (h : WorldFields). IsRunning h.world) (sym c.self.view_is) c.requires.within in
    rw c.take.ensures (here_front _ c.front.result.now r c.front.ensures)

pub put-requires-clause-errors : goal.put-requires-clause-errors
put-requires-clause-errors c =
    let r : IsRunning (the_view c.self.inside).world = subst (λ (h : WorldFields). IsRunning h.world) (sym c.self.view_is) c.requires.within in
    rw c.take.ensures (ap (λ (x : Creature). x.errors) (one_front _ c.front.result.now r c.front.ensures))

pub invariant_of-self : goal.invariant_of-self
invariant_of-self c =
    let r : IsRunning (the_view c.self.inside).world = subst (λ (h : WorldFields). IsRunning h.world) (sym c.self.view_is) c.requires.within in
    let x = c.front.result.now in
    let e = c.front.ensures in
    let a : Creature = record_after (event.Mal c.args.block.at c.args.block.size) x in
    let can : CanHappen (the_view c.self.inside).world (event.Mal c.args.block.at c.args.block.size)
    = subst (λ (w : WorldFields). CanHappen w.world (event.Mal c.args.block.at c.args.block.size)) (sym c.self.view_is) c.requires.can in
    let none : x.daughter ≡ None
    = ap (λ (y : Creature). y.daughter) e ∙ can.0 in
    rw (c.put.ensures.living, c.take.ensures)
    (tied-taken c.self.inside.settings.soup_size c.self.inside.population.living c.self.inside.blocks c.take-2.new.self c.self.inside.census x a c.args.block
    (record {
      here = here_front _ x r e;
      once = r.once;
      found = one_front _ x r e;
      own = refl;
      genotype = refl;
    }) none refl c.take-2.ensures.size c.take-2.ensures.free c.self.invariant)

pub returns-clause-world : goal.returns-clause-world
returns-clause-world c =
    (λ i. with_lists (the_view c.self.inside).world (c.put.ensures.living i) (c.put.ensures.slicer i) (c.put.ensures.reaper i))
    ∙ sym (after-mal (the_view c.self.inside).world c.take.new.self c.args.block.at c.args.block.size
    (c.take.ensures ∙ ap (record_after (event.Mal c.args.block.at c.args.block.size)) c.front.ensures))
    ∙ ap (λ (h : WorldFields). apply_event h.world (event.Mal c.args.block.at c.args.block.size)) c.self.view_is
