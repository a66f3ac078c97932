use Rattle.std.proofs.Common.{◌≡◌, ◌∙◌, ◌<◌, ap, length, subst, sym}
use Rattle.tierra_model.specs.World.{World, put}
use Rattle.tierra_model.specs.Events.{turn_end}
use Rattle.tierra_model.specs.Replay.{after_events, replay}
use Rattle.tierra_model.specs.Sound.{IsSound}
use Rattle.world_core.specs.Running.{IsRunning, WorldFields}
use Rattle.world_core.specs.Prepared.{PreparedFields}
use Rattle.world_core.proofs.Preparing.{running-after}
use Rattle.world_core.proofs.world.World.apply.Goals as goal
use Rattle.world_core.proofs.world.World.apply.Goals.{After-do_all, After-turn_end}

-- the events are done
done : (c : After-do_all) → c.do_all.new.running.world ≡ after_events c.args.self.now.world c.args.prepared.events
done c =
    let events : c.deref.result.now ≡ c.args.prepared.events
    = c.deref.ensures.value ∙ c.events.view_is ∙ ap (λ (p : PreparedFields). p.events) c.prepared.view_is in
    c.do_all.ensures ∙ (λ i. after_events (c.deref_mut-running.ensures.value i).world (events i))
    ∙ ap (λ (h : WorldFields). after_events h.world c.args.prepared.events) c.self.view_is

runs : (c : After-do_all) → IsRunning c.do_all.new.running.world
runs c =
    let w : World = c.args.self.now.world in
    subst IsRunning (sym (done c))
    (running-after w c.args.prepared.events (subst (λ (h : WorldFields). IsSound h.world) c.self.view_is c.self.invariant) c.requires.fit.each
    c.requires.room.few)

-- and the quantum is ended
replayed : (c : After-turn_end) → c.turn_end.new.self.world ≡ replay c.args.prepared.events c.args.prepared.after c.args.self.now.world
unfolding replay
replayed c =
    let after : c.prepared.inside.after ≡ c.args.prepared.after = ap (λ (p : PreparedFields). p.after) c.prepared.view_is in
    c.turn_end.ensures.world ∙ ap turn_end (c.put.ensures.world ∙ (λ i. put (after i) (done ((goal.at.After-turn_end c).After-do_all) i)))

pub put-requires-clause-within : goal.put-requires-clause-within
put-requires-clause-within c = runs ((goal.at.put-requires-clause-within c).After-do_all)

pub turn_end-requires-clause-line : goal.turn_end-requires-clause-line
turn_end-requires-clause-line c = subst (λ (w : World). 0 < length w.slicer) (sym c.put.ensures.world)
    (runs ((goal.at.turn_end-requires-clause-line c).After-do_all)).line

pub turn_end-requires-clause-count : goal.turn_end-requires-clause-count
turn_end-requires-clause-count c = subst (λ (w : World). w.quanta < 1152921504606846976) (sym c.put.ensures.world)
    (runs ((goal.at.turn_end-requires-clause-count c).After-do_all)).quanta

pub invariant_of-self : goal.invariant_of-self
invariant_of-self c = subst IsSound (sym (replayed ((goal.at.invariant_of-self c).After-turn_end))) c.requires.fit.sound

pub returns : goal.returns
returns c = replayed ((goal.at.returns c).After-turn_end)
