use Rattle.std.proofs.Common.{◌≡◌, ◌∙◌, ◌<◌, ℕ, ap, subst, sym}
use Rattle.tierra_model.specs.declared.creatures.Creature.{Creature}
use Rattle.tierra_model.specs.Counting.{times_in}
use Rattle.tierra_model.specs.Living.{ids_of}
use Rattle.tierra_model.specs.Replay.{RecordFits}
use Rattle.world_core.specs.declared.running.Running.TheInside.{Inside}
use Rattle.tierra_model.specs.World.{front}
use Rattle.world_core.specs.Running.{IsRunning, WorldFields}
use Rattle.world_core.specs.contracts.running.Running.{the_view}
use Rattle.world_core.proofs.Within.{found_front, front_here}
use Rattle.world_core.proofs.Tying.{tied-put}
use Rattle.world_core.proofs.running.Running.put.Goals as goal

fits : (i : Inside) (h : WorldFields) (after : Creature) → the_view i ≡ h → RecordFits (front h.world) after → RecordFits (front (the_view i).world) after
fits i h after e f = subst (λ (k : WorldFields). RecordFits (front k.world) after) (sym e) f

pub put-requires-clause-here : goal.put-requires-clause-here
put-requires-clause-here c =
    let r : IsRunning (the_view c.self.inside).world = subst (λ (h : WorldFields). IsRunning h.world) (sym c.self.view_is) c.requires.within in
    subst (λ (k : ℕ). 0 < times_in (ids_of c.self.inside.population.living) k)
    (sym (fits c.self.inside c.args.self.now c.args.after.now c.self.view_is c.requires.fits).id) (front_here _ r)

pub put-requires-clause-errors : goal.put-requires-clause-errors
put-requires-clause-errors c =
    let r : IsRunning (the_view c.self.inside).world = subst (λ (h : WorldFields). IsRunning h.world) (sym c.self.view_is) c.requires.within in
    let f = fits c.self.inside c.args.self.now c.args.after.now c.self.view_is c.requires.fits in
    ap (λ (x : Creature). x.errors) (found_front _ c.args.after.now r f.id) ∙ sym f.errors

pub invariant_of-self : goal.invariant_of-self
invariant_of-self c =
    let r : IsRunning (the_view c.self.inside).world = subst (λ (h : WorldFields). IsRunning h.world) (sym c.self.view_is) c.requires.within in
    let f = fits c.self.inside c.args.self.now c.args.after.now c.self.view_is c.requires.fits in
    rw c.put.ensures.living
    (tied-put c.self.inside.settings.soup_size c.self.inside.population.living c.self.inside.blocks c.self.inside.census (front (the_view c.self.inside).world)
    c.args.after.now
    (record {
      here = subst (λ (k : ℕ). 0 < times_in (ids_of c.self.inside.population.living) k) (sym f.id) (front_here _ r);
      once = r.once;
      found = found_front _ c.args.after.now r f.id;
      own = f.own;
      genotype = f.genotype;
    }) f.daughter c.self.invariant)
