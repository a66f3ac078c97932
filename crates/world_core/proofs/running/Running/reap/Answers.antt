use Rattle.std.proofs.Common.{◌≡◌, ◌∙◌, ◌<◌, ◌+◌, ℕ, List, ap, length, subst, sym}
use Rattle.std.specs.Prelude.{slice_index}
use Rattle.tierra_model.specs.declared.creatures.Creature.{Creature}
use Rattle.tierra_model.specs.declared.events.Event.TheVariants as event
use Rattle.tierra_model.specs.Counting.{times_in}
use Rattle.tierra_model.specs.Living.{ids_of, one_of}
use Rattle.tierra_model.specs.Events.{apply_event}
use Rattle.tierra_model.specs.World.{World}
use Rattle.tierra_model.specs.Sound.{IsPlaced}
use Rattle.world_core.specs.Running.{IsRunning, WorldFields}
use Rattle.world_core.specs.contracts.running.Running.{the_view}
use Rattle.std.specs.Prelude.{not}
use Rattle.tierra_model.specs.FreeList.{is_in_some, runs_of}
use Rattle.tierra_model.specs.Room.{is_owned}
use Rattle.tierra_model.specs.declared.creatures.Block.{Block}
use Rattle.tierra_model.specs.Replay.{CanHappen}
use Rattle.tierra_model.proofs.Living.{one_of-id}
use Rattle.tierra_model.proofs.Owners.{is_here-times}
use Rattle.world_core.proofs.Within.{of_one, reaped_here}
use Rattle.world_core.proofs.Ownership.{held_apart, held_below, owned_is_not_free, owns_held, runs-again}
use Rattle.world_core.proofs.Tying.{counted, tied-died}
use Rattle.world_core.proofs.EventWorlds.{after-reap, with_lists}
use Rattle.world_core.specs.declared.running.Running.TheInside.{Inside}
use Rattle.world_core.proofs.running.Running.reap.Goals as goal

-- the creature that dies lives, and is found under its number
record Dies (w : World) (place : ℕ) (x : Creature) : Type 0 where
  here : 0 < times_in (ids_of w.living) x.id
  found : one_of w.living x.id ≡ x
  number : x.id ≡ slice_index w.reaper place
  placed : IsPlaced w.settings.soup_size x

dies : (w : World) (place : ℕ) (x : Creature) → IsRunning w → place < length w.reaper → x ≡ one_of w.living (slice_index w.reaper place) → Dies w place x
dies w place x r h e =
    let id : ℕ = slice_index w.reaper place in
    let here : 0 < times_in (ids_of w.living) id = reaped_here w place r.reaper h in
    let number : x.id ≡ id = ap (λ (c : Creature). c.id) e ∙ one_of-id w.living id (is_here-times w.living id here) in
    record {
      here = subst (λ (k : ℕ). 0 < times_in (ids_of w.living) k) (sym number) here;
      found = ap (one_of w.living) number ∙ sym e;
      number = number;
      placed = subst (IsPlaced w.settings.soup_size) (sym e) (of_one (IsPlaced w.settings.soup_size) w.living id r.placed here);
    }

dying : (i : Inside) (h : WorldFields) (place : ℕ) (x : Creature) → the_view i ≡ h → IsRunning h.world → CanHappen h.world (event.Reap place)
    → x ≡ one_of i.population.living (slice_index i.population.reaper place) → Dies (the_view i).world place x
dying i h place x v r can e =
    dies (the_view i).world place x (subst (λ (k : WorldFields). IsRunning k.world) (sym v) r)
    (subst (λ (k : WorldFields). place < length k.world.reaper) (sym v) can.0) e

pub at-requires-clause-here : goal.at-requires-clause-here
at-requires-clause-here c =
    let r : IsRunning (the_view c.self.inside).world = subst (λ (h : WorldFields). IsRunning h.world) (sym c.self.view_is) c.requires.within in
    reaped_here (the_view c.self.inside).world c.args.place r.reaper
    (subst (λ (k : WorldFields). c.args.place < length k.world.reaper) (sym c.self.view_is) c.requires.can.0)

pub give_back_all-requires-clause-runs : goal.give_back_all-requires-clause-runs
give_back_all-requires-clause-runs c =
    runs-again _ _ _ (c.self.invariant.free ∙ (λ i. runs_of (sym c.self.invariant.size i) (λ p. not (is_owned c.self.inside.population.living p))))

pub give_back_all-requires-clause-within : goal.give_back_all-requires-clause-within
give_back_all-requires-clause-within c p h =
    let d = dying c.self.inside c.args.self.now c.args.place c.at.result.now c.self.view_is c.requires.within c.requires.can c.at.ensures in
    rw c.self.invariant.size (held_below c.self.inside.settings.soup_size c.at.result.now p d.placed h)

pub give_back_all-requires-clause-owned : goal.give_back_all-requires-clause-owned
give_back_all-requires-clause-owned c p h =
    let r : IsRunning (the_view c.self.inside).world = subst (λ (h : WorldFields). IsRunning h.world) (sym c.self.view_is) c.requires.within in
    let x = c.at.result.now in
    let n = c.self.inside.settings.soup_size in
    let living = c.self.inside.population.living in
    let d = dying c.self.inside c.args.self.now c.args.place x c.self.view_is c.requires.within c.requires.can c.at.ensures in
    ap (λ (f : List Block). is_in_some f p) c.self.invariant.free
    ∙ owned_is_not_free n living p (held_below n x p d.placed h) (owns_held living x p d.here r.once d.found h)

pub give_back_all-requires-clause-apart : goal.give_back_all-requires-clause-apart
give_back_all-requires-clause-apart c p h =
    let r : IsRunning (the_view c.self.inside).world = subst (λ (h : WorldFields). IsRunning h.world) (sym c.self.view_is) c.requires.within in
    let d = dying c.self.inside c.args.self.now c.args.place c.at.result.now c.self.view_is c.requires.within c.requires.can c.at.ensures in
    held_apart c.self.inside.population.living c.at.result.now p d.here r.once d.found (r.apart p) h

pub remove-requires-clause-here : goal.remove-requires-clause-here
remove-requires-clause-here c =
    (dying c.self.inside c.args.self.now c.args.place c.at.result.now c.self.view_is c.requires.within c.requires.can c.at.ensures).here

pub remove-requires-clause-slicer : goal.remove-requires-clause-slicer
remove-requires-clause-slicer c =
    let r : IsRunning (the_view c.self.inside).world = subst (λ (h : WorldFields). IsRunning h.world) (sym c.self.view_is) c.requires.within in
    let d = dying c.self.inside c.args.self.now c.args.place c.at.result.now c.self.view_is c.requires.within c.requires.can c.at.ensures in
    subst (λ (n : ℕ). 0 < n) (sym (r.slicer c.at.result.now.id)) d.here

pub remove-requires-clause-reaper : goal.remove-requires-clause-reaper
remove-requires-clause-reaper c =
    let r : IsRunning (the_view c.self.inside).world = subst (λ (h : WorldFields). IsRunning h.world) (sym c.self.view_is) c.requires.within in
    let d = dying c.self.inside c.args.self.now c.args.place c.at.result.now c.self.view_is c.requires.within c.requires.can c.at.ensures in
    subst (λ (n : ℕ). 0 < n) (sym (r.reaper c.at.result.now.id)) d.here

pub died-requires : goal.died-requires
died-requires c =
    let r : IsRunning (the_view c.self.inside).world = subst (λ (h : WorldFields). IsRunning h.world) (sym c.self.view_is) c.requires.within in
    let x = c.at.result.now in
    let d = dying c.self.inside c.args.self.now c.args.place x c.self.view_is c.requires.within c.requires.can c.at.ensures in
    counted c.self.inside.population.living c.self.inside.census x.id x d.here r.once d.found c.self.invariant.counts

pub invariant_of-self : goal.invariant_of-self
invariant_of-self c =
    let r : IsRunning (the_view c.self.inside).world = subst (λ (h : WorldFields). IsRunning h.world) (sym c.self.view_is) c.requires.within in
    let x = c.at.result.now in
    let d = dying c.self.inside c.args.self.now c.args.place x c.self.view_is c.requires.within c.requires.can c.at.ensures in
    rw c.remove.ensures.living
    (tied-died c.self.inside.settings.soup_size c.self.inside.population.living c.self.inside.blocks c.give_back_all.new.blocks c.self.inside.census
    c.died.new.self x.id x
    d.here r.once d.found r.apart c.give_back_all.ensures.size c.give_back_all.ensures.free c.died.ensures.living c.self.invariant)

pub returns-clause-world : goal.returns-clause-world
returns-clause-world c =
    let d = dying c.self.inside c.args.self.now c.args.place c.at.result.now c.self.view_is c.requires.within c.requires.can c.at.ensures in
    (λ i. record (with_lists (the_view c.self.inside).world (c.remove.ensures.living i) (c.remove.ensures.slicer i) (c.remove.ensures.reaper i))
    { deaths = c.self.inside.deaths + 1 })
    ∙ sym (after-reap (the_view c.self.inside).world c.args.place c.at.result.now.id d.number)
    ∙ ap (λ (h : WorldFields). apply_event h.world (event.Reap c.args.place)) c.self.view_is
