use Rattle.std.proofs.Common.{◌≡◌, ◌∙◌, ◌+◌, ◌*◌, ◌<◌, ◌≤◌, List, ℕ, Bool, None, Option, Some, true, false, ap, arith, refl, subst, sym}
use Rattle.std.proofs.lemmas.Bool.Decides.{nat_tests}
use Rattle.std.proofs.lemmas.Option.{none-some}
use Rattle.std.specs.Prelude.{◌↔◌, ◌||◌, IsTrue, nat_le, not}
use Rattle.tierra_model.specs.declared.creatures.Block.{Block}
use Rattle.tierra_model.specs.declared.creatures.Creature.{Creature}
use Rattle.tierra_model.specs.declared.events.Event.TheVariants as event
use Rattle.tierra_model.specs.Blocks.{is_in}
use Rattle.tierra_model.specs.Events.{apply_event, record_after}
use Rattle.tierra_model.specs.FreeList.{is_in_some}
use Rattle.tierra_model.specs.Living.{with_record}
use Rattle.tierra_model.specs.Ranges.{IsBlock}
use Rattle.tierra_model.specs.Room.{filled, first_fit, holds, is_owned, room_for}
use Rattle.tierra_model.specs.World.{World, front}
use Rattle.block_alloc.specs.Runs.{AllBelow}
use Rattle.world_core.specs.Running.{IsRunning, WorldFields}
use Rattle.world_core.specs.contracts.running.Running.{the_view}
use Rattle.world_core.proofs.Again.{none-again, room-again}
use Rattle.world_core.proofs.Within.{daughter_block, front_placed, here_front, one_front}
use Rattle.world_core.proofs.Ownership.{held_daughter, in_block, owned_is_not_free, owns_held}
use Rattle.world_core.proofs.EventWorlds.{after-give_up}
use Rattle.world_core.proofs.Tying.{Puts}
use Rattle.world_core.proofs.running.Running.room_again.Goals as goal
use Rattle.world_core.proofs.running.Running.room_again.Goals.{After-filled}

module _ (c : After-filled) where
  abbrev w : World
  w = (the_view c.self.inside).world

  abbrev x : Creature
  x = front w

  abbrev size : ℕ
  size = c.self.inside.settings.soup_size

  runs : IsRunning w
  runs = subst (λ (h : WorldFields). IsRunning h.world) (sym c.self.view_is) c.requires.within

  held : x.daughter ≡ Some c.args.block
  held = ap (λ (h : WorldFields). (front h.world).daughter) c.self.view_is ∙ c.requires.held

  block : IsBlock size c.args.block
  block = daughter_block size x c.args.block (front_placed w runs) held

  below : AllBelow size c.args.block
  below p h = in_block size c.args.block p block h

  owned : (p : ℕ) → is_in c.args.block p ≡ true → is_in_some c.self.inside.blocks.free p ≡ false
  owned p h =
      let own : holds x p ≡ true = held_daughter x c.args.block p held h in
      ap (λ (f : List Block). is_in_some f p) c.self.invariant.free
      ∙ owned_is_not_free size w.living p (below p h) (owns_held w.living x p (here_front w x runs refl) runs.once (one_front w x runs refl) own)

  puts : Puts w.living x (record_after event.GiveUp x)
  puts = record { here = here_front w x runs refl; once = runs.once; found = one_front w x runs refl; own = refl; genotype = refl }

  count : c.filled.result ≡ filled size (λ p. not (is_in_some c.self.inside.blocks.free p))
  count = c.filled.ensures ∙ ap (λ (n : ℕ). filled n (λ p. not (is_in_some c.self.inside.blocks.free p))) c.self.invariant.size

  -- what is told of the world that the parts make is told of the world
  told : (b : Bool) (o : Option ℕ) → room_for c.self.inside.settings (λ p. is_owned (apply_event w event.GiveUp).living p) c.args.block.size ≡ o
      → IsTrue b ↔ (o ≡ Some c.args.block.at)
      → IsTrue b ↔ (room_for c.args.self.now.world.settings (λ p. is_owned (apply_event c.args.self.now.world event.GiveUp).living p) c.args.block.size
      ≡ Some c.args.block.at)
  told b o is h =
      subst (λ (k : WorldFields). IsTrue b ↔ (room_for k.world.settings (λ p. is_owned (apply_event k.world event.GiveUp).living p) c.args.block.size
      ≡ Some c.args.block.at)) c.self.view_is (subst (λ (r : Option ℕ). IsTrue b ↔ (r ≡ Some c.args.block.at)) (sym is) h)

  given_up : (apply_event w event.GiveUp).living ≡ with_record (record_after event.GiveUp x) w.living
  given_up = ap (λ (u : World). u.living) (after-give_up w (record_after event.GiveUp x) refl)

pub fits_again-requires-clause-some : goal.fits_again-requires-clause-some
fits_again-requires-clause-some c = (block ((goal.at.fits_again-requires-clause-some c).After-filled)).0

pub fits_again-requires-clause-within : goal.fits_again-requires-clause-within
fits_again-requires-clause-within c = rw c.self.invariant.size (below ((goal.at.fits_again-requires-clause-within c).After-filled))

pub fits_again-requires-clause-owned : goal.fits_again-requires-clause-owned
fits_again-requires-clause-owned c = owned ((goal.at.fits_again-requires-clause-owned c).After-filled)

pub returns-then-filled-most : goal.returns-then-filled-most
returns-then-filled-most c =
    let k = (goal.at.returns-then-filled-most c).After-filled in
    let s = c.self.inside.settings in
    let b = c.args.block in
    let blocks = c.self.inside.blocks in
    let most : c.filled.result * 100 ≤ s.fill_percent * s.soup_size
    = rw (c.from-filled.ensures, c.from.ensures, c.from-2.ensures) at c.if-filled-most.true in
    told k c.fits_again.result (first_fit s.soup_size (λ p. not (is_in_some blocks.free p || is_in b p)) b.size)
    (ap (λ (l : List Creature). room_for s (λ p. is_owned l p) b.size) (given_up k)
    ∙ room-again s (w k).living blocks c.self.inside.census (x k) (record_after event.GiveUp (x k)) b (puts k) (held k) refl (runs k).apart c.self.invariant
    (block k).0 (block k).2 (owned k) c.filled.result (count k) most)
    (subst (λ (n : ℕ). IsTrue c.fits_again.result ↔ (first_fit n (λ p. not (is_in_some blocks.free p || is_in b p)) b.size ≡ Some b.at)) c.self.invariant.size
    c.fits_again.ensures)

pub returns-else-filled-most : goal.returns-else-filled-most
returns-else-filled-most c =
    let k = (goal.at.returns-else-filled-most c).After-filled in
    let s = c.self.inside.settings in
    let b = c.args.block in
    let most : s.fill_percent * s.soup_size < c.filled.result * 100
    = rw (c.from-filled.ensures, c.from.ensures, c.from-2.ensures) at c.if-filled-most.false in
    let more : c.from.result * c.from-2.result < c.from-filled.result * 100 = c.if-filled-most.false in
    told k (nat_le (c.from-filled.result * 100) (c.from.result * c.from-2.result)) None
    (ap (λ (l : List Creature). room_for s (λ p. is_owned l p) b.size) (given_up k)
    ∙ none-again s (w k).living c.self.inside.blocks c.self.inside.census (x k) (record_after event.GiveUp (x k)) b (puts k) (held k) refl (runs k).apart
    c.self.invariant (block k).0 (block k).2 (owned k) c.filled.result (count k) most)
    (λ yes. absurd (grind (arith, nat_tests)), λ e. absurd (none-some b.at e))
