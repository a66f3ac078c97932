-- A mal that gives the daughter block up and gets the very same one again.
use Rattle.std.proofs.Common.{◌≡◌, ℕ, ◌+◌, refl, sym, ◌∙◌, ap, subst, arith}
use Rattle.std.specs.Prelude.{None, Option, Some, IsSome}
use Rattle.tierra_model.specs.declared.creatures.Block.{Block}
use Rattle.tierra_model.specs.declared.creatures.Creature.{Creature}
use Rattle.tierra_model.specs.declared.events.Event.TheVariants as event
use Rattle.tierra_model.specs.declared.parameters.Settings.{Settings}
use Rattle.tierra_model.specs.Events.{apply_event, record_after}
use Rattle.tierra_model.specs.Quantum.{give_up, mal, make_room, world_machine}
use Rattle.tierra_model.specs.Queue.{number_of_others}
use Rattle.tierra_model.specs.Replay.{CanHappen}
use Rattle.tierra_model.specs.Room.{is_owned, room_for}
use Rattle.tierra_model.specs.World.{World, front, put}
use Rattle.tierra_model.proofs.AnyMachine.{room-some}
use Rattle.tierra_model.proofs.Commutes.{put_after-put}
use Rattle.tierra_model.proofs.EventEffects.{settings-event}
use Rattle.serial_slicer.specs.ReadyLaws.{quantum_fewer}
use Rattle.serial_slicer.specs.Turns.{IsReady, SoleFields, sole_after}
use Rattle.serial_slicer.proofs.Turns.{can_give_up, now, number, ready_after, same_room, starts_here, state_after}

module _ (c : Creature) (v : SoleFields) (n : ℕ) (r : IsReady c v (n + 1)) (b : Block) (held : c.daughter ≡ Some b) where
  abbrev w : World
  w = v.world

  -- the record once the block is given up, and once it is taken again
  abbrev without_block : Creature
  without_block = record_after event.GiveUp c

  abbrev pub with_block : Creature
  with_block = record_after (event.Mal b.at b.size) c

  given_up : apply_event (put c w) event.GiveUp ≡ put without_block w
  unfolding apply_event
  given_up = put_after-put event.GiveUp w c (starts_here c v (n + 1) r) (number c v (n + 1) r)

  taken_again : apply_event (put without_block w) (event.Mal b.at b.size) ≡ put with_block w
  unfolding apply_event
  taken_again = put_after-put (event.Mal b.at b.size) w without_block (starts_here c v (n + 1) r) (number c v (n + 1) r)

  held_now : (front (put c w)).daughter ≡ Some b
  held_now = ap (λ (x : Creature). x.daughter) (now c v (n + 1) r) ∙ held

  can : CanHappen w event.GiveUp
  can = can_give_up c v (n + 1) r (subst (λ (o : Option Block). IsSome o) (sym held_now) refl)

  -- where the block goes is asked of the world without the record of the turn
  room : room_for w.settings (λ p. is_owned (apply_event w event.GiveUp).living p) b.size ≡ Some b.at
      → room_for w.settings (λ p. is_owned (apply_event (put c w) event.GiveUp).living p) b.size ≡ Some b.at
  room free =
      let u : SoleFields = sole_after event.GiveUp v in
      let ready : IsReady without_block u n = ready_after event.GiveUp c without_block v u n 1 r can (omega arith) (omega arith) refl refl in
      let same : u.world.settings ≡ w.settings = settings-event w event.GiveUp in
      let there : put without_block u.world ≡ apply_event (put c w) event.GiveUp = state_after c v (n + 1) r event.GiveUp without_block u refl refl in
      ap (λ (x : World). room_for w.settings (λ p. is_owned x.living p) b.size) (sym there)
      ∙ ap (λ (s : Settings). room_for s (λ p. is_owned (put without_block u.world).living p) b.size) (sym same)
      ∙ sym (same_room without_block u n ready b.size)
      ∙ ap (λ (s : Settings). room_for s (λ p. is_owned u.world.living p) b.size) same ∙ free

  -- the turn goes on with the record that has the block again
  pub ready_again : IsReady with_block v n
  ready_again =
      let s = r.turn.shares in
      record {
        turn = record {
          shares = record { id = s.id; own = s.own; daughter = sym held ∙ s.daughter; errors = s.errors; genotype = s.genotype; bred = s.bred };
          own = r.turn.own;
          daughter = r.turn.daughter ∙ held;
        };
        world = quantum_fewer w n (n + 1) (omega arith) r.world;
        record_in = record { ip = r.record_in.ip; sp = r.record_in.sp; moved = omega (arith, r.record_in.ran); ran = omega (arith, r.record_in.ran) };
      }

  pub mal_again : (u : SoleFields) → u ≡ sole_after event.Good v
      → room_for w.settings (λ p. is_owned (apply_event w event.GiveUp).living p) b.size ≡ Some b.at
      → put with_block u.world ≡ mal world_machine w.settings b.size (put c w)
  mal_again u is free =
      let x : World = put c w in
      let y : World = apply_event x event.GiveUp in
      let others = number_of_others (front y).id y.reaper in
      state_after with_block v n ready_again event.Good with_block u refl is
      ∙ ap (λ (z : World). apply_event z event.Good) (sym (ap (λ (z : World). apply_event z (event.Mal b.at b.size)) given_up ∙ taken_again))
      ∙ sym (room-some world_machine w.settings b.size others b.at y (room free))
      ∙ ap (λ (o : Option Block). let z : World = elim o [ None ↦ x | Some d ↦ y ] in
      make_room world_machine w.settings b.size (number_of_others (front z).id z.reaper) z) (sym held_now)
