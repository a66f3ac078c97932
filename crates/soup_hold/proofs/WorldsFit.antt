-- A world fits its types after each quantum, and so does each world of a serial run.
use Rattle.std.proofs.Common.{◌≡◌, ℕ, zero, suc, ◌+◌, ◌*◌, ◌/◌, ◌^◌, ◌<◌, ◌≤◌, Bool, true, false, List, [], ◌∷◌, refl, sym, subst, arith, length}
use Rattle.std.specs.Prelude.{None, Option, Some, max, min, slice_index, if◌then◌else◌}
use Rattle.tierra_model.specs.declared.creatures.Block.{Block}
use Rattle.tierra_model.specs.declared.creatures.Creature.{Creature}
use Rattle.tierra_model.specs.declared.events.Act.{Act}
use Rattle.tierra_model.specs.declared.events.Act.TheVariants as act
use Rattle.tierra_model.specs.declared.events.Event.TheVariants as event
use Rattle.tierra_model.specs.declared.limits.TheConstants.{MOST_QUANTA, MOST_SLICE}
use Rattle.tierra_model.specs.declared.parameters.Settings.{Settings}
use Rattle.tierra_model.specs.declared.setups.Inoculum.{Inoculum}
use Rattle.tierra_model.specs.Draw.{back_flip, word}
use Rattle.tierra_model.specs.Events.{apply_event, with_creature}
use Rattle.tierra_model.specs.Look.{Answer, Look, LookAt, answer}
use Rattle.tierra_model.specs.Quantum.{disturb, flip, give_up, instruction, instructions, is_disturbed, make_room, perform, quantum, reap, reap_at}
use Rattle.tierra_model.specs.Quantum.{reap_times, run, settle, slice_of, take_block, victim, walk, world_machine}
use Rattle.tierra_model.specs.Queue.{number_of_others}
use Rattle.tierra_model.specs.Room.{room_for}
use Rattle.tierra_model.specs.Serial.{empty_world, overwrite, serial, start, with_inocula}
use Rattle.tierra_model.specs.Setups.{block_of}
use Rattle.tierra_model.specs.Sound.{IsSound, count_limit}
use Rattle.tierra_model.specs.Step.{Outcome, flip_bit, step}
use Rattle.tierra_model.specs.World.{World, front, put}
use Rattle.tierra_model.proofs.AnyMachine.{room-none_suc, room-none_zero, room-some}
use Rattle.tierra_model.proofs.Each.{all_from_each, each-map, each_from_all}
use Rattle.tierra_model.proofs.Free.{room_for_free}
use Rattle.tierra_model.proofs.Sound.{quantum_is_sound}
use Rattle.tierra_model.proofs.StartIsSound.{serial_is_sound}
use Rattle.world_state.specs.Restoring.{FitsTypes, HasLongNumbers, HasWords}
use Rattle.soup_hold.proofs.ShortLists.{few_living, few_saved}
use Rattle.soup_hold.specs.Fitting.{QuantumFits, SerialFits}
use Rattle.soup_hold.proofs.EventsFit.{FittingIn, IsLongSaving, fitting-event, fitting-put, fitting-weaker, fitting-with_creature, front_counted}
use Rattle.soup_hold.proofs.StepWords.{Counted, step_within}

-- ---- mal

fitting-take_block : (s : Settings) (m size at : ℕ) (w : World) → FittingIn m w → room_for s (world_machine.owned w) size ≡ Some at
    → FittingIn m (take_block world_machine s size at w)
fitting-take_block s m size at w d r =
    let inside : at < 2 ^ 31 = omega (arith, (room_for_free s (world_machine.owned w) size at r).0, s.soup) in
    fitting-event event.Good m (apply_event w (event.Mal at size)) tt (fitting-event (event.Mal at size) m w inside d)

fitting-reap_at : (s : Settings) (m : ℕ) (w : World) (o : Option ℕ) → FittingIn m w → FittingIn m (reap_at world_machine s o w)
fitting-reap_at s m w None d = d
fitting-reap_at s m w (Some k) d = fitting-event (event.Reap k) m w tt d

fitting-make_room : (s : Settings) (m size n : ℕ) (w : World) → FittingIn m w → FittingIn m (make_room world_machine s size n w)
fitting-make_room s m size zero w d = go (room_for s (world_machine.owned w) size) refl
  where
    go : (o : Option ℕ) → room_for s (world_machine.owned w) size ≡ o → FittingIn m (make_room world_machine s size zero w)
    go (Some at) r = subst (FittingIn m) (sym (room-some world_machine s size zero at w r)) (fitting-take_block s m size at w d r)
    go None r = subst (FittingIn m) (sym (room-none_zero world_machine s size w r)) (fitting-event event.Err m w tt d)
fitting-make_room s m size (suc n) w d = go (room_for s (world_machine.owned w) size) refl (fitting-make_room s m size n (reap world_machine s w))
  where
    go : (o : Option ℕ) → room_for s (world_machine.owned w) size ≡ o
        → (FittingIn m (reap world_machine s w) → FittingIn m (make_room world_machine s size n (reap world_machine s w)))
        → FittingIn m (make_room world_machine s size (suc n) w)
    go (Some at) r ih = subst (FittingIn m) (sym (room-some world_machine s size (suc n) at w r)) (fitting-take_block s m size at w d r)
    go None r ih = subst (FittingIn m) (sym (room-none_suc world_machine s size n w r)) (ih (fitting-reap_at s m w (victim world_machine s w) d))

fitting-give_up : (s : Settings) (m : ℕ) (w : World) → FittingIn m w → FittingIn m (give_up world_machine s w)
fitting-give_up s m w d = go (front w).daughter
  where
    go : (o : Option Block) → FittingIn m (elim o [ None ↦ w | Some b ↦ apply_event w event.GiveUp ])
    go None = d
    go (Some b) = fitting-event event.GiveUp m w tt d

-- ---- an instruction

fitting-perform : (s : Settings) (m : ℕ) (a : Act) (w : World) → m < 2 ^ 64 → FittingIn m w → FittingIn m (perform world_machine s a w)
fitting-perform s m act.Plain w small d = d
fitting-perform s m (act.Wrote at value) w small d = fitting-event (event.Write at value) m w tt d
fitting-perform s m act.Erred w small d = fitting-event event.Err m w tt d
fitting-perform s m (act.Mal size) w small d =
    let y : World = give_up world_machine s w in
    fitting-make_room s m size (number_of_others (world_machine.front y).id (world_machine.reaper y)) y (fitting-give_up s m w d)
fitting-perform s m act.Divide w small d =
    let mother = front_counted m w d in
    fitting-event (event.Divide (front w).ran (front w).moved) m (apply_event w event.Good) (omega (arith, mother.2, small), omega (arith, mother.1, small))
    (fitting-event event.Good m w tt d)

walk-answer : {A : Type 0} (s : Settings) (t : Look A) (w : World) → walk world_machine s t w ≡ (w, answer t (slice_index w.soup))
walk-answer s (Answer a) w = refl
walk-answer s (LookAt p next) w = walk-answer s (next (slice_index w.soup p)) w

fitting-instruction : (s : Settings) (draw : ℕ → ℕ) (i m : ℕ) (w : World) → m + 1 < 2 ^ 64 → FittingIn m w
    → FittingIn (m + 1) (instruction world_machine s draw i w)
unfolding instruction
fitting-instruction s draw i m w small d =
    let t : Look Outcome = step s draw i (front w) in
    let o : Outcome = answer t (slice_index w.soup) in
    let stepped : Counted (m + 1) o.0 = step_within s draw i m (front w) (slice_index w.soup) (front_counted m w d) in
    subst (λ (r : World × Outcome). FittingIn (m + 1) (settle world_machine s r)) (sym (walk-answer s t w))
    (fitting-perform s (m + 1) o.1 (put o.0 w) small (fitting-put o.0 (m + 1) w stepped (fitting-weaker m (m + 1) w (omega arith) d)))

fitting-instructions : (s : Settings) (draw : ℕ → ℕ) (k i m : ℕ) (w : World) → m + k < 2 ^ 64 → FittingIn m w
    → FittingIn (m + k) (instructions world_machine s draw k i w)
unfolding instructions
fitting-instructions s draw zero i m w small d = fitting-weaker m (m + 0) w (omega arith) d
fitting-instructions s draw (suc k) i m w small d =
    let next : World = instruction world_machine s draw i w in
    let same : m + 1 + k ≡ m + suc k = omega arith in
    subst (λ (n : ℕ). FittingIn n (instructions world_machine s draw k (i + 1) next)) same
    (fitting-instructions s draw k (i + 1) (m + 1) next (omega (arith, small)) (fitting-instruction s draw i m w (omega (arith, small)) d))

-- ---- a quantum

fitting-flip : (s : Settings) (m : ℕ) (o : Option (ℕ × ℕ)) (w : World) → FittingIn m w → FittingIn m (flip world_machine s o w)
fitting-flip s m None w d = d
fitting-flip s m (Some c) w d = fitting-event (event.Write c.0 (flip_bit (slice_index w.soup c.0) (Some c.1))) m w tt d

fitting-reap_times : (s : Settings) (m k : ℕ) (w : World) → FittingIn m w → FittingIn m (reap_times world_machine s k w)
fitting-reap_times s m zero w d = d
fitting-reap_times s m (suc k) w d = go (victim world_machine s w) (λ v h. fitting-reap_times s m k v h)
  where
    go : (o : Option ℕ) → ((v : World) → FittingIn m v → FittingIn m (reap_times world_machine s k v))
        → FittingIn m (elim o [ None ↦ w | Some p ↦ reap_times world_machine s k (apply_event w (event.Reap p)) ])
    go None ih = d
    go (Some p) ih = ih (apply_event w (event.Reap p)) (fitting-event (event.Reap p) m w tt d)

fitting-disturb : (s : Settings) (m : ℕ) (due : Bool) (w : World) → FittingIn m w → FittingIn m (disturb world_machine s due w)
fitting-disturb s m false w d = d
fitting-disturb s m true w d = fitting-reap_times s m (length w.reaper * s.dist_percent / 100) w d

fitting-run : (s : Settings) (q k m : ℕ) (w : World) → m + k < 2 ^ 64 → FittingIn m w → FittingIn (m + k) (run world_machine s q k w)
unfolding run
fitting-run s q k m w small d =
    let o : Option (ℕ × ℕ) = back_flip s.back_rate (word s.seed q) s.soup_size in
    let due : Bool = is_disturbed s.dist_every q in
    fitting-instructions s (word s.seed q) k 0 m (disturb world_machine s due (flip world_machine s o w)) small
    (fitting-disturb s m due (flip world_machine s o w) (fitting-flip s m o w d))

-- ---- a world that fits its types

fitting_from : (w : World) → IsSound w → FitsTypes w → FittingIn (count_limit w.quanta) w
fitting_from w s f = record {
  creatures = each_from_all (Counted (count_limit w.quanta)) w.living (λ k c h.
      let words = f.creatures k c h in
      let small = s.small k c h in (
        record { ax = words.ax; bx = words.bx; cx = words.cx; dx = words.dx; ten = words.ten; stack = words.stack; byte = words.flag },
        small.1,
        small.2,
      ));
  long = each_from_all HasLongNumbers w.genotypes f.genotypes;
  savings = each_from_all IsLongSaving w.saved f.savings;
  number = omega (arith, s.quanta);
}

has_words : (m : ℕ) (c : Creature) → Counted m c → HasWords c
has_words m c h =
    record { ax = h.0.ax; bx = h.0.bx; cx = h.0.cx; dx = h.0.dx; ten = h.0.ten; stack = h.0.stack; flag = h.0.byte }

fits_from : (m : ℕ) (w : World) → IsSound w → FittingIn m w → FitsTypes w
fits_from m w s d = record {
  creatures = all_from_each HasWords w.living (each-map (Counted m) HasWords (has_words m) w.living d.creatures);
  living = few_living w s;
  genotypes = all_from_each HasLongNumbers w.genotypes d.long;
  savings = all_from_each IsLongSaving w.saved d.savings;
  saved = few_saved w s;
}

slice_few : (size : ℕ) (s : Settings) → slice_of size s ≤ MOST_SLICE
slice_few size s = go s.slice_by_size
  where
    go : (b : Bool) → (if b then min MOST_SLICE (max 1 (size * s.slice_num / s.slice_den)) else s.slice_size) ≤ MOST_SLICE
    go true = omega arith
    go false = omega (arith, s.slice)

fitting-quantum : (m : ℕ) (w : World) → m + MOST_SLICE < 2 ^ 64 → IsSound w → w.quanta < MOST_QUANTA → FittingIn m w
    → FittingIn (m + MOST_SLICE) (quantum w)
unfolding quantum
fitting-quantum m w small sound few d =
    let s : Settings = w.settings in
    let k : ℕ = slice_of (front w).own.size s in
    let within : k ≤ MOST_SLICE = slice_few (front w).own.size s in
    let v : World = run world_machine s (w.quanta + 1) k w in
    let r = fitting-weaker (m + k) (m + MOST_SLICE) v (omega (arith, within))
    (fitting-run s (w.quanta + 1) k m w (omega (arith, within, small)) d) in
    record { creatures = r.creatures; long = r.long; savings = r.savings; number = omega (arith, (quantum_is_sound w sound few).quanta, few) }

pub quantum_fits : QuantumFits
quantum_fits w s few f =
    fits_from (count_limit w.quanta + MOST_SLICE) (quantum w) (quantum_is_sound w s few).sound
    (fitting-quantum (count_limit w.quanta) w (omega (arith, few)) s few (fitting_from w s f))

-- ---- a serial run

fitting-inocula : (cs : List Inoculum) (w : World) → FittingIn 0 w → FittingIn 0 (with_inocula cs w)
fitting-inocula [] w d = d
fitting-inocula (c ∷ cs) w d =
    let v : World = record w { soup = overwrite w.soup c.at c.code } in
    fitting-inocula cs (with_creature w.genotypes (block_of c) c.code None 0 v)
    (fitting-with_creature w.genotypes (block_of c) c.code None 0 0 v (omega arith) d.long d)

pub serial_fits : SerialFits
unfolding serial start
serial_fits setup zero is few =
    fits_from 0 (start setup) (serial_is_sound setup 0 is few).sound
    (fitting-inocula setup.creatures (empty_world setup.settings) (record { creatures = tt; long = tt; savings = tt; number = omega arith }))
serial_fits setup (suc n) is few =
    let before = serial_is_sound setup n is (omega (arith, few)) in
    quantum_fits (serial setup n) before.sound (omega (arith, few, before.quanta)) (serial_fits setup n is (omega (arith, few)))
