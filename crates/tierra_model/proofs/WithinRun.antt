-- A world stays within its quantum through acts, instructions and slices: what each event keeps, a quantum keeps.
use Rattle.std.proofs.Common.{◌≡◌, ℕ, zero, suc, ◌+◌, ◌*◌, ◌/◌, ◌<◌, ◌≤◌, Bool, true, false, List, [], ◌∷◌, refl, sym, ◌∙◌, ap, subst, arith, length}
use Rattle.std.specs.Prelude.{Some, None, Option, IsSome, All, is_some, nat_lt, slice_index}
use Rattle.std.proofs.lemmas.Bool.Decides.{nat_tests}
use Rattle.tierra_model.specs.declared.limits.TheConstants.{MOST_SIZE}
use Rattle.tierra_model.specs.declared.parameters.Settings.{Settings}
use Rattle.tierra_model.specs.declared.creatures.Block.{Block}
use Rattle.tierra_model.specs.declared.creatures.Creature.{Creature}
use Rattle.tierra_model.specs.declared.events.Event.{Event}
use Rattle.tierra_model.specs.declared.events.Event.TheVariants as event
use Rattle.tierra_model.specs.declared.events.Act.{Act}
use Rattle.tierra_model.specs.declared.events.Act.TheVariants as act
use Rattle.tierra_model.specs.Look.{Look, Answer, LookAt}
use Rattle.tierra_model.specs.Draw.{word, back_flip}
use Rattle.tierra_model.specs.Queue.{number_of_others}
use Rattle.tierra_model.specs.Quantum.{world_machine, walk, give_up, take_block, victim, reap_at, reap, make_room, mal, perform, instruction, instructions}
use Rattle.tierra_model.specs.Quantum.{flip, reap_times, disturb, is_disturbed, run}
use Rattle.tierra_model.specs.Step.{step, Outcome, flip_bit}
use Rattle.tierra_model.specs.World.{World, front, put}
use Rattle.tierra_model.specs.Room.{room_for}
use Rattle.tierra_model.specs.Events.{apply_event}
use Rattle.tierra_model.specs.SceneRun.{births_of}
use Rattle.tierra_model.specs.Replay.{CanHappen}
use Rattle.tierra_model.proofs.Commutes.{front-put, front-id}
use Rattle.tierra_model.proofs.Population.{front-in_bounds, errors_of, population-weaker}
use Rattle.tierra_model.proofs.EventsKeep.{front-event}
use Rattle.tierra_model.proofs.Free.{room_for_free}
use Rattle.tierra_model.proofs.AnyMachine.{block_in, place_of_first_other-is, room-some, room-none_zero, room-none_suc, FlipOf, back_flip_of}
use Rattle.tierra_model.proofs.Records.{Keeps, CanDo, always-walk, step_keeps, flipped_below}
use Rattle.tierra_model.proofs.Steps.{Steps, step_steps}
use Rattle.tierra_model.proofs.WithinQuantum.{IsCell, WithinQuantum, Adds, within-event, within-put, listed-weaker, saves-weaker}

-- the cells of a soup hold codes, and there is 0 past its end
pub cells_below : (l : List ℕ) → All IsCell l → (p : ℕ) → slice_index l p < 32
cells_below l h p = go (nat_lt p (length l)) refl
  where
    past : (xs : List ℕ) (k : ℕ) → length xs ≤ k → slice_index xs k ≡ 0
    past [] k e = refl
    past (x ∷ xs) zero e = absurd (omega arith)
    past (x ∷ xs) (suc k) e = past xs k (omega arith)

    go : (b : Bool) → nat_lt p (length l) ≡ b → slice_index l p < 32
    go true e = h p 0 (grind (arith, nat_tests))
    go false e = (let k : length l ≤ p = grind (arith, nat_tests) in rw (past l p k) (omega arith))

-- an event that adds nothing
within-plain : (v : Event) (s : Settings) (e m b z q : ℕ) (w : World) → WithinQuantum s e m b z q w → CanHappen w v → Adds v e b z e b z
    → WithinQuantum s e m b z q (apply_event w v)
within-plain v s e m b z q w d c a = within-event v s e m b z q e b z w d c a

adds-nothing : (v : Event) (e b z : ℕ) → errors_of v ≡ 0 → births_of v ≡ 0 → Adds v e b z e b z
adds-nothing v e b z h k = record { errors = omega arith; next_birth = omega arith; size = omega arith }

-- ---- room

-- what a mal has while it makes room
record Asks (s : Settings) (e m b z q size : ℕ) (w : World) : Type 0 where
  within : WithinQuantum s e m b z q w
  none : (front w).daughter ≡ None
  one : 1 ≤ size
  few : size ≤ MOST_SIZE

abbrev OneMore : Settings → ℕ → ℕ → ℕ → ℕ → ℕ → World → Type 0
OneMore s e m b z q w = WithinQuantum s (e + 1) m b z q w

within-err : (s : Settings) (e m b z q : ℕ) (w : World) → WithinQuantum s e m b z q w → OneMore s e m b z q (apply_event w event.Err)
within-err s e m b z q w d =
    within-event event.Err s e m b z q (e + 1) b z w d tt (record { errors = omega arith; next_birth = omega arith; size = omega arith })

within-good : (s : Settings) (e m b z q : ℕ) (w : World) → WithinQuantum s e m b z q w → OneMore s e m b z q (apply_event w event.Good)
within-good s e m b z q w d =
    within-event event.Good s e m b z q (e + 1) b z w d tt (record { errors = omega arith; next_birth = omega arith; size = omega arith })

within-take_block : (s : Settings) (e m b z q size at : ℕ) (w : World) → Asks s e m b z q size w → room_for s (world_machine.owned w) size ≡ Some at
    → OneMore s e m b z q (take_block world_machine s size at w)
within-take_block s e m b z q size at w a r =
    let d = a.within in
    let f = room_for_free s (world_machine.owned w) size at r in
    within-good s e m b z q (apply_event w (event.Mal at size)) (within-plain (event.Mal at size) s e m b z q w d (
      a.none,
      (a.one, a.few, subst (λ (t : Settings). at + size ≤ t.soup_size) (sym d.settings) f.0),
      (λ p h. let i = block_in at size p h in f.1 p i.0 i.1),
    ) (adds-nothing (event.Mal at size) e b z refl refl))

asks-reap_at : (s : Settings) (e m b z q size : ℕ) (w : World) (o : Option ℕ) → victim world_machine s w ≡ o → Asks s e m b z q size w
    → Asks s e m b z q size (reap_at world_machine s o w)
asks-reap_at s e m b z q size w None h a = a
asks-reap_at s e m b z q size w (Some k) h a =
    let is = place_of_first_other-is (front w).id w.reaper k h in
    let l = front-event w (event.Reap k) a.within.population.has_front is in
    record {
      within = within-plain (event.Reap k) s e m b z q w a.within is (adds-nothing (event.Reap k) e b z refl refl);
      none = ap (λ (c : Creature). c.daughter) l.front ∙ a.none;
      one = a.one;
      few = a.few;
    }

within-make_room : (s : Settings) (e m b z q size n : ℕ) (w : World) → Asks s e m b z q size w → OneMore s e m b z q (make_room world_machine s size n w)
within-make_room s e m b z q size zero w a = go (room_for s (world_machine.owned w) size) refl
  where
    go : (o : Option ℕ) → room_for s (world_machine.owned w) size ≡ o → OneMore s e m b z q (make_room world_machine s size zero w)
    go (Some at) r = subst (OneMore s e m b z q) (sym (room-some world_machine s size zero at w r)) (within-take_block s e m b z q size at w a r)
    go None r = subst (OneMore s e m b z q) (sym (room-none_zero world_machine s size w r)) (within-err s e m b z q w a.within)
within-make_room s e m b z q size (suc n) w a = go (room_for s (world_machine.owned w) size) refl (within-make_room s e m b z q size n (reap world_machine s w))
  where
    go : (o : Option ℕ) → room_for s (world_machine.owned w) size ≡ o
        → (Asks s e m b z q size (reap world_machine s w) → OneMore s e m b z q (make_room world_machine s size n (reap world_machine s w)))
        → OneMore s e m b z q (make_room world_machine s size (suc n) w)
    go (Some at) r ih = subst (OneMore s e m b z q) (sym (room-some world_machine s size (suc n) at w r)) (within-take_block s e m b z q size at w a r)
    go None r ih = subst (OneMore s e m b z q) (sym (room-none_suc world_machine s size n w r))
        (ih (asks-reap_at s e m b z q size w (victim world_machine s w) refl a))

-- ---- mal

asks-give_up : (s : Settings) (e m b z q size : ℕ) (w : World) → 1 ≤ size → size ≤ MOST_SIZE → WithinQuantum s e m b z q w
    → Asks s e m b z q size (give_up world_machine s w)
asks-give_up s e m b z q size w one few d = go (front w).daughter refl
  where
    go : (o : Option Block) → (front w).daughter ≡ o → Asks s e m b z q size (elim o [ None ↦ w | Some x ↦ apply_event w event.GiveUp ])
    go None h = record { within = d; none = h; one = one; few = few }
    go (Some x) h =
        let can : IsSome (front w).daughter = ap (λ (o : Option Block). is_some o) h in
        let l = front-event w event.GiveUp d.population.has_front can in
        record {
          within = within-plain event.GiveUp s e m b z q w d can (adds-nothing event.GiveUp e b z refl refl);
          none = ap (λ (c : Creature). c.daughter) l.front;
          one = one;
          few = few;
        }

within-mal : (s : Settings) (e m b z q size : ℕ) (w : World) → 1 ≤ size → size ≤ MOST_SIZE → WithinQuantum s e m b z q w
    → OneMore s e m b z q (mal world_machine s size w)
within-mal s e m b z q size w one few d =
    let u : World = give_up world_machine s w in
    within-make_room s e m b z q size (number_of_others (world_machine.front u).id (world_machine.reaper u)) u (asks-give_up s e m b z q size w one few d)

-- ---- an act

abbrev pub AfterOne : Settings → ℕ → ℕ → ℕ → ℕ → ℕ → World → Type 0
AfterOne s e m b z q w = WithinQuantum s (e + 1) m (b + 1) (z + 20100) q w

pub within-weaker : (s : Settings) (e m b z q e' m' b' z' : ℕ) (w : World) → e ≤ e' → m ≤ m' → b ≤ b' → z ≤ z' → WithinQuantum s e m b z q w
    → WithinQuantum s e' m' b' z' q w
within-weaker s e m b z q e' m' b' z' w he hm hb hz d =
    record {
      population = population-weaker s.soup_size e m b e' m' b' w he hm hb d.population;
      settings = d.settings;
      number = d.number;
      codes = d.codes;
      genotype = d.genotype;
      genotype_count = d.genotype_count;
      listed = listed-weaker b b' w.genotypes hb d.listed;
      saves = saves-weaker q z z' s.save_at w.genotypes w.saved hz d.saves;
    }

within-perform : (s : Settings) (e m b z q : ℕ) (a : Act) (w : World) → WithinQuantum s e m b z q w → CanDo s (front w) a
    → AfterOne s e m b z q (perform world_machine s a w)
within-perform s e m b z q act.Plain w d c = within-weaker s e m b z q (e + 1) m (b + 1) (z + 20100) w (omega arith) (omega arith) (omega arith) (omega arith) d
within-perform s e m b z q (act.Wrote at value) w d c =
    within-event (event.Write at value) s e m b z q (e + 1) (b + 1) (z + 20100) w d
    (subst (λ (t : Settings). at < t.soup_size) (sym d.settings) c.0, c.1) (record { errors = omega arith; next_birth = omega arith; size = omega arith })
within-perform s e m b z q act.Erred w d c =
    within-event event.Err s e m b z q (e + 1) (b + 1) (z + 20100) w d tt (record { errors = omega arith; next_birth = omega arith; size = omega arith })
within-perform s e m b z q (act.Mal size) w d c =
    within-weaker s (e + 1) m b z q (e + 1) m (b + 1) (z + 20100) (mal world_machine s size w) (omega arith) (omega arith) (omega arith) (omega arith)
    (within-mal s e m b z q size w c.0 c.1 d)
within-perform s e m b z q act.Divide w d c =
    let l = front-event w event.Good d.population.has_front tt in
    within-event (event.Divide (front w).ran (front w).moved) s e m b z q (e + 1) (b + 1) (z + 20100) (apply_event w event.Good)
    (within-plain event.Good s e m b z q w d tt (adds-nothing event.Good e b z refl refl))
    (subst IsSome (ap (λ (x : Creature). x.daughter) (sym l.front)) c.0, c.1) (record { errors = omega arith; next_birth = omega arith; size = omega arith })

-- ---- an instruction

walk-stays : {A : Type 0} (s : Settings) (t : Look A) (w : World) → (walk world_machine s t w).0 ≡ w
walk-stays s (Answer a) w = refl
walk-stays s (LookAt p next) w = walk-stays s (next (slice_index w.soup p)) w

within-settle : (s : Settings) (e m b z q : ℕ) (w : World) (o : Outcome) → WithinQuantum s e m b z q w → Keeps s (front w) o → Steps s.soup_size (m + 1) o
    → AfterOne s e (m + 1) b z q (perform world_machine s o.1 (put o.0 w))
within-settle s e m b z q w o d k h =
    let same : front (put o.0 w) ≡ o.0 = front-put o.0 w d.population.has_front (k.0.id ∙ front-id w d.population.has_front) in
    within-perform s e (m + 1) b z q o.1 (put o.0 w) (within-put o.0 s e m b z q w d k.0 h)
    (subst (λ (c : Creature). CanDo s c o.1) (sym same) k.1)

within-instruction : (s : Settings) (e m b z q : ℕ) (draw : ℕ → ℕ) (i : ℕ) (w : World) → WithinQuantum s e m b z q w
    → AfterOne s e (m + 1) b z q (instruction world_machine s draw i w)
unfolding instruction
within-instruction s e m b z q draw i w d =
    let t : Look Outcome = step s draw i (front w) in
    let f = front-in_bounds s.soup_size e m b w d.population in
    let below = cells_below w.soup d.codes in
    let kept : Keeps s (front w) (walk world_machine s t w).1 =
    always-walk (Keeps s (front w)) s t w below (step_keeps s draw i (front w) (front w) (record {
      id = refl;
      own = refl;
      daughter = refl;
      errors = refl;
      genotype = refl;
      bred = refl;
    })) in
    let steps : Steps s.soup_size (m + 1) (walk world_machine s t w).1 =
    always-walk (Steps s.soup_size (m + 1)) s t w below (step_steps s draw i m (front w) (f.ip, f.sp, f.moved, f.ran)) in
    subst (λ u. AfterOne s e (m + 1) b z q (perform world_machine s (walk world_machine s t w).1.1 (put (walk world_machine s t w).1.0 u)))
    (sym (walk-stays s t w))
    (within-settle s e m b z q w (walk world_machine s t w).1 d kept steps)

-- ---- a slice of instructions, and a quantum

within-instructions : (s : Settings) (e m b z q : ℕ) (draw : ℕ → ℕ) (k i : ℕ) (w : World) → WithinQuantum s e m b z q w
    → WithinQuantum s (e + k) (m + k) (b + k) (z + 20100 * k) q (instructions world_machine s draw k i w)
unfolding instructions
within-instructions s e m b z q draw zero i w d = within-weaker s e m b z q (e + 0) (m + 0) (b + 0) (z + 20100 * 0) w (omega arith) (omega arith) (omega arith)
    (omega arith) d
within-instructions s e m b z q draw (suc k) i w d =
    let r = within-instructions s (e + 1) (m + 1) (b + 1) (z + 20100) q draw k (i + 1) (instruction world_machine s draw i w)
    (within-instruction s e m b z q draw i w d) in
    within-weaker s (e + 1 + k) (m + 1 + k) (b + 1 + k) (z + 20100 + 20100 * k) q (e + suc k) (m + suc k) (b + suc k) (z + 20100 * suc k)
    (instructions world_machine s draw k (i + 1) (instruction world_machine s draw i w)) (omega arith) (omega arith) (omega arith) (omega arith) r

within-flip : (s : Settings) (e m b z q : ℕ) (o : Option (ℕ × ℕ)) (w : World) → FlipOf s.soup_size o → WithinQuantum s e m b z q w
    → WithinQuantum s e m b z q (flip world_machine s o w)
within-flip s e m b z q None w f d = d
within-flip s e m b z q (Some c) w f d =
    let v : Event = event.Write c.0 (flip_bit (slice_index w.soup c.0) (Some c.1)) in
    within-plain v s e m b z q w d (
      subst (λ (t : Settings). c.0 < t.soup_size) (sym d.settings) f.0,
      flipped_below (slice_index w.soup c.0) (Some c.1) (cells_below w.soup d.codes c.0) f.1,
    ) (adds-nothing v e b z refl refl)

within-reap_times : (s : Settings) (e m b z q k : ℕ) (w : World) → WithinQuantum s e m b z q w → WithinQuantum s e m b z q (reap_times world_machine s k w)
within-reap_times s e m b z q zero w d = d
within-reap_times s e m b z q (suc k) w d = go (victim world_machine s w) refl (λ v h. within-reap_times s e m b z q k v h)
  where
    go : (o : Option ℕ) → victim world_machine s w ≡ o → ((v : World) → WithinQuantum s e m b z q v
        → WithinQuantum s e m b z q (reap_times world_machine s k v))
        → WithinQuantum s e m b z q (elim o [ None ↦ w | Some p ↦ reap_times world_machine s k (apply_event w (event.Reap p)) ])
    go None h ih = d
    go (Some p) h ih =
        ih (apply_event w (event.Reap p))
        (within-plain (event.Reap p) s e m b z q w d (place_of_first_other-is (front w).id w.reaper p h) (adds-nothing (event.Reap p) e b z refl refl))

within-disturb : (s : Settings) (e m b z q : ℕ) (due : Bool) (w : World) → WithinQuantum s e m b z q w
    → WithinQuantum s e m b z q (disturb world_machine s due w)
within-disturb s e m b z q false w d = d
within-disturb s e m b z q true w d = within-reap_times s e m b z q (length w.reaper * s.dist_percent / 100) w d

pub within-run : (s : Settings) (e m b z q k : ℕ) (w : World) → WithinQuantum s e m b z q w
    → WithinQuantum s (e + k) (m + k) (b + k) (z + 20100 * k) q (run world_machine s q k w)
unfolding run
within-run s e m b z q k w d =
    let o : Option (ℕ × ℕ) = back_flip s.back_rate (word s.seed q) s.soup_size in
    let due : Bool = is_disturbed s.dist_every q in
    within-instructions s e m b z q (word s.seed q) k 0 (disturb world_machine s due (flip world_machine s o w))
    (within-disturb s e m b z q due (flip world_machine s o w)
    (within-flip s e m b z q o w (back_flip_of s.back_rate (word s.seed q) s.soup_size (omega (arith, s.soup))) d))
