-- What holds in a turn, and what an event leaves of it.
use Rattle.std.proofs.Common.{◌≡◌, ℕ, ◌+◌, ◌-◌, ◌*◌, ◌/◌, ◌<◌, ◌≤◌, Bool, true, false, List, [], ◌∷◌, refl, sym, ◌∙◌, ap, subst, arith, length}
use Rattle.std.specs.Prelude.{None, Some, IsSome, if◌then◌else◌, max, min, nat_lt}
use Rattle.std.proofs.lemmas.Bool.Decides.{nat_tests}
use Rattle.tierra_model.specs.declared.limits.TheConstants.{COUNT_END, MOST_QUANTA, MOST_SIZE}
use Rattle.tierra_model.specs.declared.creatures.Creature.{Creature}
use Rattle.tierra_model.specs.declared.events.Event.{Event}
use Rattle.tierra_model.specs.declared.events.Event.TheVariants as event
use Rattle.tierra_model.specs.declared.parameters.Settings.{Settings}
use Rattle.tierra_model.specs.Blocks.{is_in, is_in_daughter}
use Rattle.tierra_model.specs.Counting.{one_if, times_in}
use Rattle.tierra_model.specs.Events.{apply_event, record_after, turn_end}
use Rattle.tierra_model.specs.Living.{ids_of, one_of, with_record}
use Rattle.tierra_model.specs.Quantum.{quantum, run, slice_of, world_machine}
use Rattle.tierra_model.specs.Queue.{number_of_others, place_of_first_other}
use Rattle.tierra_model.specs.Replay.{CanHappen, RecordFits}
use Rattle.tierra_model.specs.Room.{is_owned, room_for}
use Rattle.tierra_model.specs.SceneRun.{births_of}
use Rattle.tierra_model.specs.Sound.{IsSound, count_limit, owners, owners_of}
use Rattle.tierra_model.specs.World.{World, first_of, front, put}
use Rattle.tierra_model.proofs.AnyMachine.{block_in, place_of_first_other-is}
use Rattle.tierra_model.proofs.Commutes.{HasFront, commutes, front-id, front-put, with_living}
use Rattle.tierra_model.proofs.EachOnce.{owners-put}
use Rattle.tierra_model.proofs.EventEffects.{settings-event, shares-event}
use Rattle.tierra_model.proofs.EventsKeep.{front-event}
use Rattle.tierra_model.proofs.Free.{room_for_free}
use Rattle.tierra_model.proofs.Living.{is_here, one_of-id}
use Rattle.tierra_model.proofs.Owners.{is_owned-owners, with_record-none}
use Rattle.tierra_model.proofs.Population.{errors_of, front-in_bounds}
use Rattle.tierra_model.proofs.Shares.{Shares, shares-fits}
use Rattle.tierra_model.proofs.Sound.{within-start}
use Rattle.world_core.specs.Running.{IsRunning}
use Rattle.world_core.proofs.Within.{front_here, has_front}
use Rattle.quantum_core.specs.Frame.{Frame}
use Rattle.serial_slicer.specs.Turns.{InQuantum, InTurn, IsReady, IsTurn, SoleFields, sole_after}
use Rattle.serial_slicer.proofs.Quanta.{quanta-event, quantum-event, quantum-running, sound-in_quantum}

-- ---- before the turn

pub slice_few : (size : ℕ) (s : Settings) → slice_of size s ≤ 10000
slice_few size s = go s.slice_by_size
  where
    go : (b : Bool) → (if b then min 10000 (max 1 (size * s.slice_num / s.slice_den)) else s.slice_size) ≤ 10000
    go true = omega arith
    go false = omega (arith, s.slice)

with_record-same : (living : List Creature) (id : ℕ) → times_in (ids_of living) id ≤ 1 → is_here living id ≡ true
    → with_record (one_of living id) living ≡ living
with_record-same [] id h k = refl
with_record-same (x ∷ xs) id h k = grind (arith, nat_tests, with_record-same xs id, with_record-none x xs, one_of-id xs id)

-- the record that the world has, put in again
pub put-front : (w : World) → IsRunning w → put (front w) w ≡ w
put-front w r = ap (with_living w) (with_record-same w.living (first_of w.slicer) (r.once (first_of w.slicer)) (has_front w r).here)

-- a turn begins
pub begun : (w : World) (c : Creature) (v : SoleFields) (n : ℕ) → IsSound w → w.quanta < MOST_QUANTA → n ≤ 40001 → v.world ≡ w → c ≡ front w → IsTurn c v
    → IsReady c v n
begun w c v n s more few world_is record_is turn =
    let k = sound-in_quantum w n s more few in
    let b = front-in_bounds w.settings.soup_size (count_limit w.quanta) (count_limit w.quanta) (count_limit w.quanta) w (within-start w s).population in
    let here : InTurn w.settings.soup_size (front w) n =
    record { ip = b.ip; sp = b.sp; moved = omega (arith, b.moved, more, few); ran = omega (arith, b.ran, more, few) } in
    record {
      turn = turn;
      world = subst (λ (x : World). InQuantum x n) (sym world_is) k;
      record_in = subst (λ (x : World). InTurn x.settings.soup_size c n) (sym world_is)
          (subst (λ (x : Creature). InTurn w.settings.soup_size x n) (sym record_is) here);
    }

pub begun_is : (w : World) (c : Creature) (v : SoleFields) → IsRunning w → v.world ≡ w → c ≡ front w → put c v.world ≡ w
begun_is w c v r world_is record_is = (λ j. put (record_is j) (world_is j)) ∙ put-front w r

-- ---- the end of the turn

pub quantum_is : (s : Settings) (w u : World) (q n : ℕ) → s ≡ w.settings → q ≡ w.quanta + 1 → n ≡ slice_of (front w).own.size s
    → u ≡ run world_machine s q n w → turn_end u ≡ quantum w
unfolding quantum
quantum_is s w u q n settings number slice is =
    ap turn_end is
    ∙ (λ j. turn_end (run world_machine s q (slice j) w))
    ∙ (λ j. turn_end (run world_machine (settings j) (number j) (slice_of (front w).own.size (settings j)) w))

-- ---- what the world shows

others_and_own : (id : ℕ) (ids : List ℕ) → number_of_others id ids + times_in ids id ≡ length ids
others_and_own id [] = refl
others_and_own id (x ∷ xs) = grind (arith, nat_tests, others_and_own id xs)

module _ (c : Creature) (v : SoleFields) (n : ℕ) (r : IsReady c v n) where
  abbrev w : World
  w = v.world

  pub runs : IsRunning w
  runs = quantum-running w n r.world

  pub starts_here : HasFront w
  starts_here = r.world.within.population.has_front

  pub number : c.id ≡ first_of w.slicer
  number = r.turn.shares.id ∙ front-id w starts_here

  pub now : front (put c w) ≡ c
  now = front-put c w starts_here number

  same_id : (front w).id ≡ (front (put c w)).id
  same_id = sym r.turn.shares.id ∙ ap (λ (d : Creature). d.id) (sym now)

  same_owned : (p : ℕ) → is_owned w.living p ≡ is_owned (put c w).living p
  same_owned p =
      let f = r.turn.shares in
      let own : owners_of c p ≡ owners_of (front w) p = (λ i. let k : ℕ = one_if (is_in (f.own i) p) + one_if (is_in_daughter (f.daughter i) p) in k) in
      let same : owners w.living p ≡ owners (put c w).living p = omega (arith, owners-put c w p starts_here runs.once number, own) in
      is_owned-owners w.living p ∙ ap (nat_lt 0) same ∙ sym (is_owned-owners (put c w).living p)

  pub same_room : (size : ℕ) → room_for w.settings (λ p. is_owned w.living p) size ≡ room_for w.settings (λ p. is_owned (put c w).living p) size
  same_room size = λ i. room_for w.settings (λ p. same_owned p i) size

  pub same_others : (k : ℕ) → k ≡ length w.reaper → (1 ≤ k) × (k - 1 ≡ number_of_others (front (put c w)).id w.reaper)
  same_others k all =
      let id = (front w).id in
      let count : number_of_others id w.reaper + 1 ≡ length w.reaper =
      omega (arith, others_and_own id w.reaper, runs.reaper id, runs.once id, front_here w runs) in (
        omega (arith, all, count),
        let e : k - 1 ≡ number_of_others id w.reaper =
            omega (arith, all, count) in e ∙ ap (λ (j : ℕ). number_of_others j w.reaper) same_id,
      )

  pub same_victim : place_of_first_other (front w).id w.reaper ≡ place_of_first_other (front (put c w)).id w.reaper
  same_victim = ap (λ (j : ℕ). place_of_first_other j w.reaper) same_id

  pub fits : RecordFits (front w) c
  fits = shares-fits (front w) c r.turn.shares

  -- its errors and daughters are those of the record in the world
  pub few : (c.errors + n < COUNT_END) × (c.bred + n < COUNT_END)
  few =
      let k = r.world in
      let b = front-in_bounds k.settings.soup_size k.errors k.copies k.births w k.within.population in
      (omega (arith, r.turn.shares.errors, b.errors, k.few_errors), omega (arith, r.turn.shares.bred, b.bred, k.few_errors))

  -- ---- what can happen

  pub can_give_up : IsSome (front (put c w)).daughter → CanHappen w event.GiveUp
  can_give_up held = subst (λ o. IsSome o) (ap (λ (d : Creature). d.daughter) now ∙ r.turn.shares.daughter) held

  pub can_take : (size at : ℕ) → (front (put c w)).daughter ≡ None → 1 ≤ size → size ≤ MOST_SIZE
      → room_for w.settings (λ p. is_owned (put c w).living p) size ≡ Some at → CanHappen w (event.Mal at size)
  can_take size at none one few found =
      let f = room_for_free w.settings (λ p. is_owned w.living p) size at (same_room size ∙ found) in
      let empty : (front w).daughter ≡ None = sym r.turn.shares.daughter ∙ sym (ap (λ (d : Creature). d.daughter) now) ∙ none in
      (empty, (one, few, f.0), (λ p h. let i = block_in at size p h in f.1 p i.0 i.1))

  pub can_reap : (place : ℕ) → place_of_first_other (front (put c w)).id w.reaper ≡ Some place → CanHappen w (event.Reap place)
  can_reap place e = place_of_first_other-is (front w).id w.reaper place (same_victim ∙ e)

  pub can_bear : (ran moved : ℕ) → IsSome (front (put c w)).daughter → ran ≡ c.ran → 1 ≤ (front (put c w)).ran → CanHappen w (event.Divide ran moved)
  can_bear ran moved held is some =
      (can_give_up held, let e : (front (put c w)).ran ≡ c.ran = ap (λ (d : Creature). d.ran) now in omega (arith, is, e, some))

  -- ---- what an event leaves

  pub state_after : (e : Event) (d : Creature) (u : SoleFields) → d ≡ record_after e c → u ≡ sole_after e v → put d u.world ≡ apply_event (put c w) e
  state_after e d u record_is world_is = (λ j. put (record_is j) (world_is j).world) ∙ sym (commutes w c e starts_here number r.turn.shares)

record_after-own : (e : Event) (c : Creature) → (record_after e c).own ≡ c.own
record_after-own event.Err c = refl
record_after-own _ c = refl

daughter_after-is : (e : Event) (v : SoleFields) (c : Creature) → v.daughter ≡ c.daughter → (sole_after e v).daughter ≡ (record_after e c).daughter
daughter_after-is event.GiveUp v c h = refl
daughter_after-is (event.Mal at size) v c h = refl
daughter_after-is (event.Divide ran moved) v c h = refl
daughter_after-is _ v c h = h

pub turn_after : (e : Event) (c : Creature) (v : SoleFields) → IsTurn c v → HasFront v.world → CanHappen v.world e → IsTurn (record_after e c) (sole_after e v)
turn_after e c v t l can =
    record {
      shares = subst (λ (d : Creature). Shares d (record_after e c)) (sym (front-event v.world e l can).front) (shares-event e (front v.world) c t.shares);
      own = t.own ∙ sym (record_after-own e c);
      daughter = daughter_after-is e v c t.daughter;
    }

in_turn_after : (e : Event) (size : ℕ) (c : Creature) (n k : ℕ) → InTurn size c (n + k) → InTurn size (record_after e c) n
in_turn_after event.GiveUp size c n k f = record { ip = f.ip; sp = f.sp; moved = omega (arith, f.ran); ran = omega (arith, f.ran) }
in_turn_after (event.Mal at len) size c n k f = record { ip = f.ip; sp = f.sp; moved = omega (arith, f.ran); ran = omega (arith, f.ran) }
in_turn_after (event.Divide ran moved) size c n k f = record { ip = f.ip; sp = f.sp; moved = omega (arith, f.ran); ran = omega (arith, f.ran) }
in_turn_after _ size c n k f = record { ip = f.ip; sp = f.sp; moved = omega (arith, f.moved); ran = omega (arith, f.ran) }

-- an event takes up k of what the turn has room for
pub ready_after : (e : Event) (c d : Creature) (v u : SoleFields) (n k : ℕ) → IsReady c v (n + k) → CanHappen v.world e → errors_of e ≤ k → births_of e ≤ k
    → d ≡ record_after e c → u ≡ sole_after e v → IsReady d u n
ready_after e c d v u n k r can errors births record_is world_is =
    let after : IsReady (record_after e c) (sole_after e v) n =
    record {
      turn = turn_after e c v r.turn r.world.within.population.has_front can;
      world = quantum-event e v.world n k r.world can errors births;
      record_in = subst (λ (s : Settings). InTurn s.soup_size (record_after e c) n) (sym (settings-event v.world e))
          (in_turn_after e v.world.settings.soup_size c n k r.record_in);
    } in
    subst (λ (x : Creature). IsReady x u n) (sym record_is) (subst (λ (y : SoleFields). IsReady (record_after e c) y n) (sym world_is) after)

pub same_after : (e : Event) (v u : SoleFields) → u ≡ sole_after e v → (u.world.settings ≡ v.world.settings) × (u.world.quanta ≡ v.world.quanta)
same_after e v u is =
    (ap (λ (x : SoleFields). x.world.settings) is ∙ settings-event v.world e, ap (λ (x : SoleFields). x.world.quanta) is ∙ quanta-event v.world e)

abbrev pub frame_of : SoleFields → ℕ → Frame
frame_of v name = record { settings = v.world.settings; quantum = v.world.quanta + 1; lent = name }

pub frame_after : (e : Event) (v u : SoleFields) (name : ℕ) → u ≡ sole_after e v → frame_of u name ≡ frame_of v name
frame_after e v u name is =
    let same = same_after e v u is in
    λ i. record { settings = same.0 i; quantum = same.1 i + 1; lent = name }
