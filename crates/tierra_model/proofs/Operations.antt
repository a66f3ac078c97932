-- What each operation of a machine does to its state, a quantum does.
use Rattle.std.proofs.Common.{ℕ, zero, suc, ◌+◌, ◌*◌, ◌/◌, Bool, true, false, length}
use Rattle.std.specs.Prelude.{Some, None, Option}
use Rattle.tierra_model.specs.declared.parameters.Settings.{Settings}
use Rattle.tierra_model.specs.declared.creatures.Block.{Block}
use Rattle.tierra_model.specs.declared.creatures.Creature.{Creature}
use Rattle.tierra_model.specs.declared.events.Event.{Event}
use Rattle.tierra_model.specs.declared.events.Event.TheVariants as event
use Rattle.tierra_model.specs.declared.events.Act.{Act}
use Rattle.tierra_model.specs.declared.events.Act.TheVariants as act
use Rattle.tierra_model.specs.Look.{Look, Answer, LookAt}
use Rattle.tierra_model.specs.Draw.{word, back_flip}
use Rattle.tierra_model.specs.Queue.{number_of_others}
use Rattle.tierra_model.specs.Quantum.{Machine, walk, give_up, take_block, victim, reap_at, reap, make_room, mal, perform, instruction, instructions, flip}
use Rattle.tierra_model.specs.Quantum.{reap_times, disturb, is_disturbed, run}
use Rattle.tierra_model.specs.Step.{step, Outcome, flip_bit}
use Rattle.tierra_model.specs.Room.{room_for}

-- every operation leads from a state to one that it is related to
pub record EachOperation {S : Type 0} (P : Machine S) (R : S → S → Type 0) : Type 0 where
  pub none : (x : S) → R x x
  pub next : (x y z : S) → R x y → R y z → R x z
  pub put : (c : Creature) (x : S) → R x (P.put c x)
  pub look : (p : ℕ) (x : S) → R x (P.look x p)
  pub ask_free : (x : S) → R x (P.ask_free x)
  pub ask_reaper : (x : S) → R x (P.ask_reaper x)
  pub apply : (e : Event) (x : S) → R x (P.apply x e)

module _ {S : Type 0} (P : Machine S) (s : Settings) (R : S → S → Type 0) (o : EachOperation P R) where
  -- one event after another
  two : (d e : Event) (x : S) → R x (P.apply (P.apply x d) e)
  two d e x = o.next x (P.apply x d) (P.apply (P.apply x d) e) (o.apply d x) (o.apply e (P.apply x d))

  -- ---- mal

  each-reap_at : (k : Option ℕ) (x : S) → R x (reap_at P s k x)
  each-reap_at None x = o.none x
  each-reap_at (Some k) x = o.apply (event.Reap k) x

  pub each-reap : (x : S) → R (P.ask_reaper x) (reap P s x)
  each-reap x = each-reap_at (victim P s (P.ask_reaper x)) (P.ask_reaper x)

  reaps : (x : S) → R x (reap P s x)
  reaps x = o.next x (P.ask_reaper x) (reap P s x) (o.ask_reaper x) (each-reap x)

  errors_of : (x : S) → R x (P.apply (P.ask_reaper x) event.Err)
  errors_of x = o.next x (P.ask_reaper x) (P.apply (P.ask_reaper x) event.Err) (o.ask_reaper x) (o.apply event.Err (P.ask_reaper x))

  pub each-make_room : (size n : ℕ) (x : S) → R x (make_room P s size n x)
  each-make_room size zero x = go (room_for s (P.owned x) size)
    where
      go : (at : Option ℕ) → R x (elim at [ Some a ↦ take_block P s size a x | None ↦ P.apply (P.ask_reaper x) event.Err ])
      go (Some a) = two (event.Mal a size) event.Good x
      go None = errors_of x
  each-make_room size (suc n) x = go (room_for s (P.owned x) size)
      (o.next x (reap P s x) (make_room P s size n (reap P s x)) (reaps x) (each-make_room size n (reap P s x)))
    where
      go : (at : Option ℕ) → R x (make_room P s size n (reap P s x))
          → R x (elim at [ Some a ↦ take_block P s size a x | None ↦ make_room P s size n (reap P s x) ])
      go (Some a) h = two (event.Mal a size) event.Good x
      go None h = h

  pub each-give_up : (x : S) → R x (give_up P s x)
  each-give_up x = go (P.front x).daughter
    where
      go : (b : Option Block) → R x (elim b [ None ↦ x | Some a ↦ P.apply x event.GiveUp ])
      go None = o.none x
      go (Some a) = o.apply event.GiveUp x

  -- from the free list on
  pub each-mal : (size : ℕ) (x : S) → R (P.ask_free x) (mal P s size x)
  each-mal size x =
      let y : S = P.ask_free x in
      let z : S = give_up P s y in
      let n : ℕ = number_of_others (P.front z).id (P.reaper z) in
      o.next y z (make_room P s size n z) (each-give_up y) (each-make_room size n z)

  -- ---- instructions

  pub each-perform : (a : Act) (x : S) → R x (perform P s a x)
  each-perform act.Plain x = o.none x
  each-perform (act.Wrote at value) x = o.apply (event.Write at value) x
  each-perform act.Erred x = o.apply event.Err x
  each-perform (act.Mal size) x = o.next x (P.ask_free x) (mal P s size x) (o.ask_free x) (each-mal size x)
  each-perform act.Divide x = two event.Good (event.Divide (P.front x).ran (P.front x).moved) x

  pub each-walk : {A : Type 0} (t : Look A) (x : S) → R x (walk P s t x).0
  each-walk (Answer a) x = o.none x
  each-walk (LookAt p next) x =
      o.next x (P.look x p) (walk P s (next (P.cell x p)) (P.look x p)).0 (o.look p x) (each-walk (next (P.cell x p)) (P.look x p))

  pub each-instruction : (draw : ℕ → ℕ) (i : ℕ) (x : S) → R x (instruction P s draw i x)
  unfolding instruction
  each-instruction draw i x =
      let r : S × Outcome = walk P s (step s draw i (P.front x)) x in
      let y : S = P.put r.1.0 r.0 in
      o.next x y (perform P s r.1.1 y)
      (o.next x r.0 y (each-walk (step s draw i (P.front x)) x) (o.put r.1.0 r.0))
      (each-perform r.1.1 y)

  pub each-instructions : (draw : ℕ → ℕ) (k i : ℕ) (x : S) → R x (instructions P s draw k i x)
  unfolding instructions
  each-instructions draw zero i x = o.none x
  each-instructions draw (suc k) i x =
      let y : S = instruction P s draw i x in
      o.next x y (instructions P s draw k (i + 1) y) (each-instruction draw i x) (each-instructions draw k (i + 1) y)

  -- ---- a quantum

  pub each-flip : (bit : Option (ℕ × ℕ)) (x : S) → R x (flip P s bit x)
  each-flip None x = o.none x
  each-flip (Some c) x =
      let e : Event = event.Write c.0 (flip_bit (P.cell x c.0) (Some c.1)) in
      o.next x (P.look x c.0) (P.apply (P.look x c.0) e) (o.look c.0 x) (o.apply e (P.look x c.0))

  pub each-reap_times : (k : ℕ) (x : S) → R x (reap_times P s k x)
  each-reap_times zero x = o.none x
  each-reap_times (suc k) x = go (victim P s x) (λ y. each-reap_times k y)
    where
      go : (place : Option ℕ) → ((y : S) → R y (reap_times P s k y))
          → R x (elim place [ None ↦ x | Some p ↦ reap_times P s k (P.apply x (event.Reap p)) ])
      go None ih = o.none x
      go (Some p) ih =
          let y : S = P.apply x (event.Reap p) in
          o.next x y (reap_times P s k y) (o.apply (event.Reap p) x) (ih y)

  pub each-disturb : (due : Bool) (x : S) → R x (disturb P s due x)
  each-disturb false x = o.none x
  each-disturb true x =
      let y : S = P.ask_reaper x in
      let k : ℕ = length (P.reaper y) * s.dist_percent / 100 in
      o.next x y (reap_times P s k y) (o.ask_reaper x) (each-reap_times k y)

  pub each-run : (q k : ℕ) (x : S) → R x (run P s q k x)
  unfolding run
  each-run q k x =
      let draw : ℕ → ℕ = word s.seed q in
      let bit : Option (ℕ × ℕ) = back_flip s.back_rate draw s.soup_size in
      let due : Bool = is_disturbed s.dist_every q in
      let y : S = flip P s bit x in
      let z : S = disturb P s due y in
      o.next x z (instructions P s draw k 0 z)
      (o.next x y z (each-flip bit x) (each-disturb due y))
      (each-instructions draw k 0 z)
