-- The world of a log is the world that is run.
use Rattle.std.proofs.Common.{◌≡◌, ℕ, zero, suc, ◌+◌, ◌*◌, ◌/◌, Bool, true, false, refl, ◌∙◌, ap, length}
use Rattle.std.specs.Prelude.{Some, None, Option, slice_index}
use Rattle.tierra_model.specs.declared.parameters.Settings.{Settings}
use Rattle.tierra_model.specs.declared.creatures.Block.{Block}
use Rattle.tierra_model.specs.declared.events.Event.TheVariants as event
use Rattle.tierra_model.specs.declared.events.Act.{Act}
use Rattle.tierra_model.specs.declared.events.Act.TheVariants as act
use Rattle.tierra_model.specs.Look.{Look, Answer, LookAt}
use Rattle.tierra_model.specs.Draw.{word, back_flip}
use Rattle.tierra_model.specs.Queue.{number_of_others}
use Rattle.tierra_model.specs.Quantum.{world_machine, walk, give_up, take_block, victim, reap_at, reap, make_room, mal, perform, instruction, instructions}
use Rattle.tierra_model.specs.Quantum.{flip, reap_times, disturb, is_disturbed, run}
use Rattle.tierra_model.specs.Step.{step, Outcome}
use Rattle.tierra_model.specs.World.{World, front, put}
use Rattle.tierra_model.specs.Room.{room_for}
use Rattle.tierra_model.specs.Events.{apply_event}
use Rattle.tierra_model.specs.Log.{Log, log_machine}

reap-now : (s : Settings) (l : Log) → (reap log_machine s l).now ≡ reap world_machine s l.now
reap-now s l = go (victim world_machine s l.now)
  where
    go : (o : Option ℕ) → (reap_at log_machine s o (log_machine.ask_reaper l)).now ≡ reap_at world_machine s o l.now
    go None = refl
    go (Some k) = refl

room-now : (s : Settings) (size n : ℕ) (l : Log) → (make_room log_machine s size n l).now ≡ make_room world_machine s size n l.now
room-now s size zero l = go (room_for s (log_machine.owned l) size)
  where
    go : (o : Option ℕ)
        → (let r : Log = elim o [ Some at ↦ take_block log_machine s size at l | None ↦ log_machine.apply (log_machine.ask_reaper l) event.Err ] in r).now
        ≡ elim o [ Some at ↦ take_block world_machine s size at l.now | None ↦ apply_event l.now event.Err ]
    go (Some at) = refl
    go None = refl
room-now s size (suc n) l =
    go (room_for s (log_machine.owned l) size) (room-now s size n (reap log_machine s l) ∙ ap (make_room world_machine s size n) (reap-now s l))
  where
    go : (o : Option ℕ) → (make_room log_machine s size n (reap log_machine s l)).now ≡ make_room world_machine s size n (reap world_machine s l.now)
        → (let r : Log = elim o [ Some at ↦ take_block log_machine s size at l | None ↦ make_room log_machine s size n (reap log_machine s l) ] in r).now
        ≡ elim o [ Some at ↦ take_block world_machine s size at l.now | None ↦ make_room world_machine s size n (reap world_machine s l.now) ]
    go (Some at) h = refl
    go None h = h

give-now : (s : Settings) (l : Log) → (give_up log_machine s l).now ≡ give_up world_machine s l.now
give-now s l = go (front l.now).daughter
  where
    go : (o : Option Block) → (let r : Log = elim o [ None ↦ l | Some b ↦ log_machine.apply l event.GiveUp ] in r).now
        ≡ elim o [ None ↦ l.now | Some b ↦ apply_event l.now event.GiveUp ]
    go None = refl
    go (Some b) = refl

mal-now : (s : Settings) (size : ℕ) (l : Log) → (mal log_machine s size l).now ≡ mal world_machine s size l.now
mal-now s size l =
    let y : Log = give_up log_machine s (log_machine.ask_free l) in
    room-now s size (number_of_others (front y.now).id y.now.reaper) y
    ∙ ap (λ (u : World). make_room world_machine s size (number_of_others (front u).id u.reaper) u) (give-now s (log_machine.ask_free l))

perform-now : (s : Settings) (a : Act) (l : Log) → (perform log_machine s a l).now ≡ perform world_machine s a l.now
perform-now s act.Plain l = refl
perform-now s (act.Wrote at value) l = refl
perform-now s act.Erred l = refl
perform-now s (act.Mal size) l = mal-now s size l
perform-now s act.Divide l = refl

walk-now : {A : Type 0} (s : Settings) (t : Look A) (l : Log) → (walk log_machine s t l).0.now ≡ (walk world_machine s t l.now).0
walk-now s (Answer a) l = refl
walk-now s (LookAt p next) l = walk-now s (next (slice_index l.now.soup p)) (log_machine.look l p)

walk-answer : {A : Type 0} (s : Settings) (t : Look A) (l : Log) → (walk log_machine s t l).1 ≡ (walk world_machine s t l.now).1
walk-answer s (Answer a) l = refl
walk-answer s (LookAt p next) l = walk-answer s (next (slice_index l.now.soup p)) (log_machine.look l p)

instruction-now : (s : Settings) (draw : ℕ → ℕ) (i : ℕ) (l : Log) → (instruction log_machine s draw i l).now ≡ instruction world_machine s draw i l.now
unfolding instruction
instruction-now s draw i l =
    let t : Look Outcome = step s draw i (front l.now) in
    let r : Log × Outcome = walk log_machine s t l in
    let now = walk-now s t l in
    let answer = walk-answer s t l in
    perform-now s r.1.1 (log_machine.put r.1.0 r.0) ∙ (λ j. perform world_machine s (answer j).1 (put (answer j).0 (now j)))

instructions-now : (s : Settings) (draw : ℕ → ℕ) (k i : ℕ) (l : Log) → (instructions log_machine s draw k i l).now ≡ instructions world_machine s draw k i l.now
unfolding instructions
instructions-now s draw zero i l = refl
instructions-now s draw (suc k) i l =
    instructions-now s draw k (i + 1) (instruction log_machine s draw i l) ∙ ap (instructions world_machine s draw k (i + 1)) (instruction-now s draw i l)

reap_times-now : (s : Settings) (k : ℕ) (l : Log) → (reap_times log_machine s k l).now ≡ reap_times world_machine s k l.now
reap_times-now s zero l = refl
reap_times-now s (suc k) l = go (victim world_machine s l.now) (λ p. reap_times-now s k (log_machine.apply l (event.Reap p)))
  where
    go : (o : Option ℕ)
        → ((p : ℕ) → (reap_times log_machine s k (log_machine.apply l (event.Reap p))).now ≡ reap_times world_machine s k (apply_event l.now (event.Reap p)))
        → (let r : Log = elim o [ None ↦ l | Some p ↦ reap_times log_machine s k (log_machine.apply l (event.Reap p)) ] in r).now
        ≡ elim o [ None ↦ l.now | Some p ↦ reap_times world_machine s k (apply_event l.now (event.Reap p)) ]
    go None h = refl
    go (Some p) h = h p

disturb-now : (s : Settings) (due : Bool) (l : Log) → (disturb log_machine s due l).now ≡ disturb world_machine s due l.now
disturb-now s false l = refl
disturb-now s true l = reap_times-now s (length l.now.reaper * s.dist_percent / 100) (log_machine.ask_reaper l)

flip-now : (s : Settings) (o : Option (ℕ × ℕ)) (l : Log) → (flip log_machine s o l).now ≡ flip world_machine s o l.now
flip-now s None l = refl
flip-now s (Some c) l = refl

pub run-now : (s : Settings) (q k : ℕ) (l : Log) → (run log_machine s q k l).now ≡ run world_machine s q k l.now
unfolding run
run-now s q k l =
    let o : Option (ℕ × ℕ) = back_flip s.back_rate (word s.seed q) s.soup_size in
    let due : Bool = is_disturbed s.dist_every q in
    let u : Log = flip log_machine s o l in
    instructions-now s (word s.seed q) k 0 (disturb log_machine s due u)
    ∙ ap (instructions world_machine s (word s.seed q) k 0) (disturb-now s due u ∙ ap (disturb world_machine s due) (flip-now s o l))
