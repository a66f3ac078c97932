-- The step of an instruction, by a record that is kept apart from the world.
use Rattle.std.proofs.Common.{◌≡◌, ℕ, ◌+◌, ◌<◌, Bool, refl, sym, ◌∙◌, ap, subst, arith, length}
use Rattle.std.specs.Prelude.{slice_index, slice_set, ◌||◌}
use Rattle.tierra_model.specs.declared.creatures.Creature.{Creature}
use Rattle.tierra_model.specs.declared.events.Act.{Act}
use Rattle.tierra_model.specs.declared.events.Act.TheVariants as act
use Rattle.tierra_model.specs.declared.events.Event.TheVariants as event
use Rattle.tierra_model.specs.declared.parameters.Settings.{Settings}
use Rattle.tierra_model.specs.Blocks.{is_in, is_in_daughter}
use Rattle.tierra_model.specs.Draw.{word}
use Rattle.tierra_model.specs.Events.{apply_event}
use Rattle.tierra_model.specs.Look.{Answer, Look, LookAt, answer, pass}
use Rattle.tierra_model.specs.Quantum.{walk, world_machine}
use Rattle.tierra_model.specs.Step.{Outcome, step}
use Rattle.tierra_model.specs.World.{World, first_of, front, put}
use Rattle.tierra_model.proofs.Commutes.{HasFront, commutes, put-put}
use Rattle.tierra_model.proofs.Records.{CanDo, Keeps, always-walk, step_keeps}
use Rattle.tierra_model.proofs.Shares.{Shares}
use Rattle.tierra_model.proofs.WithinRun.{cells_below}
use Rattle.mutation_streams.specs.Draws.{DrawFields, draws_of}
use Rattle.cpu_core.specs.Draws.{with_rates_of}
use Rattle.cpu_core.specs.Executing.{CanExecute, Executes, IsAfterStep, after_act, creature_after, view_after}
use Rattle.quantum_core.specs.Acts.{IsLeft, do_act, settle_step, step_in}
use Rattle.world_core.specs.Running.{IsRunning}
use Rattle.serial_slicer.specs.ReadyLaws.{quantum_fewer}
use Rattle.serial_slicer.specs.Turns.{InQuantum, IsReady, IsTurn, SoleFields, sole_after}
use Rattle.serial_slicer.proofs.Quanta.{quantum-event}
use Rattle.serial_slicer.proofs.Turns.{frame_of, now, number, runs, same_after, starts_here, turn_after}

-- the view that a world gives
abbrev pub cells_of : SoleFields → ℕ → ℕ
cells_of v p = slice_index v.world.soup p

abbrev pub looked_at : SoleFields → ℕ → SoleFields
looked_at v p = v

abbrev pub with_cell : SoleFields → ℕ → ℕ → SoleFields
with_cell v p x = record v { world = record v.world { soup = slice_set v.world.soup p x } }

abbrev pub size_of : SoleFields → ℕ
size_of v = length v.world.soup

abbrev pub is_writable : SoleFields → ℕ → Bool
is_writable v p = is_in v.own p || is_in_daughter v.daughter p

-- the view after the act, in which an error was done
abbrev pub errs : Act → SoleFields → SoleFields
errs act.Erred v = sole_after event.Err v
errs _ v = v

-- ---- before a step

pub can_step : (s : Settings) (c : Creature) (v : SoleFields) (n : ℕ) → IsReady c v n → s ≡ v.world.settings → CanExecute size_of cells_of is_writable s c v
can_step s c v n r settings =
    let same : v.world.settings.soup_size ≡ s.soup_size = ap (λ (z : Settings). z.soup_size) (sym settings) in
    let p = r.world.within.population in
    record {
      size = p.cells ∙ sym p.size ∙ same;
      codes = λ p h. cells_below v.world.soup r.world.within.codes p;
      own = λ p h. (λ j. is_in (r.turn.own j) p || is_in_daughter (r.turn.daughter j) p);
      ip = rw (← same) r.record_in.ip;
      sp = r.record_in.sp;
    }

-- ---- looks at a world, and in the view of it

pass-answer : {A : Type 0} (t : Look A) (v : SoleFields) → pass cells_of looked_at t v ≡ (v, answer t (λ p. slice_index v.world.soup p))
pass-answer (Answer a) v = refl
pass-answer (LookAt p next) v = pass-answer (next (slice_index v.world.soup p)) v

walk-answer : {A : Type 0} (s : Settings) (t : Look A) (w : World) → walk world_machine s t w ≡ (w, answer t (λ p. slice_index w.soup p))
walk-answer s (Answer a) w = refl
walk-answer s (LookAt p next) w = walk-answer s (next (slice_index w.soup p)) w

-- ---- what a step does

does : (s : Settings) (a : Act) (c : Creature) (v : SoleFields) → HasFront v.world → c.id ≡ first_of v.world.slicer → Shares (front v.world) c
    → do_act world_machine s a (put c v.world) ≡ put (creature_after a c) (errs a (view_after with_cell a v)).world
unfolding apply_event
does s act.Plain c v l n f = refl
does s (act.Wrote at value) c v l n f = refl
does s act.Erred c v l n f = commutes v.world c event.Err l n f
does s (act.Mal size) c v l n f = refl
does s act.Divide c v l n f = refl

leaves : (s : Settings) (a : Act) (c : Creature) → CanDo s c a → IsLeft (creature_after a c) a
leaves s act.Plain c can = tt
leaves s (act.Wrote at value) c can = tt
leaves s act.Erred c can = tt
leaves s (act.Mal size) c can = can
leaves s act.Divide c can = can

world_done : (s : Settings) (a : Act) (c : Creature) (v : SoleFields) (n : ℕ) → s ≡ v.world.settings → InQuantum v.world (n + 1) → CanDo s c a
    → InQuantum (errs a (view_after with_cell a v)).world n
unfolding apply_event
world_done s act.Plain c v n same k can = quantum_fewer v.world n (n + 1) (omega arith) k
world_done s (act.Wrote at value) c v n same k can =
    let here : at < v.world.settings.soup_size = rw (← same) can.0 in
    quantum-event (event.Write at value) v.world n 1 k (here, can.1) (omega arith) (omega arith)
world_done s act.Erred c v n same k can = quantum-event event.Err v.world n 1 k tt (omega arith) (omega arith)
world_done s (act.Mal size) c v n same k can = quantum_fewer v.world n (n + 1) (omega arith) k
world_done s act.Divide c v n same k can = quantum_fewer v.world n (n + 1) (omega arith) k

turn_done : (s : Settings) (a : Act) (c : Creature) (v : SoleFields) → s ≡ v.world.settings → HasFront v.world → CanDo s c a → IsTurn c v
    → IsTurn (creature_after a c) (errs a (view_after with_cell a v))
unfolding apply_event
turn_done s act.Plain c v same l can t = t
turn_done s (act.Wrote at value) c v same l can t = record { shares = t.shares; own = t.own; daughter = t.daughter }
turn_done s act.Erred c v same l can t = turn_after event.Err c v t l tt
turn_done s (act.Mal size) c v same l can t = t
turn_done s act.Divide c v same l can t = t

same_done : (a : Act) (v : SoleFields) → let u = errs a (view_after with_cell a v) in (u.world.settings ≡ v.world.settings) × (u.world.quanta ≡ v.world.quanta)
same_done act.Plain v = (refl, refl)
same_done (act.Wrote at value) v = (refl, refl)
same_done act.Erred v = same_after event.Err v _ refl
same_done (act.Mal size) v = (refl, refl)
same_done act.Divide v = (refl, refl)

abbrev pub StepOf : DrawFields → Settings → ℕ → Creature → Creature → SoleFields → SoleFields → Act → Type 0
StepOf d s i c e v u a = Executes cells_of looked_at with_cell (step (with_rates_of d s) (word d.seed d.quantum) i c) v u e a

module _ (d : DrawFields) (s : Settings) (q i n : ℕ) (c e : Creature) (v u : SoleFields) (a : Act)
    (r : IsReady c v (n + 1)) (settings : s ≡ v.world.settings) (draws : d ≡ draws_of s q) (x : StepOf d s i c e v u a) where
  abbrev t : Look Outcome
  t = step s (word s.seed q) i c

  abbrev outcome : Outcome
  outcome = answer t (λ p. slice_index v.world.soup p)

  -- the step leaves the view, the record and the act
  is_left : after_act with_cell (v, outcome) ≡ (u, (e, a))
  is_left = ap (after_act with_cell) (sym (pass-answer t v)) ∙ subst (λ (f : DrawFields). StepOf f s i c e v u a) draws x

  keeps : Keeps s c outcome
  keeps =
      subst (λ (z : World × Outcome). Keeps s c z.1) (walk-answer s t v.world)
      (always-walk (Keeps s c) s t v.world (cells_below v.world.soup r.world.within.codes)
      (step_keeps s (word s.seed q) i c c (record { id = refl; own = refl; daughter = refl; errors = refl; genotype = refl; bred = refl })))

  turn : IsTurn outcome.0 v
  turn =
      let f = r.turn.shares in
      let g = keeps.0 in
      record {
        shares = record {
          id = g.id ∙ f.id;
          own = g.own ∙ f.own;
          daughter = g.daughter ∙ f.daughter;
          errors = g.errors ∙ f.errors;
          genotype = g.genotype ∙ f.genotype;
          bred = g.bred ∙ f.bred;
        };
        own = r.turn.own ∙ sym g.own;
        daughter = r.turn.daughter ∙ sym g.daughter;
      }

  steps : step_in world_machine s (word s.seed q) i (put c v.world) ≡ (put e (errs a u).world, a)
  unfolding step_in
  steps =
      ap (λ (y : Creature). settle_step world_machine s (walk world_machine s (step s (word s.seed q) i y) (put c v.world))) (now c v (n + 1) r)
      ∙ ap (settle_step world_machine s) (walk-answer s t (put c v.world))
      ∙ ap (λ (y : World). (do_act world_machine s outcome.1 y, outcome.1)) (put-put outcome.0 c v.world keeps.0.id)
      ∙ ap (λ (y : World). (y, outcome.1)) (does s outcome.1 outcome.0 v (starts_here c v (n + 1) r) (keeps.0.id ∙ number c v (n + 1) r) turn.shares)
      ∙ ap (λ (z : SoleFields × Outcome). (put z.1.0 (errs z.1.1 z.0).world, z.1.1)) is_left

  same_step : ((errs a u).world.settings ≡ v.world.settings) × ((errs a u).world.quanta ≡ v.world.quanta)
  same_step =
      subst (λ (z : SoleFields × Outcome). ((errs z.1.1 z.0).world.settings ≡ v.world.settings) × ((errs z.1.1 z.0).world.quanta ≡ v.world.quanta)) is_left
      (same_done outcome.1 v)

  -- before an error is done in it, the world runs
  pub erred_runs : a ≡ act.Erred → IsRunning u.world
  erred_runs is =
      subst (λ (z : SoleFields × Outcome). z.1.1 ≡ act.Erred → IsRunning z.0.world) is_left
      (λ o. subst (λ (b : Act). IsRunning (view_after with_cell b v).world) (sym o) (runs c v (n + 1) r)) is

  -- ---- once an error is done

  module _ (y : SoleFields) (is : y ≡ errs a u) where
    pub step_is : step_in world_machine s (word s.seed q) i (put c v.world) ≡ (put e y.world, a)
    step_is = steps ∙ (λ j. (put e (sym is j).world, a))

    pub step_frame : (name : ℕ) → frame_of y name ≡ frame_of v name
    step_frame name =
        ap (λ (z : SoleFields). frame_of z name) is
        ∙ (λ j. record { settings = same_step.0 j; quantum = same_step.1 j + 1; lent = name })

    pub step_ready : CanExecute size_of cells_of is_writable s e u → IsAfterStep c e → IsReady e y n
    step_ready can after =
        let f = r.record_in in
        subst (λ (z : SoleFields). IsReady e z n) (sym is) (record {
          turn = subst (λ (z : SoleFields × Outcome). IsTurn z.1.0 (errs z.1.1 z.0)) is_left
              (turn_done s outcome.1 outcome.0 v settings (starts_here c v (n + 1) r) keeps.1 turn);
          world = subst (λ (z : SoleFields × Outcome). InQuantum (errs z.1.1 z.0).world n) is_left
              (world_done s outcome.1 outcome.0 v n settings r.world keeps.1);
          record_in = record {
            ip = subst (λ (z : Settings). e.ip < z.soup_size) (settings ∙ sym same_step.0) can.ip;
            sp = can.sp;
            moved = omega (arith, after.moved, f.moved);
            ran = omega (arith, after.ran, f.ran);
          };
        })

    pub step_left : CanExecute size_of cells_of is_writable s e u → IsAfterStep c e → IsLeft (front (put e y.world)) a
    step_left can after =
        subst (λ (z : Creature). IsLeft z a) (sym (now e y n (step_ready can after)))
        (subst (λ (z : SoleFields × Outcome). IsLeft z.1.0 z.1.1) is_left (leaves s outcome.1 outcome.0 keeps.1))

-- an error was done, or there was none to do
pub erred_is : (a : Act) (u y : SoleFields) → a ≡ act.Erred → y ≡ sole_after event.Err u → y ≡ errs a u
erred_is a u y is after = after ∙ sym (ap (λ (b : Act). errs b u) is)

pub none_is : (a : Act) (u : SoleFields) → (a ≡ act.Erred → ⊥) → u ≡ errs a u
none_is act.Plain u not = refl
none_is (act.Wrote at value) u not = refl
none_is act.Erred u not = absurd (not refl)
none_is (act.Mal size) u not = refl
none_is act.Divide u not = refl
