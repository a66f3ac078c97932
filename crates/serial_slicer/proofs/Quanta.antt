-- A world in its quantum stays in it through what happens.
use Rattle.std.proofs.Common.{◌≡◌, ℕ, ◌+◌, ◌*◌, ◌<◌, ◌≤◌, List, refl, arith}
use Rattle.std.specs.Prelude.{None, Option, Some}
use Rattle.tierra_model.specs.declared.limits.TheConstants.{MOST_QUANTA}
use Rattle.tierra_model.specs.declared.creatures.Block.{Block}
use Rattle.tierra_model.specs.declared.events.Event.{Event}
use Rattle.tierra_model.specs.declared.events.Event.TheVariants as event
use Rattle.tierra_model.specs.Events.{apply_event, with_birth}
use Rattle.tierra_model.specs.Individuals.{genotypes_at_birth}
use Rattle.tierra_model.specs.Replay.{CanHappen}
use Rattle.tierra_model.specs.SceneRun.{births_of}
use Rattle.tierra_model.specs.Sound.{IsSound, count_limit}
use Rattle.tierra_model.specs.World.{Genotype, World, front}
use Rattle.tierra_model.proofs.Population.{errors_of}
use Rattle.tierra_model.proofs.Sound.{within-start}
use Rattle.tierra_model.proofs.WithinQuantum.{within-event}
use Rattle.world_core.specs.Running.{IsRunning}
use Rattle.world_core.proofs.Within.{running-within}
use Rattle.serial_slicer.specs.Turns.{InQuantum}

pub quantum-running : (w : World) (n : ℕ) → InQuantum w n → IsRunning w
quantum-running w n k =
    running-within k.settings k.errors k.copies k.births k.size k.quantum w k.within (omega (arith, k.few_errors)) (omega (arith, k.few_births))
    (omega (arith, k.few_quanta))

-- an event takes up k of what the counts can grow by
pub quantum-event : (e : Event) (w : World) (n k : ℕ) → InQuantum w (n + k) → CanHappen w e → errors_of e ≤ k → births_of e ≤ k → InQuantum (apply_event w e) n
quantum-event e w n k q can errors births =
    record {
      settings = q.settings;
      errors = q.errors + k;
      copies = q.copies;
      births = q.births + k;
      size = q.size + 20100 * k;
      quantum = q.quantum;
      within = within-event e q.settings q.errors q.copies q.births q.size q.quantum (q.errors + k) (q.births + k) (q.size + 20100 * k) w q.within can
          (record { errors = omega (arith, errors); next_birth = omega (arith, births); size = omega (arith, births) });
      few_errors = omega (arith, q.few_errors);
      few_births = omega (arith, q.few_births);
      few_quanta = q.few_quanta;
    }

-- a sound world is in its next quantum, of at most 10000 instructions
pub sound-in_quantum : (w : World) (n : ℕ) → IsSound w → w.quanta < MOST_QUANTA → n ≤ 40001 → InQuantum w n
sound-in_quantum w n s more few =
    let l : ℕ = count_limit w.quanta in
    record {
      settings = w.settings;
      errors = l;
      copies = l;
      births = l;
      size = 0;
      quantum = w.quanta + 1;
      within = within-start w s;
      few_errors = omega (arith, more);
      few_births = omega (arith, more);
      few_quanta = omega (arith, more);
    }

-- ---- what an event leaves as it is

quanta-with_birth : (known : List Genotype) (o : Option Block) (mother : ℕ) (w : World) → (with_birth known o mother w).quanta ≡ w.quanta
quanta-with_birth known None mother w = refl
quanta-with_birth known (Some b) mother w = refl

pub quanta-event : (w : World) (e : Event) → (apply_event w e).quanta ≡ w.quanta
unfolding apply_event
quanta-event w (event.Divide ran moved) = quanta-with_birth (genotypes_at_birth (front w) ran moved w.genotypes) (front w).daughter (front w).genotype w
quanta-event w _ = refl
