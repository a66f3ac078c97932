-- A turn with room for more has room for less.
use Rattle.std.specs.Prelude.{ℕ, ◌≤◌}
use Rattle.std.proofs.Common.{arith}
use Rattle.tierra_model.specs.declared.creatures.Creature.{Creature}
use Rattle.tierra_model.specs.World.{World}
use Rattle.serial_slicer.specs.Turns.{InQuantum, IsReady, SoleFields}

pub quantum_fewer : (w : World) (m n : ℕ) → m ≤ n → InQuantum w n → InQuantum w m
quantum_fewer w m n h k =
    record {
      settings = k.settings;
      errors = k.errors;
      copies = k.copies;
      births = k.births;
      size = k.size;
      quantum = k.quantum;
      within = k.within;
      few_errors = omega (arith, k.few_errors);
      few_births = omega (arith, k.few_births);
      few_quanta = k.few_quanta;
    }

pub fewer : (c : Creature) (v : SoleFields) (m n : ℕ) → m ≤ n → IsReady c v n → IsReady c v m
fewer c v m n h r =
    let f = r.record_in in
    record {
      turn = r.turn;
      world = quantum_fewer v.world m n h r.world;
      record_in = record { ip = f.ip; sp = f.sp; moved = omega (arith, f.moved); ran = omega (arith, f.ran) };
    }
