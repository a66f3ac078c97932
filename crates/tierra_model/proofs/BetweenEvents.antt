-- Between any two events of a list that can happen in a sound world, the world is within its quantum: blocks, numbers and
-- counts are in their bounds, and the cells of a daughter block are codes.
use Rattle.std.proofs.Common.{ℕ, suc, ◌+◌, ◌*◌, List, [], ◌∷◌, ◌++◌, arith, length}
use Rattle.tierra_model.specs.declared.parameters.Settings.{Settings}
use Rattle.tierra_model.specs.declared.events.Event.{Event}
use Rattle.tierra_model.specs.declared.events.Event.TheVariants as event
use Rattle.tierra_model.specs.World.{World}
use Rattle.tierra_model.specs.Sound.{IsSound, count_limit}
use Rattle.tierra_model.specs.Events.{apply_event}
use Rattle.tierra_model.specs.Replay.{CanAllHappen, after_events}
use Rattle.tierra_model.proofs.WithinQuantum.{WithinQuantum, Adds, within-event}
use Rattle.tierra_model.proofs.WithinRun.{within-weaker}
use Rattle.tierra_model.proofs.Sound.{within-start}

-- no event adds more than this
adds-at_most : (v : Event) (e b z : ℕ) → Adds v e b z (e + 1) (b + 1) (z + 20100)
adds-at_most event.Err e b z = record { errors = omega arith; next_birth = omega arith; size = omega arith }
adds-at_most _ e b z = record { errors = omega arith; next_birth = omega arith; size = omega arith }

pub within-events : (s : Settings) (e m b z q : ℕ) (events : List Event) (w : World) → WithinQuantum s e m b z q w → CanAllHappen w events
    → WithinQuantum s (e + length events) m (b + length events) (z + 20100 * length events) q (after_events w events)
within-events s e m b z q [] w d c =
    within-weaker s e m b z q (e + 0) m (b + 0) (z + 20100 * 0) w (omega arith) (omega arith) (omega arith) (omega arith) d
within-events s e m b z q (v ∷ vs) w d c =
    let n : ℕ = length vs in
    let one = within-event v s e m b z q (e + 1) (b + 1) (z + 20100) w d c.0 (adds-at_most v e b z) in
    within-weaker s (e + 1 + n) m (b + 1 + n) (z + 20100 + 20100 * n) q (e + suc n) m (b + suc n) (z + 20100 * suc n) (after_events (apply_event w v) vs)
    (omega arith) (omega arith) (omega arith) (omega arith)
    (within-events s (e + 1) m (b + 1) (z + 20100) q vs (apply_event w v) one c.1)

-- the events before the last ones
pub can-left : (w : World) (xs ys : List Event) → CanAllHappen w (xs ++ ys) → CanAllHappen w xs
can-left w [] ys c = tt
can-left w (v ∷ vs) ys c = (c.0, can-left (apply_event w v) vs ys c.1)

-- after xs and before ys
pub between_events : (w : World) (xs ys : List Event) → IsSound w → CanAllHappen w (xs ++ ys)
    → WithinQuantum w.settings (count_limit w.quanta + length xs) (count_limit w.quanta) (count_limit w.quanta + length xs) (0 + 20100 * length xs)
    (w.quanta + 1) (after_events w xs)
between_events w xs ys s c =
    within-events w.settings (count_limit w.quanta) (count_limit w.quanta) (count_limit w.quanta) 0 (w.quanta + 1) xs w (within-start w s) (can-left w xs ys c)
