-- What a worker is to do next.
use Rattle.std.specs.Prelude.{ℕ}
use Rattle.crew.specs.declared.shelf.Task.{Task}
use Rattle.crew.specs.declared.shelf.Task.TheVariants as task

abbrev pub OnHand : {P : Type 0} → Task P → (P → Type 0) → Type 0
OnHand (task.Hand p) F = F p
OnHand (task.Draw q) F = Unit {0}
OnHand task.End F = Unit {0}

abbrev pub OnDraw : {P : Type 0} → Task P → (ℕ → Type 0) → Type 0
OnDraw (task.Hand p) F = Unit {0}
OnDraw (task.Draw q) F = F q
OnDraw task.End F = Unit {0}
