-- The registers that a push and a pop name.
use Rattle.std.specs.Prelude.{ℤ}
use Rattle.tierra_model.specs.declared.creatures.Creature.{Creature}
use Rattle.cpu_core.specs.declared.stack.Register.{Register}
use Rattle.cpu_core.specs.declared.stack.Register.TheVariants.{Ax, Bx, Cx, Dx}

abbrev pub value_in : Register → Creature → ℤ
value_in Ax c = c.ax
value_in Bx c = c.bx
value_in Cx c = c.cx
value_in Dx c = c.dx

abbrev pub with_value_in : Register → ℤ → Creature → Creature
with_value_in Ax v c = record c { ax = v }
with_value_in Bx v c = record c { bx = v }
with_value_in Cx v c = record c { cx = v }
with_value_in Dx v c = record c { dx = v }
