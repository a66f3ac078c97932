-- The parts of a creature and of a world as the code holds them, turned into pairs in the order of reading.
use Rattle.std.specs.Prelude.{ℕ}
use Rattle.world_state.specs.declared.draft.Parts.{Parts}
use Rattle.world_state.specs.declared.fields.Body.{Body}
use Rattle.world_state.specs.declared.fields.Counts.{Counts}
use Rattle.world_state.specs.declared.fields.Registers.{Registers}
use Rattle.world_state.specs.declared.fields.Stack.{Stack}
use Rattle.world_state.specs.Reading as reading

abbrev pub body_parts : Body → reading.Body
body_parts b = (b.id, (b.own, (b.daughter, b.moved)))

abbrev pub registers_parts : Registers → reading.Registers
registers_parts r = ((r.ax, r.bx), (r.cx, r.dx))

abbrev pub stack_parts : Stack → reading.Stack
stack_parts s = (s.words, (s.sp, s.flag))

abbrev pub counts_parts : Counts → reading.Counts
counts_parts c = (c.errors, (c.genotype, (c.ran, c.bred)))

abbrev pub processor_parts : Registers → ℕ → Stack → reading.Processor
processor_parts r ip s = (registers_parts r, (ip, stack_parts s))

abbrev pub state_parts : Parts → reading.StateParts
state_parts p = (
  p.cells.items,
  (
    ((p.quanta, p.births), (p.deaths, p.next_birth)),
    (p.line.items, (p.reaper.items, (p.stored.items, p.saved.items))),
  ),
)
