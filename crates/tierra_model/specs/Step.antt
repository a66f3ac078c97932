-- One instruction of one creature: the record after it, what it wants done, and the cells that it looked at.
use Rattle.std.specs.Prelude.{Bool, None, Option, Some, bit_xor, false, if◌then◌else◌, min, nat_le, negsuc, pos}
use Rattle.std.specs.Prelude.{slice_index_or, slice_set, unsigned_abs, ℕ, ℤ, ◌%◌, ◌&&◌, ◌*◌, ◌+ℤ◌, ◌+◌, ◌==◌, ◌^◌, ◌||◌}
use Rattle.tierra_model.specs.declared.events.Act.{Act}
use Rattle.tierra_model.specs.declared.creatures.Block.{Block}
use Rattle.tierra_model.specs.declared.creatures.Creature.{Creature}
use Rattle.tierra_model.specs.declared.searching.Found.{Found}
use Rattle.tierra_model.specs.declared.ops.Op.{Op}
use Rattle.tierra_model.specs.declared.ops.Op.TheVariants.{Adr, AdrB, AdrF, Call, DecC, Divide, IfCz, IncA, IncB, IncC}
use Rattle.tierra_model.specs.declared.ops.Op.TheVariants.{Jmp, JmpB, Mal, MovAb, MovCd, MovIab, Nop0, Nop1, Or1, PopAx}
use Rattle.tierra_model.specs.declared.ops.Op.TheVariants.{PopBx, PopCx, PopDx, PushAx, PushBx, PushCx, PushDx, Ret}
use Rattle.tierra_model.specs.declared.ops.Op.TheVariants.{Shl, SubAb, SubAc, Zero}
use Rattle.tierra_model.specs.declared.parameters.Settings.{Settings}
use Rattle.tierra_model.specs.declared.searching.Way.TheVariants.{Backward, Forward, Outward}
use Rattle.tierra_model.specs.declared.events.Act.TheVariants as act
use Rattle.tierra_model.specs.declared.searching.Found.TheVariants as found
use Rattle.tierra_model.specs.Ring.{address, minus, plus, times, xor}
use Rattle.tierra_model.specs.Look.{Answer, Look, cell, ◌>>=◌}
use Rattle.tierra_model.specs.Table.{op_of}
use Rattle.tierra_model.specs.Search.{search_for}
use Rattle.tierra_model.specs.Draw.{copy_bit, flaw}
use Rattle.tierra_model.specs.Blocks.{is_in, is_in_daughter}

-- the size that mal is to give, or None if the request is an error
abbrev pub mal_request : Settings → ℕ → ℤ → Option ℕ
mal_request s size (negsuc k) = None
mal_request s size (pos k) =
    if nat_le s.min_cell k && nat_le k (min s.max_cell (s.mal_mult * size)) then Some k else None

abbrev pub may_divide : Settings → Option Block → ℕ → Bool
may_divide s None moved = false
may_divide s (Some b) moved = nat_le (s.move_percent * b.size) (moved * 100)

-- a push moves the pointer up and stores there
abbrev pub push : Creature → ℤ → Creature
push c v =
    let top = (c.sp + 1) % 10 in
    record c { stack = slice_set c.stack top v; sp = top }

-- the stack has ten words, and sp is below 10
abbrev pub top_of : Creature → ℤ
top_of c = slice_index_or c.stack c.sp (pos 0)

-- after a pop has read at the pointer, the pointer moves down
abbrev pub pop : Creature → Creature
pop c = record c { sp = (c.sp + 9) % 10 }

-- The record before the act changes it (record_after, in Events), and the act.
abbrev pub Outcome : Type 0
Outcome = Creature × Act

abbrev pub plain_outcome : Creature → Look Outcome
plain_outcome c = Answer (c, act.Plain)

abbrev pub error_outcome : Creature → Look Outcome
error_outcome c = Answer (c, act.Erred)

abbrev pub to_found : Creature → (ℕ → Creature) → Found → Look Outcome
to_found c go found.Short = error_outcome c
to_found c go found.NoMatch = error_outcome c
to_found c go (found.At p) = plain_outcome (go p)

abbrev pub mal_act : Option ℕ → Act
mal_act None = act.Erred
mal_act (Some size) = act.Mal size

-- a cell's value with the bit flipped, if one is given
abbrev pub flip_bit : ℕ → Option ℕ → ℕ
flip_bit v None = v
flip_bit v (Some bit) = bit_xor v (2 ^ bit)

abbrev pub is_zero : ℤ → Bool
is_zero (pos n) = n == 0
is_zero (negsuc n) = false

-- The cell at the address from is copied to the address to.
abbrev pub copy : Creature → ℕ → ℕ → Option ℕ → Look Outcome
copy c from to bit =
    if is_in c.own to || is_in_daughter c.daughter to then (do
      v ← cell from
      let moved = (if is_in_daughter c.daughter to then c.moved + 1 else c.moved)
      Answer (record c { moved = moved }, act.Wrote to (flip_bit v bit)))
    else error_outcome c

-- c is the record with ip at the next cell, ip is the instruction's own cell, and f is the flaw. So or1 flips the
-- bits of 1 + f, which is 0, 1 or 2, and shl multiplies by 2 to the power of 1 + f.
abbrev pub execute : Settings → ℤ → Option ℕ → ℕ → Creature → Op → Look Outcome
execute s f bit ip c Nop0 = plain_outcome c
execute s f bit ip c Nop1 = plain_outcome c
execute s f bit ip c Or1 = plain_outcome (record c { cx = xor c.cx (pos 1 +ℤ f) })
execute s f bit ip c Shl = plain_outcome (record c { cx = times c.cx (pos (2 ^ unsigned_abs (pos 1 +ℤ f))) })
execute s f bit ip c Zero = plain_outcome (record c { cx = plus (pos 0) f })
execute s f bit ip c IfCz = plain_outcome (record c { ip = (if is_zero c.cx then c.ip else (c.ip + 1) % s.soup_size) })
execute s f bit ip c SubAb = plain_outcome (record c { cx = plus (minus c.ax c.bx) f })
execute s f bit ip c SubAc = plain_outcome (record c { ax = plus (minus c.ax c.cx) f })
execute s f bit ip c IncA = plain_outcome (record c { ax = plus (plus c.ax (pos 1)) f })
execute s f bit ip c IncB = plain_outcome (record c { bx = plus (plus c.bx (pos 1)) f })
execute s f bit ip c DecC = plain_outcome (record c { cx = plus (minus c.cx (pos 1)) f })
execute s f bit ip c IncC = plain_outcome (record c { cx = plus (plus c.cx (pos 1)) f })
execute s f bit ip c PushAx = plain_outcome (push c c.ax)
execute s f bit ip c PushBx = plain_outcome (push c c.bx)
execute s f bit ip c PushCx = plain_outcome (push c c.cx)
execute s f bit ip c PushDx = plain_outcome (push c c.dx)
execute s f bit ip c PopAx = plain_outcome (pop (record c { ax = top_of c }))
execute s f bit ip c PopBx = plain_outcome (pop (record c { bx = top_of c }))
execute s f bit ip c PopCx = plain_outcome (pop (record c { cx = top_of c }))
execute s f bit ip c PopDx = plain_outcome (pop (record c { dx = top_of c }))
execute s f bit ip c Jmp =
    search_for s.soup_size ip Outward s.search_limit s.min_template >>= to_found c (λ p. record c { ip = p })
execute s f bit ip c JmpB =
    search_for s.soup_size ip Backward s.search_limit s.min_template >>= to_found c (λ p. record c { ip = p })
execute s f bit ip c Call =
    search_for s.soup_size ip Outward s.search_limit s.min_template
    >>= to_found c (λ p. record (push c (pos c.ip)) { ip = p })
execute s f bit ip c Ret = plain_outcome (record (pop c) { ip = address (top_of c) s.soup_size })
execute s f bit ip c MovCd = plain_outcome (record c { dx = plus c.cx f })
execute s f bit ip c MovAb = plain_outcome (record c { bx = plus c.ax f })
execute s f bit ip c MovIab = copy c (address c.bx s.soup_size) (address c.ax s.soup_size) bit
execute s f bit ip c Adr =
    search_for s.soup_size ip Outward s.search_limit s.min_template >>= to_found c
    (λ p. record c { ax = plus (pos p) f })
execute s f bit ip c AdrB =
    search_for s.soup_size ip Backward s.search_limit s.min_template >>= to_found c
    (λ p. record c { ax = plus (pos p) f })
execute s f bit ip c AdrF =
    search_for s.soup_size ip Forward s.search_limit s.min_template >>= to_found c
    (λ p. record c { ax = plus (pos p) f })
execute s f bit ip c Mal = Answer (c, mal_act (mal_request s c.own.size c.cx))
execute s f bit ip c Divide =
    Answer (c, (if may_divide s c.daughter c.moved then act.Divide else act.Erred))

-- Instruction i of a quantum whose draws are draw. The cells that it looks at, in order, are looks (step ..) of the
-- soup. The flag is 0, as without an error: an error changes the record when the act is done.
unfoldable pub step : Settings → (ℕ → ℕ) → ℕ → Creature → Look Outcome
step s draw i c = do
  code ← cell c.ip
  execute s (flaw s.flaw_rate draw i) (copy_bit s.copy_rate draw i) c.ip (record c {
    ip = (c.ip + 1) % s.soup_size;
    flag = 0;
    ran = c.ran + 1;
  }) (op_of code)
