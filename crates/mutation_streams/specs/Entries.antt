-- What chance does in a quantum, as a list of what is due.
use Rattle.std.specs.List.{range_with_len}
use Rattle.std.specs.Ordering.{int_eq}
use Rattle.std.specs.declared.alloc.Global.{Global}
use Rattle.std.specs.Prelude.{Bool, Box, List, None, Option, Some, [], filter, find, is_some, length, map, not, pos}
use Rattle.std.specs.Prelude.{slice_index_or, ℕ, ℤ, ◌+◌, ◌<◌, ◌==◌, ◌^◌, ◌≡◌, ◌≤◌, ◌||◌}
use Rattle.tierra_model.specs.declared.parameters.Settings.{Settings}
use Rattle.tierra_model.specs.Draw.{back_flip, copy_bit, flaw, word}
use Rattle.mutation_streams.specs.declared.entry.Chance.{Chance}
use Rattle.mutation_streams.specs.declared.entry.Due.{Due}
use Rattle.mutation_streams.specs.Draws.{DrawFields, draws_of}

-- the flip in the soup, and the instructions that have a flaw or a flip in their copy, in order
pub record EntryFields : Type 0 where
  pub back : Option (ℕ × ℕ)
  pub due : List Chance

-- the flaw of instruction i, and the flip in its copy
abbrev pub chance_of : DrawFields → ℕ → Chance
chance_of d i =
    let draw = word d.seed d.quantum in
    record { instruction = i; flaw = flaw d.flaw_rate draw i; copy_bit = copy_bit d.copy_rate draw i }

-- whether either is there
abbrev pub is_any : Chance → Bool
is_any c = not (int_eq c.flaw (pos 0)) || is_some c.copy_bit

-- what is due in a quantum, in its first `reach` instructions
abbrev pub entry_of : DrawFields → ℕ → EntryFields
entry_of d reach = record {
  back = back_flip d.back_rate (word d.seed d.quantum) d.soup_size;
  due = filter is_any (map (chance_of d) (range_with_len 0 reach));
}

-- what an entry says of instruction i
abbrev pub flaw_due : Option Chance → ℤ
flaw_due None = pos 0
flaw_due (Some c) = c.flaw

abbrev pub copy_bit_due : Option Chance → Option ℕ
copy_bit_due None = None
copy_bit_due (Some c) = c.copy_bit

abbrev pub due_at : EntryFields → ℕ → Option Chance
due_at e i = find (λ c. c.instruction == i) e.due

-- what a list of what is due says, if there is one
abbrev pub listed : Option (Box Due Global) → EntryFields
listed None = record { back = None; due = [] }
listed (Some d) = record { back = d.value.back; due = d.value.chances.items }

-- what contracts see of a block: the draws of the first quantum whose entry is still there, the number of instructions
-- that each entry tells of, and the quantum after the last entry
pub record BlockFields : Type 0 where
  pub next : DrawFields
  pub reach : ℕ
  pub end : ℕ

-- the block has the entry of quantum q of a world with the settings
pub record HasEntry (b : BlockFields) (s : Settings) (q : ℕ) : Type 0 where
  pub settings : draws_of s b.next.quantum ≡ b.next
  pub later : b.next.quantum ≤ q
  pub before : q < b.end

-- In a block that begins at a quantum, each entry from `next` on is that of its quantum.
pub record IsBlock (next : DrawFields) (begin reach : ℕ) (entries : List EntryFields) : Type 0 where
  pub begun : begin ≤ next.quantum
  pub within : next.quantum ≤ begin + length entries
  pub few : begin + length entries < 2 ^ 64
  pub each : (k : ℕ) (e : EntryFields) → k < length entries → next.quantum ≤ begin + k
      → slice_index_or entries k e ≡ entry_of (record next { quantum = begin + k }) reach
