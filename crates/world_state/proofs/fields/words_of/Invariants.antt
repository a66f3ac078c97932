use Rattle.std.proofs.Common.{◌≡◌, ◌-◌, length, take}
use Rattle.byte_fields.specs.Reading.{list_at}
use Rattle.byte_fields.proofs.ListLoop.{with_front}
use Rattle.world_state.specs.Reading.{register_at}
use Rattle.world_state.proofs.fields.words_of.Given as goal

abbrev pub invariant-loop-k : goal.invariant-loop-k
invariant-loop-k l =
    (length l.words ≡ 10) × (with_front (take l.k l.words) (list_at register_at (10 - l.k) l.rest) ≡ list_at register_at 10 l.bytes)
