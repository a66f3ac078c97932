use Rattle.std.proofs.Common.{◌≡◌, ◌-◌}
use Rattle.byte_fields.specs.Reading.{list_at}
use Rattle.byte_fields.proofs.ListLoop.{with_front}
use Rattle.byte_fields.proofs.lists.list_of.Given as goal

abbrev pub invariant-loop : goal.invariant-loop
invariant-loop g l = with_front l.list.items (list_at (g.F.Field.at l.format) (l.count - l.counter) l.rest) ≡ list_at (g.F.Field.at l.format) l.count l.bytes
