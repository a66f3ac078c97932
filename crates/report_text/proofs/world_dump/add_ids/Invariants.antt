use Rattle.std.proofs.Common.{◌≡◌, ◌++◌, take}
use Rattle.std.specs.List.{flat_map}
use Rattle.std.specs.Prelude.{string_bytes}
use Rattle.report_text.specs.Dump.{id_text}
use Rattle.report_text.proofs.world_dump.add_ids.Given as goal

abbrev pub invariant-loop-place : goal.invariant-loop-place
invariant-loop-place l = string_bytes l.line ≡ string_bytes l.fn.line ++ flat_map id_text (take l.place l.world.world.reaper)
