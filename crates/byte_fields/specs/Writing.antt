-- Fields as bytes. Numbers are big-endian.
use Rattle.std.specs.Int.{to_be_bytes, w32, w64}
use Rattle.std.specs.Prelude.{IfSome, List, None, Option, Some, ℕ, ◌++◌, ◌<◌, ◌^◌}
use Rattle.tierra_model.specs.declared.creatures.Effort.{Effort}

abbrev pub four : ℕ → List ℕ
four n = to_be_bytes w32 n

abbrev pub eight : ℕ → List ℕ
eight n = to_be_bytes w64 n

-- 0 and 0 for no effort, since every effort ran at least one instruction
unfoldable pub effort_bytes : Option Effort → List ℕ
effort_bytes None = eight 0 ++ eight 0
effort_bytes (Some e) = eight e.ran ++ eight e.moved

-- the numbers of an effort fit in eight bytes
abbrev pub IsLongEffort : Option Effort → Type 0
IsLongEffort o = IfSome o (λ (e : Effort). (e.ran < 2 ^ 64) × (e.moved < 2 ^ 64))
