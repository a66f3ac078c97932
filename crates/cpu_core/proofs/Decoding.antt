-- The instruction of a code.
use Rattle.std.proofs.Common.{◌≡◌, ℕ, ◌<◌}
use Rattle.std.specs.Prelude.{Some, slice_get}
use Rattle.std.proofs.lemmas.Option.{slice_get-get_or}
use Rattle.tierra_model.specs.declared.ops.Op.TheVariants.{Nop0}
use Rattle.tierra_model.specs.Table.{op_of, ops}

pub slice_get-ops : (code : ℕ) → code < 32 → slice_get ops code ≡ Some (op_of code)
unfolding op_of
slice_get-ops code h = slice_get-get_or ops code Nop0 h
