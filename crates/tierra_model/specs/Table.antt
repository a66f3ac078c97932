-- The table of instructions: the code of each is its place.
use Rattle.std.specs.Prelude.{List, [], slice_index_or, ℕ, ◌∷◌}
use Rattle.tierra_model.specs.declared.ops.Op.{Op}
use Rattle.tierra_model.specs.declared.ops.Op.TheVariants.{Adr, AdrB, AdrF, Call, DecC, Divide, IfCz, IncA, IncB, IncC}
use Rattle.tierra_model.specs.declared.ops.Op.TheVariants.{Jmp, JmpB, Mal, MovAb, MovCd, MovIab, Nop0, Nop1, Or1, PopAx}
use Rattle.tierra_model.specs.declared.ops.Op.TheVariants.{PopBx, PopCx, PopDx, PushAx, PushBx, PushCx, PushDx, Ret}
use Rattle.tierra_model.specs.declared.ops.Op.TheVariants.{Shl, SubAb, SubAc, Zero}

abbrev pub ops : List Op
ops =
    Nop0 ∷ Nop1 ∷ Or1 ∷ Shl ∷ Zero ∷ IfCz ∷ SubAb ∷ SubAc
    ∷ IncA ∷ IncB ∷ DecC ∷ IncC ∷ PushAx ∷ PushBx ∷ PushCx ∷ PushDx
    ∷ PopAx ∷ PopBx ∷ PopCx ∷ PopDx ∷ Jmp ∷ JmpB ∷ Call ∷ Ret
    ∷ MovCd ∷ MovAb ∷ MovIab ∷ Adr ∷ AdrB ∷ AdrF ∷ Mal ∷ Divide ∷ []

-- the instruction of a code; each code in a cell is below 32
unfoldable pub op_of : ℕ → Op
op_of code = slice_index_or ops code Nop0
