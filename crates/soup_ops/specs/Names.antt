-- The names of the instructions.
use Rattle.std.specs.Prelude.{List, ℕ, Option, codes, position}
use Rattle.std.specs.Str.{bytes_eq}
use Rattle.tierra_model.specs.declared.ops.Op.{Op}
use Rattle.tierra_model.specs.declared.ops.Op.TheVariants.{Adr, AdrB, AdrF, Call, DecC, Divide, IfCz, IncA, IncB, IncC}
use Rattle.tierra_model.specs.declared.ops.Op.TheVariants.{Jmp, JmpB, Mal, MovAb, MovCd, MovIab, Nop0, Nop1, Or1, PopAx}
use Rattle.tierra_model.specs.declared.ops.Op.TheVariants.{PopBx, PopCx, PopDx, PushAx, PushBx, PushCx, PushDx, Ret}
use Rattle.tierra_model.specs.declared.ops.Op.TheVariants.{Shl, SubAb, SubAc, Zero}
use Rattle.tierra_model.specs.Table.{ops}

-- the name of an instruction
abbrev pub name_of : Op → List ℕ
name_of Nop0 = codes "nop_0"
name_of Nop1 = codes "nop_1"
name_of Or1 = codes "or1"
name_of Shl = codes "shl"
name_of Zero = codes "zero"
name_of IfCz = codes "if_cz"
name_of SubAb = codes "sub_ab"
name_of SubAc = codes "sub_ac"
name_of IncA = codes "inc_a"
name_of IncB = codes "inc_b"
name_of DecC = codes "dec_c"
name_of IncC = codes "inc_c"
name_of PushAx = codes "push_ax"
name_of PushBx = codes "push_bx"
name_of PushCx = codes "push_cx"
name_of PushDx = codes "push_dx"
name_of PopAx = codes "pop_ax"
name_of PopBx = codes "pop_bx"
name_of PopCx = codes "pop_cx"
name_of PopDx = codes "pop_dx"
name_of Jmp = codes "jmp"
name_of JmpB = codes "jmpb"
name_of Call = codes "call"
name_of Ret = codes "ret"
name_of MovCd = codes "mov_cd"
name_of MovAb = codes "mov_ab"
name_of MovIab = codes "mov_iab"
name_of Adr = codes "adr"
name_of AdrB = codes "adrb"
name_of AdrF = codes "adrf"
name_of Mal = codes "mal"
name_of Divide = codes "divide"

-- the code that a word stands for: the place in the table of the instruction with this name
abbrev pub code_of : List ℕ → Option ℕ
code_of word = position (λ op. bytes_eq (name_of op) word) ops
