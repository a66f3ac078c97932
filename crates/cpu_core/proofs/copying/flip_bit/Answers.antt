use Rattle.std.proofs.Common.{◌*◌, ◌%◌, ◌^◌, ◌<◌, arith}
use Rattle.std.proofs.lemmas.Nat.{pow_below, xor_lt}
use Rattle.cpu_core.proofs.copying.flip_bit.Goals as goal

pub returns-in-Some-clause-below : goal.returns-in-Some-clause-below
returns-in-Some-clause-below c =
    let small : 2 ^ c.in-Some.bit < 2 ^ 5 = pow_below c.in-Some.bit 5 (omega (arith, rw c.in-Some.is at c.requires.bit)) in
    let mask : 1 * 2 ^ c.in-Some.bit % 256 < 2 ^ 5 = omega arith in
    xor_lt 5 c.args.value (1 * 2 ^ c.in-Some.bit % 256) c.requires.value mask
