use Rattle.std.proofs.Common.{◌*◌, ◌%◌, ◌^◌, ◌<◌, arith}
use Rattle.std.proofs.lemmas.Nat.{pow_below, xor_lt}
use Rattle.serial_slicer.proofs.sole.flip_bit.Goals as goal

pub returns-clause-below : goal.returns-clause-below
returns-clause-below c =
    let small : 2 ^ c.args.bit < 2 ^ 5 = pow_below c.args.bit 5 c.requires.bit in
    let mask : 1 * 2 ^ c.args.bit % 256 < 2 ^ 5 = omega arith in
    xor_lt 5 c.args.value (1 * 2 ^ c.args.bit % 256) c.requires.value mask
