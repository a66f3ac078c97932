use Rattle.std.proofs.Common.{◌+◌, ◌*◌, ◌<◌, ◌^◌, arith, length}
use Rattle.genotyper.proofs.Digits.{digit_fits, next_power_fits, value_in-take}
use Rattle.genotyper.proofs.names.value_in.Goals as goal

pub overflow_mul-value : goal.overflow_mul-value
overflow_mul-value c =
    let fits = next_power_fits c.args.base c.loop-digit.digit-index (length c.args.digits.now) (2 ^ 63) c.requires.base.0
    c.loop-digit-test.true c.requires.fits in
    omega (arith, digit_fits c.args.base c.loop-digit.value c.loop-digit.digit-index 0 c.loop-digit.invariant.1 c.requires.base.0)

-- the digit leaves the value below the next power of the base
below : (c : goal.After-from)
    → c.loop-digit.value * c.args.base + c.from.result < c.args.base ^ (c.loop-digit.digit-index + 1)
below c =
    let digit = c.requires.digits c.loop-digit.digit-index 0 c.loop-digit-test.true in
    digit_fits c.args.base c.loop-digit.value c.loop-digit.digit-index c.from.result c.loop-digit.invariant.1
    (omega (arith, c.from.ensures, digit, c.requires.base))

pub overflow_add-value : goal.overflow_add-value
overflow_add-value c =
    let fits = next_power_fits c.args.base c.loop-digit.digit-index (length c.args.digits.now) (2 ^ 63) c.requires.base.0
    c.loop-digit-test.true c.requires.fits in
    omega (arith, below c)

pub loop-digit-preserved : goal.loop-digit-preserved
loop-digit-preserved c = (
  value_in-take c.args.base c.args.first c.args.digits.now c.loop-digit.digit-index c.loop-digit.value c.from.result
      c.loop-digit-test.true c.loop-digit.invariant.0 c.from.ensures,
  below c,
)
