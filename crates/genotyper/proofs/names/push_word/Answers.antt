use Rattle.std.proofs.Common.{◌-◌, ◌≤◌, ◌^◌, arith, lit<}
use Rattle.std.proofs.Math.Nat.{one-le-pow}
use Rattle.genotyper.proofs.Digits.{power_fits}
use Rattle.genotyper.proofs.Words.{word-push}
use Rattle.genotyper.proofs.names.push_word.Goals as goal

pub pow-unit-requires : goal.pow-unit-requires
pow-unit-requires c = power_fits 26 (c.loop-place.place - 1) 13 (2 ^ 64) (lit< tt) (omega (arith, c.requires.few)) (lit< tt)

pub loop-place-preserved : goal.loop-place-preserved
loop-place-preserved c =
    let some : 1 ≤ 26 ^ (c.loop-place.place - 1) = one-le-pow (c.loop-place.place - 1) 26 (lit< tt) in (
      word-push c.loop-place.place c.loop-place.left c.pow-unit.result _ _ _ (omega arith) c.loop-place.invariant.0 c.pow-unit.ensures
          c.in_ok-push.ensures.items,
      omega arith,
    )
