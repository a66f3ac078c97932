use Rattle.std.proofs.Common.{◌≡◌, ◌<◌, ◌^◌, take}
use Rattle.genotyper.specs.Names.{value_in}
use Rattle.genotyper.proofs.names.value_in.Given as goal

abbrev pub invariant-loop-digit : goal.invariant-loop-digit
invariant-loop-digit l = (l.value ≡ value_in l.base l.first (take l.digit-index l.digits)) × (l.value < l.base ^ l.digit-index)
