use Rattle.std.proofs.Common.{◌≡◌, ◌+◌, drop}
use Rattle.tierra_dis.specs.Disassembly.{listing_text}
use Rattle.tierra_dis.proofs.Lines.{listing_from, after_text}
use Rattle.tierra_dis.proofs.disassembly.disassemble.Given as goal

abbrev pub invariant-loop-index : goal.invariant-loop-index
invariant-loop-index l = listing_text l.code ≡ after_text l.items.items (listing_from (l.index + 1) (drop l.index l.code))
