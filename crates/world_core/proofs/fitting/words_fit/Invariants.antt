use Rattle.std.proofs.Common.{All, FitsSigned, take}
use Rattle.std.specs.Int.{w32}
use Rattle.world_core.proofs.fitting.words_fit.Given as goal

abbrev pub invariant-loop-word : goal.invariant-loop-word
invariant-loop-word l = All (FitsSigned w32) (take l.word-index l.words)
