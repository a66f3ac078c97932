use Rattle.std.proofs.Common.{◌≡◌, ◌≤◌, ◌^◌, ℕ}
use Rattle.genotyper.specs.Names.{letters_of, word_from}
use Rattle.genotyper.proofs.names.push_letters.Given as goal

abbrev pub invariant-loop-words : goal.invariant-loop-words
invariant-loop-words l =
    (l.words ≡ 26 ^ l.letters) × (l.letters ≤ 14)
    × ((lengths : ℕ) × (l.left ≤ lengths) × (word_from lengths l.letters l.left ≡ letters_of l.fn.rank))

abbrev pub decreases-loop-words : goal.decreases-loop-words
decreases-loop-words l = l.left
