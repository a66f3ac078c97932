use Rattle.std.proofs.Common.{◌<◌, ◌≤◌, vec_len}
use Rattle.std.specs.Prelude.{All}
use Rattle.tierra_asm.specs.Words.{words_of}
use Rattle.tierra_asm.specs.Listing.{named_code}
use Rattle.tierra_asm.proofs.Reading.{IsRead}
use Rattle.tierra_asm.proofs.assemble.Given as goal
use Rattle.tierra_model.specs.declared.limits.TheConstants.{MOST_SIZE}

abbrev pub invariant-loop-word : goal.invariant-loop-word
invariant-loop-word l =
    record {
      can : (goal.iterator-loop-word).can_next l.word-iterator;
      finite : (goal.iterator-loop-word).is_finite l.word-iterator;
      read : IsRead named_code (words_of l.text) l.items.items l.word-iterator;
      few : vec_len l.items ≤ MOST_SIZE;
      small : All (λ v. v < 32) l.items.items;
    }
