use Rattle.std.proofs.Common.{◌≡◌, ℕ, ◌<◌, None}
use Rattle.std.specs.Prelude.{slice_index_or}
use Rattle.commit_book.proofs.book.Book.keeps_findings.Given as goal

abbrev pub invariant-loop-place : goal.invariant-loop-place
invariant-loop-place l = (i : ℕ) → i < l.place → slice_index_or l.self.stash i None ≡ None
