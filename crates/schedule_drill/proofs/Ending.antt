-- The book is advanced to its end.
use Rattle.std.proofs.Common.{◌≡◌, ℕ, zero, suc, ◌+◌, arith}
use Rattle.commit_book.specs.Book.{BookFields, after_commits}

pub commits-count : (by k : ℕ) (b : BookFields) → (after_commits by k b).committed ≡ b.committed + k
commits-count by zero b = omega arith
commits-count by (suc k) b = omega (arith, commits-count by k b)
