use Rattle.std.proofs.Common.{◌≡◌, ℕ, ◌∙◌, ap, arith}
use Rattle.std.specs.Prelude.{List, None, Option, replicate}
use Rattle.tierra_model.specs.Findings.{Finding}
use Rattle.commit_book.proofs.book.no_findings.Goals as goal

pub returns : goal.returns
returns c =
    let all : c.loop-number._number ≡ c.args.window = omega (arith, c.loop-number-test.false, c.loop-number.auto._number-end) in
    c.loop-number.invariant ∙ ap (λ (n : ℕ). let xs : List (Option Finding) = replicate n None in xs) all
