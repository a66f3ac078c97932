use Rattle.std.proofs.Common.{◌∙◌, ◌+◌, ◌≡◌, ℕ, ap, arith, sym}
use Rattle.std.specs.Prelude.{bit_and}
use Rattle.std.proofs.lemmas.Bool.Decides.{nat_tests}
use Rattle.template_search.proofs.Words.{agrees_in_word}
use Rattle.template_search.proofs.opening.Opening.agrees.Goals as goal

pub returns : goal.returns
returns c vs opening is =
    let word = c.word_at.ensures.word in
    let same : bit_and c.word_at.result c.args.self.mask ≡ c.args.self.cells = grind (arith, nat_tests) in
    agrees_in_word vs c.args.row.now c.args.place c.args.self opening (λ j. c.word_at.ensures.bytes (c.args.place + j))
    (ap (λ (n : ℕ). bit_and n c.args.self.mask) (sym word) ∙ same)
