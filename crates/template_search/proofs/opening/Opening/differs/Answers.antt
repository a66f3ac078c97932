use Rattle.std.proofs.Common.{◌∙◌, ◌+◌, ◌≡◌, ℕ, ap, arith, sym}
use Rattle.std.specs.Prelude.{bit_and}
use Rattle.std.proofs.lemmas.Bool.Decides.{nat_tests}
use Rattle.template_search.proofs.Words.{differs_in_word, no_codes}
use Rattle.template_search.proofs.opening.Opening.differs.Goals as goal

pub returns-then-seen-self : goal.returns-then-seen-self
returns-then-seen-self c vs opening is =
    let word = c.word_at.ensures.word in
    let other = c.if-seen-self.true in
    differs_in_word vs c.args.row.now c.args.place c.args.self opening (λ j. c.word_at.ensures.bytes (c.args.place + j))
    (λ e. (let same = ap (λ (n : ℕ). bit_and n c.args.self.mask) word ∙ e in grind (arith, nat_tests)))
    (ap (λ (n : ℕ). bit_and (bit_and n c.args.self.mask) no_codes) (sym word)
    ∙ (let none : bit_and (bit_and c.word_at.result c.args.self.mask) no_codes ≡ 0 = grind (arith, nat_tests) in none))
