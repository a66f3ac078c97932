use Rattle.std.proofs.Common.{◌∙◌, ◌+◌, ◌≡◌, ℕ, ap, arith, sym}
use Rattle.std.specs.Prelude.{bit_and, bit_or}
use Rattle.std.proofs.lemmas.Bool.Decides.{nat_tests}
use Rattle.template_search.proofs.Words.{differs_in_word, no_codes, none_in_either}
use Rattle.template_search.proofs.opening.Opening.both_differ.Goals as goal

pub returns-then-one-self : goal.returns-then-one-self
returns-then-one-self c vs opening is =
    let mask = c.args.self.mask in
    let first = c.word_at.ensures in
    let second = c.word_at-2.ensures in
    let one = c.if-one-self.true in
    let none : bit_or (bit_and (bit_and c.word_at.result mask) no_codes) (bit_and (bit_and c.word_at-2.result mask) no_codes) ≡ 0 =
    (let known = c.if-one-other-ne0.false in grind (arith, nat_tests)) in
    let each = none_in_either (bit_and (bit_and c.word_at.result mask) no_codes) (bit_and (bit_and c.word_at-2.result mask) no_codes) none in (
      differs_in_word vs c.args.row.now c.args.first c.args.self opening (λ j. first.bytes (c.args.first + j))
          (λ e. (let same = ap (λ (n : ℕ). bit_and n mask) first.word ∙ e in grind (arith, nat_tests)))
          (ap (λ (n : ℕ). bit_and (bit_and n mask) no_codes) (sym first.word) ∙ each.0),
      differs_in_word vs c.args.row.now c.args.second c.args.self opening (λ j. second.bytes (c.args.second + j))
          (λ e. (let same = ap (λ (n : ℕ). bit_and n mask) second.word ∙ e in grind (arith, nat_tests)))
          (ap (λ (n : ℕ). bit_and (bit_and n mask) no_codes) (sym second.word) ∙ each.1),
    )
