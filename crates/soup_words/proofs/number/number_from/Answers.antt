use Rattle.std.proofs.Common.{◌≡◌, ◌∙◌, sym, ap, ℕ}
use Rattle.std.proofs.lemmas.Fmt.{parse-decimal}
use Rattle.std.specs.Cmp.Lexicographic.{other_text}
use Rattle.std.specs.Fmt.{decimal}
use Rattle.soup_words.proofs.number.number_from.Goals as goal

-- a text that spells n is parsed as n
pub returns-in_default : goal.returns-in_default
returns-in_default c = λ n small e.
    let parsed = parse-decimal 64 n c.args.text.now c.parse.result small small e c.parse.ensures.value.0 in
    cc

-- and n is spelled as that text again
pub returns : goal.returns
returns c = λ n small e.
    let parsed = parse-decimal 64 n c.args.text.now c.parse.result small small e c.parse.ensures.value.0 in
    let number : c.in-Ok.number ≡ n = cc in
    other_text c.as_str.result.now c.args.text.now (sym c.if-eq.false ∙ c.eq.ensures)
    (c.as_str.ensures.value ∙ c.in_ok-spelled.ensures.ok ∙ ap (λ (m : ℕ). decimal m) number ∙ sym e)
