use Rattle.std.proofs.Common.{◌≡◌, ◌∙◌, ◌<◌, ◌≤◌, ◌^◌, ℕ, List, Option, Some, arith, sym}
use Rattle.std.proofs.lemmas.Fmt.{decimal_injective}
use Rattle.std.specs.Fmt.{decimal}
use Rattle.std.specs.Option.{option_copied}
use Rattle.soup_words.specs.Table.{Range}
use Rattle.soup_words.specs.Orders.{IsValue}
use Rattle.soup_words.proofs.number.value_of.Goals as goal

-- a text spells one number alone, and this one is out of range
out_of_range : (range : Range) (given : Option (List ℕ)) (text : List ℕ) (low high default m n : ℕ) → given ≡ Some text → range ≡ Some (low, high)
    → m < 2 ^ 64 → high < 2 ^ 64 → text ≡ decimal m → (low ≤ m → m ≤ high → ⊥) → IsValue range given default n → ⊥
out_of_range range given text low high default m n is of small fits spells out value =
    let asked = rw (is, of) at value in
    let same : m ≡ n = decimal_injective m n small (omega (arith, asked.2)) (sym spells ∙ asked.0) in
    out (omega (arith, same, asked.1)) (omega (arith, same, asked.2))

pub returns-in-Ok-Some-clause-refused : goal.returns-in-Ok-Some-clause-refused
returns-in-Ok-Some-clause-refused c = λ refused n value.
    let spelled = rw c.in-Ok-Some.field-0-is at c.in-Ok-Some.ensures in
    out_of_range c.args.range (option_copied c.args.text) c.in-Some.text.now c.in-Some-range.low c.in-Some-range.high c.args.default c.in-Ok-Some.number n (cc)
    c.in-Some-range.is
    spelled.0 c.within.ensures.fits spelled.1 (c.within.ensures.refused refused) value
