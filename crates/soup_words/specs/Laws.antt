-- A law of the words.
use Rattle.std.specs.Prelude.{◌≡◌, List, ℕ}
use Rattle.soup_words.specs.declared.order.Order.{Order}
use Rattle.soup_words.specs.Orders.{IsOrderOf}

-- words give at most one order
abbrev pub WordsAreClear : Type 0
WordsAreClear = (words : List (List ℕ)) (one other : Order) → IsOrderOf words one → IsOrderOf words other → one ≡ other
