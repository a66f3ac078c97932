-- Words give one order at most.
use Rattle.std.proofs.Common.{◌≡◌, ◌∙◌, ◌<◌, ◌^◌, ℕ, List, Option, Some, None, arith, codes, sym}
use Rattle.std.proofs.lemmas.Fmt.{decimal_injective}
use Rattle.std.specs.Prelude.{option_and_then}
use Rattle.soup_words.specs.declared.order.Action.{Action}
use Rattle.soup_words.specs.declared.order.Order.{Order}
use Rattle.soup_words.specs.Split.{given}
use Rattle.soup_words.specs.Table.{Range, Row, action_named, row_of}
use Rattle.soup_words.specs.Orders.{IsOrderOf, IsValue}
use Rattle.soup_words.proofs.Ranges.{order-in_range}

-- an option has one value at most, whichever row it is of
one-value : (a b : Range) (text : Option (List ℕ)) (default n m : ℕ) → n < 2 ^ 64 → m < 2 ^ 64 → IsValue a text default n
    → IsValue b text default m → n ≡ m
one-value a b None default n m small also p q = p ∙ sym q
one-value None b (Some text) default n m small also p q = absurd p
one-value (Some a) None (Some text) default n m small also p q = absurd q
one-value (Some a) (Some b) (Some text) default n m small also p q = decimal_injective n m small also (sym p.0 ∙ q.0)

pub one-order : (words : List (List ℕ)) (one other : Order) → IsOrderOf words one → IsOrderOf words other → one ≡ other
one-order words one other p q =
    let a = order-in_range words one p in
    let b = order-in_range words other q in
    let row = row_of one.action in
    let rest = row_of other.action in
    let action = same (option_and_then action_named (given words (codes "action"))) one.action other.action p.action q.action in
    let quanta = one-value (Row.quanta row) (Row.quanta rest) (given words (codes "quanta")) 1000 one.quanta other.quanta
    (omega (arith, a.quanta)) (omega (arith, b.quanta)) p.quanta q.quanta in
    let workers = one-value (Row.workers row) (Row.workers rest) (given words (codes "workers")) 1 one.workers other.workers
    (omega (arith, a.workers)) (omega (arith, b.workers)) p.workers q.workers in
    let number = one-value (Row.number row) (Row.number rest) (given words (codes "number")) 0 one.number other.number
    (omega (arith, a.number)) (omega (arith, b.number)) p.number q.number in
    let every = one-value (Row.every row) (Row.every rest) (given words (codes "every")) 1000 one.every other.every
    (omega (arith, a.every)) (omega (arith, b.every)) p.every q.every in
    let looks = one-value (Row.looks row) (Row.looks rest) (given words (codes "looks")) 10 one.looks other.looks
    (omega (arith, a.looks)) (omega (arith, b.looks)) p.looks q.looks in
    let isles = one-value (Row.isles row) (Row.isles rest) (given words (codes "isles")) 2 one.isles other.isles
    (omega (arith, a.isles)) (omega (arith, b.isles)) p.isles q.isles in
    let epochs = one-value (Row.epochs row) (Row.epochs rest) (given words (codes "epochs")) 2 one.epochs other.epochs
    (omega (arith, a.epochs)) (omega (arith, b.epochs)) p.epochs q.epochs in
    λ i. record {
      action = action i;
      quanta = quanta i;
      workers = workers i;
      number = number i;
      every = every i;
      looks = looks i;
      isles = isles i;
      epochs = epochs i;
    }
  where
    same : (r : Option Action) (a b : Action) → r ≡ Some a → r ≡ Some b → a ≡ b
    same r a b e f = cc
