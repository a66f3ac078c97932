-- The numbers of an order lie in their ranges.
use Rattle.std.proofs.Common.{◌≡◌, ◌≤◌, ◌-◌, sym, subst, ℕ, List, Option, Some, None, arith, codes}
use Rattle.soup_words.specs.declared.order.Action.{Action}
use Rattle.soup_words.specs.declared.order.Action.TheVariants.{Grow, Run, Asm, Dis, Bank, Drill, Dump, Hold, Curve, Probe, Watch, Isles}
use Rattle.soup_words.specs.declared.order.Order.{Order}
use Rattle.soup_words.specs.Split.{given}
use Rattle.soup_words.specs.Table.{Range, Row, row_of}
use Rattle.soup_words.specs.Orders.{IsInRange, IsOrderOf, IsValue}
use Rattle.tierra_model.specs.declared.limits.TheConstants.{MOST_EPOCHS, MOST_ISLES, MOST_LOOKS, MOST_QUANTA, MOST_WORKERS}

-- where the action has the option, its range is no wider
abbrev Within : ℕ → ℕ → Range → Type 0
Within low high None = Unit {0}
Within low high (Some range) = (low ≤ range.0) × (range.1 ≤ high)

record IsWithin (row : Row) : Type 0 where
  pub quanta : Within 1 MOST_QUANTA (Row.quanta row)
  pub workers : Within 1 MOST_WORKERS (Row.workers row)
  pub number : Within 0 18446744073709551615 (Row.number row)
  pub every : Within 1 MOST_QUANTA (Row.every row)
  pub looks : Within 1 MOST_LOOKS (Row.looks row)
  pub isles : Within 1 MOST_ISLES (Row.isles row)
  pub epochs : Within 1 MOST_EPOCHS (Row.epochs row)

row-within : (action : Action) → IsWithin (row_of action)
unfolding row_of
row-within Grow = record {
  quanta = (omega arith, omega arith);
  workers = (omega arith, omega arith);
  number = tt;
  every = tt;
  looks = tt;
  isles = tt;
  epochs = tt;
}
row-within Run = record {
  quanta = (omega arith, omega arith);
  workers = (omega arith, omega arith);
  number = tt;
  every = tt;
  looks = tt;
  isles = tt;
  epochs = tt;
}
row-within Asm = record { quanta = tt; workers = tt; number = tt; every = tt; looks = tt; isles = tt; epochs = tt }
row-within Dis = record { quanta = tt; workers = tt; number = tt; every = tt; looks = tt; isles = tt; epochs = tt }
row-within Bank = record { quanta = tt; workers = tt; number = tt; every = tt; looks = tt; isles = tt; epochs = tt }
row-within Drill = record {
  quanta = (omega arith, omega arith);
  workers = tt;
  number = (omega arith, omega arith);
  every = tt;
  looks = tt;
  isles = tt;
  epochs = tt;
}
row-within Dump = record { quanta = (omega arith, omega arith); workers = tt; number = tt; every = tt; looks = tt; isles = tt; epochs = tt }
row-within Hold = record {
  quanta = (omega arith, omega arith);
  workers = tt;
  number = tt;
  every = (omega arith, omega arith);
  looks = tt;
  isles = tt;
  epochs = tt;
}
row-within Curve = record {
  quanta = (omega arith, omega arith);
  workers = tt;
  number = tt;
  every = (omega arith, omega arith);
  looks = tt;
  isles = tt;
  epochs = tt;
}
row-within Probe = record {
  quanta = (omega arith, omega arith);
  workers = (omega arith, omega arith);
  number = tt;
  every = tt;
  looks = tt;
  isles = tt;
  epochs = tt;
}
row-within Watch = record {
  quanta = (omega arith, omega arith);
  workers = (omega arith, omega arith);
  number = tt;
  every = tt;
  looks = (omega arith, omega arith);
  isles = tt;
  epochs = tt;
}
row-within Isles = record {
  quanta = (omega arith, omega arith);
  workers = (omega arith, omega arith);
  number = tt;
  every = tt;
  looks = tt;
  isles = (omega arith, omega arith);
  epochs = (omega arith, omega arith);
}

watchers-within : (action : Action) → action ≡ Watch → Within 1 (MOST_WORKERS - 1) (Row.workers (row_of action))
unfolding row_of
watchers-within Watch e = (omega arith, omega arith)
watchers-within action e = subst (λ (a : Action). Within 1 (MOST_WORKERS - 1) (Row.workers (row_of a))) (sym e) (omega arith, omega arith)

pub value-within : (low high : ℕ) (range : Range) (text : Option (List ℕ)) (default n : ℕ) → Within low high range → low ≤ default → default ≤ high
    → IsValue range text default n → (low ≤ n) × (n ≤ high)
value-within low high range None default n within least most value = (omega arith, omega arith)
value-within low high None (Some text) default n within least most value = absurd value
value-within low high (Some range) (Some text) default n within least most value = (omega (arith, value.1, within.0), omega (arith, value.2, within.1))

pub workers-within : (action : Action) (text : Option (List ℕ)) (n : ℕ) → IsValue (Row.workers (row_of action)) text 1 n → (1 ≤ n) × (n ≤ MOST_WORKERS)
workers-within action text n value =
    value-within 1 MOST_WORKERS (Row.workers (row_of action)) text 1 n (IsWithin.workers (row-within action)) (omega arith) (omega arith) value

-- an order's numbers lie in their ranges
pub order-in_range : (words : List (List ℕ)) (order : Order) → IsOrderOf words order → IsInRange order
order-in_range words order is =
    let row = row_of order.action in
    let within = row-within order.action in
    record {
      quanta = value-within 1 MOST_QUANTA (Row.quanta row) (given words (codes "quanta")) 1000 order.quanta within.quanta (omega arith) (omega arith) is.quanta;
      workers = workers-within order.action (given words (codes "workers")) order.workers is.workers;
      watchers = λ watch.
          (value-within 1 (MOST_WORKERS - 1) (Row.workers row) (given words (codes "workers")) 1 order.workers (watchers-within order.action watch)
          (omega arith) (omega arith) is.workers).1;
      number = (value-within 0 18446744073709551615 (Row.number row) (given words (codes "number")) 0 order.number within.number (omega arith) (omega arith)
          is.number).1;
      every = value-within 1 MOST_QUANTA (Row.every row) (given words (codes "every")) 1000 order.every within.every (omega arith) (omega arith) is.every;
      looks = value-within 1 MOST_LOOKS (Row.looks row) (given words (codes "looks")) 10 order.looks within.looks (omega arith) (omega arith) is.looks;
      isles = value-within 1 MOST_ISLES (Row.isles row) (given words (codes "isles")) 2 order.isles within.isles (omega arith) (omega arith) is.isles;
      epochs = value-within 1 MOST_EPOCHS (Row.epochs row) (given words (codes "epochs")) 2 order.epochs within.epochs (omega arith) (omega arith) is.epochs;
    }
