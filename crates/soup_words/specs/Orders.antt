-- What the words ask for.
use Rattle.std.specs.Prelude.{ℕ, ◌≡◌, ◌≤◌, ◌-◌, List, [], codes, option_and_then, Option, Some, None}
use Rattle.std.specs.Fmt.{decimal}
use Rattle.clap.specs.Faults.{fault_of}
use Rattle.soup_words.specs.declared.order.Action.TheVariants.{Hold, Watch}
use Rattle.soup_words.specs.declared.order.Order.{Order}
use Rattle.soup_words.specs.Split.{given, tierra_app}
use Rattle.soup_words.specs.Table.{Range, Row, action_named, row_of}
use Rattle.tierra_model.specs.declared.limits.TheConstants.{MOST_EPOCHS, MOST_ISLES, MOST_LOOKS, MOST_QUANTA}
use Rattle.tierra_model.specs.declared.limits.TheConstants.{MOST_WORKERS}

-- n is the number that an option's text spells, in its range, or the default if there is no text
abbrev pub IsValue : Range → Option (List ℕ) → ℕ → ℕ → Type 0
IsValue range None default n = n ≡ default
IsValue None (Some text) default n = ⊥
IsValue (Some range) (Some text) default n = (text ≡ decimal n) × (range.0 ≤ n) × (n ≤ range.1)

-- the words give this order
pub record IsOrderOf (words : List (List ℕ)) (order : Order) : Type 0 where
  pub taken : fault_of tierra_app words ≡ []
  pub action : option_and_then action_named (given words (codes "action")) ≡ Some order.action
  pub quanta : IsValue (Row.quanta (row_of order.action)) (given words (codes "quanta")) 1000 order.quanta
  pub workers : IsValue (Row.workers (row_of order.action)) (given words (codes "workers")) 1 order.workers
  pub number : IsValue (Row.number (row_of order.action)) (given words (codes "number")) 0 order.number
  pub every : IsValue (Row.every (row_of order.action)) (given words (codes "every")) 1000 order.every
  pub looks : IsValue (Row.looks (row_of order.action)) (given words (codes "looks")) 10 order.looks
  pub isles : IsValue (Row.isles (row_of order.action)) (given words (codes "isles")) 2 order.isles
  pub epochs : IsValue (Row.epochs (row_of order.action)) (given words (codes "epochs")) 2 order.epochs

-- the numbers of any order are in range
pub record IsInRange (order : Order) : Type 0 where
  pub quanta : (1 ≤ order.quanta) × (order.quanta ≤ MOST_QUANTA)
  pub workers : (1 ≤ order.workers) × (order.workers ≤ MOST_WORKERS)
  pub watchers : order.action ≡ Watch → order.workers ≤ MOST_WORKERS - 1
  pub number : order.number ≤ 18446744073709551615
  pub every : (1 ≤ order.every) × (order.every ≤ MOST_QUANTA)
  pub looks : (1 ≤ order.looks) × (order.looks ≤ MOST_LOOKS)
  pub isles : (1 ≤ order.isles) × (order.isles ≤ MOST_ISLES)
  pub epochs : (1 ≤ order.epochs) × (order.epochs ≤ MOST_EPOCHS)

-- the words ask for the action Hold
abbrev pub AskToHold : List (List ℕ) → Type 0
AskToHold words = (order : Order) × IsOrderOf words order × (order.action ≡ Hold)
