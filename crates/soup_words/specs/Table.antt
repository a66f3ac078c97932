-- The table of the actions.
use Rattle.std.specs.Prelude.{ℕ, ◌-◌, List, [], ◌∷◌, Option, Some, None, bytes_eq, codes, find}
use Rattle.soup_words.specs.declared.order.Action.{Action}
use Rattle.soup_words.specs.declared.order.Action.TheVariants.{Grow, Run, Asm, Dis, Bank, Drill, Dump, Hold, Curve}
use Rattle.soup_words.specs.declared.order.Action.TheVariants.{Probe, Watch, Isles}
use Rattle.tierra_model.specs.declared.limits.TheConstants.{MOST_EPOCHS, MOST_ISLES, MOST_LOOKS, MOST_QUANTA}
use Rattle.tierra_model.specs.declared.limits.TheConstants.{MOST_WORKERS}

-- the least and the greatest number of an option, if the action has it
abbrev pub Range : Type 0
Range = Option (ℕ × ℕ)

abbrev pub to : ℕ → Range
to most = Some (1, most)

-- the name of an action, and the options that it has
pub record Row : Type 0 where
  pub name : List ℕ
  pub quanta : Range
  pub workers : Range
  pub number : Range
  pub every : Range
  pub looks : Range
  pub isles : Range
  pub epochs : Range

-- an action with no option
abbrev pub plain_row : List ℕ → Row
plain_row name = record {
  name = name;
  quanta = None;
  workers = None;
  number = None;
  every = None;
  looks = None;
  isles = None;
  epochs = None;
}

-- an action that takes quanta
abbrev pub timed_row : List ℕ → Row
timed_row name = record (plain_row name) { quanta = to MOST_QUANTA }

unfoldable pub row_of : Action → Row
row_of Grow = record (timed_row (codes "grow")) { workers = to MOST_WORKERS }
row_of Run = record (timed_row (codes "run")) { workers = to MOST_WORKERS }
row_of Asm = plain_row (codes "asm")
row_of Dis = plain_row (codes "dis")
row_of Bank = plain_row (codes "bank")
row_of Drill = record (timed_row (codes "drill")) { number = Some (0, 18446744073709551615) }
row_of Dump = timed_row (codes "dump")
row_of Hold = record (timed_row (codes "hold")) { every = to MOST_QUANTA }
row_of Curve = record (timed_row (codes "curve")) { every = to MOST_QUANTA }
row_of Probe = record (timed_row (codes "probe")) { workers = to MOST_WORKERS }
row_of Watch = record (timed_row (codes "watch")) { workers = to (MOST_WORKERS - 1); looks = to MOST_LOOKS }
row_of Isles = record (timed_row (codes "isles")) {
  workers = to MOST_WORKERS;
  isles = to MOST_ISLES;
  epochs = to MOST_EPOCHS;
}

abbrev pub actions : List Action
actions = Grow ∷ Run ∷ Asm ∷ Dis ∷ Bank ∷ Drill ∷ Dump ∷ Hold ∷ Curve ∷ Probe ∷ Watch ∷ Isles ∷ []

-- the action with this name
unfoldable pub action_named : List ℕ → Option Action
action_named text = find (λ action. bytes_eq text (Row.name (row_of action))) actions
