-- How a history is kept: a line for each quantum, and the differences apart.
use Rattle.std.specs.Prelude.{List, [], length, slice_index_or, ℕ, ◌+◌, ◌<◌, ◌≡◌, ◌∷◌}
use Rattle.tierra_model.proofs.Each.{Each}
use Rattle.tierra_model.specs.declared.history.Entry.{Entry}
use Rattle.tierra_model.specs.declared.history.How.{How}
use Rattle.tierra_model.specs.declared.history.How.TheVariants as how
use Rattle.tierra_model.specs.declared.history.Stale.{Stale}
use Rattle.tierra_model.specs.declared.history.Stale.TheVariants as stale
use Rattle.commit_book.specs.declared.history.Line.{Line}
use Rattle.commit_book.specs.declared.history.HowAt.{HowAt}
use Rattle.commit_book.specs.declared.history.HowAt.TheVariants as way

abbrev pub how_by : List Stale → HowAt → How
how_by differences way.Fresh = how.Fresh
how_by differences way.Missing = how.Missing
how_by differences (way.Stale place) = how.Stale (slice_index_or differences place stale.Body)

-- the number of a difference is in range
abbrev pub IsThere : ℕ → HowAt → Type 0
IsThere n way.Fresh = Unit {0}
IsThere n way.Missing = Unit {0}
IsThere n (way.Stale place) = place < n

-- the entries of these lines, after n earlier entries
abbrev pub entries_of : List Stale → ℕ → List Line → List Entry
entries_of differences n [] = []
entries_of differences n (l ∷ ls) =
    record {
      quantum = n + 1;
      creature = l.creature;
      by = l.by;
      how = how_by differences l.way;
    } ∷ entries_of differences (n + 1) ls

-- lines whose differences are in the list before have the same entries with the list after
abbrev pub KeepsLines : List Stale → List Stale → Type 0
KeepsLines before after =
    (ls : List Line) → Each (λ l. IsThere (length before) l.way) ls
    → (entries_of after 0 ls ≡ entries_of before 0 ls) × Each (λ l. IsThere (length after) l.way) ls
