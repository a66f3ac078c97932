-- The entries of a log: records, each with the counts after it.
use Rattle.std.specs.Prelude.{List, length, map, slice_index_or, take, ℕ, ◌+◌, ◌<◌, ◌≡◌, ◌≤◌}
use Rattle.std.specs.List.Sorted.{IsNonDecreasingBy}
use Rattle.tierra_model.specs.declared.limits.TheConstants.{COUNT_END}
use Rattle.tierra_model.specs.Counting.{times_in}
use Rattle.run_log.specs.declared.log.Entry.{Entry}
use Rattle.run_log.specs.declared.record.Record.{Record}
use Rattle.run_log.specs.Records.{living_in, point_of, quantum_of}

abbrev pub records_of : List Entry → List Record
records_of entries = map (λ e. e.note) entries

pub record IsKept (inoculated : ℕ) (entries : List Entry) : Type 0 where
  pub few : inoculated < COUNT_END
  -- quanta never fall
  pub risen : IsNonDecreasingBy (λ e. quantum_of e.note) entries
  -- nobody lives twice
  pub once : (id : ℕ) → times_in (living_in inoculated (records_of entries)) id ≤ 1
  -- each entry has the counts of the records up to its own
  pub points : (k : ℕ) (d : Entry) → k < length entries
      → (slice_index_or entries k d).point ≡ point_of inoculated (records_of (take (k + 1) entries))
