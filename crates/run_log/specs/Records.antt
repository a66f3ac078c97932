-- The records of a run, and what they count.
use Rattle.std.specs.Prelude.{Bool, List, [], ◌++◌, ◌==◌, ◌∷◌, count_by, false, filter, fold, length, nat_le, not, true}
use Rattle.std.specs.Prelude.{ℕ}
use Rattle.std.specs.List.{range_with_len}
use Rattle.run_log.specs.declared.log.Point.{Point}
use Rattle.run_log.specs.declared.record.Record.{Record}
use Rattle.run_log.specs.declared.record.Record.TheVariants.{Birth, Death}

-- what contracts see of a log: how many live before its records, the records, and how many more can be noted without
-- memory
pub record LogFields : Type 0 where
  pub inoculated : ℕ
  pub records : List Record
  pub spare : ℕ

abbrev pub quantum_of : Record → ℕ
quantum_of (Birth quantum id) = quantum
quantum_of (Death quantum id) = quantum

abbrev pub is_birth : Record → Bool
is_birth (Birth quantum id) = true
is_birth (Death quantum id) = false

abbrev pub is_death : Record → Bool
is_death r = not (is_birth r)

-- the records of a quantum and of those before it
abbrev pub up_to : ℕ → List Record → List Record
up_to quantum records = filter (λ r. nat_le (quantum_of r) quantum) records

-- the birth numbers of the living after a record
abbrev pub after_record : List ℕ → Record → List ℕ
after_record living (Birth quantum id) = living ++ id ∷ []
after_record living (Death quantum id) = filter (λ x. not (x == id)) living

-- the birth numbers of those who live after the records, where the numbers 1 to inoculated lived before
abbrev pub living_in : ℕ → List Record → List ℕ
living_in inoculated records = fold after_record (range_with_len 1 inoculated) records

-- the counts after the records
abbrev pub point_of : ℕ → List Record → Point
point_of inoculated records =
    record {
      living = length (living_in inoculated records);
      births = count_by is_birth records;
      deaths = count_by is_death records;
    }
