use Rattle.std.proofs.Common.{rules}
use Rattle.std.specs.Prelude.{nat_le}
use Rattle.std.proofs.lemmas.List.Sorted.{IsPartitionPoint-from_clause, IsPartitionedBy-leb}
use Rattle.run_log.specs.declared.log.Entry.{Entry}
use Rattle.run_log.specs.Records.{quantum_of}
use Rattle.run_log.proofs.log.entries_up_to.Goals as goal

pub returns-clause-parted : goal.returns-clause-parted
returns-clause-parted c =
    IsPartitionPoint-from_clause (λ (e : Entry). nat_le (quantum_of e.note) c.args.quantum) c.args.entries.now c.partition_point.result
    c.partition_point.ensures.partitioned
    (IsPartitionedBy-leb (λ (e : Entry). quantum_of e.note) c.args.entries.now c.args.quantum c.requires) (λ a r f h. search rules)
