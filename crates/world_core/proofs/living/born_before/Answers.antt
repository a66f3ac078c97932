use Rattle.std.proofs.Common.{◌≡◌, arith, rules, true, false, slice_index_or}
use Rattle.std.proofs.lemmas.Bool.Decides.{nat_tests}
use Rattle.std.proofs.lemmas.List.Sorted.{IsPartitionedBy-ltb, IsPartitionPoint-from_clause}
use Rattle.std.specs.Prelude.{nat_lt}
use Rattle.std.specs.List.Sorted.{IsPartitionPoint}
use Rattle.tierra_model.specs.declared.creatures.Creature.{Creature}
use Rattle.world_core.proofs.living.born_before.Goals as goal
use Rattle.world_core.proofs.living.born_before.Goals.{After-partition_point}

parted : (c : After-partition_point)
    → IsPartitionPoint (λ (y : Creature). nat_lt y.id c.args.id ≡ true) (λ y. nat_lt y.id c.args.id ≡ false) c.args.creatures.now.items c.partition_point.result
parted c =
    IsPartitionPoint-from_clause (λ (y : Creature). nat_lt y.id c.args.id) c.args.creatures.now.items c.partition_point.result
    c.partition_point.ensures.partitioned
    (IsPartitionedBy-ltb (λ (x : Creature). x.id) c.args.creatures.now.items c.args.id c.requires) (λ a r f h. search rules)

pub returns-clause-before : goal.returns-clause-before
returns-clause-before c k d l m =
    let h : nat_lt (slice_index_or c.args.creatures.now.items k d).id c.args.id ≡ true = (parted c).0 k d l m in grind (arith, nat_tests)

pub returns-clause-behind : goal.returns-clause-behind
returns-clause-behind c k d l m =
    let h : nat_lt (slice_index_or c.args.creatures.now.items k d).id c.args.id ≡ false = (parted c).1 k d l m in grind (arith, nat_tests)
