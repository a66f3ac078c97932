use Rattle.std.proofs.Common.{◌+◌, ◌<◌, ◌^◌, ℕ, None, Some, arith, length}
use Rattle.std.specs.Prelude.{IfSome, Option}
use Rattle.tierra_model.specs.World.{genotype_at}
use Rattle.tierra_model.proofs.BankIsGroups.{parent_at}
use Rattle.world_state.specs.StateBytes.{genotype_bytes}
use Rattle.world_state.proofs.ListsRead.{piece_more}
use Rattle.world_state.proofs.writing.push_each_genotype.Goals as goal

pub push_genotype-requires-clause-parent : goal.push_genotype-requires-clause-parent
push_genotype-requires-clause-parent c =
    let gs = c.args.genotypes.now.genotypes in
    let number = c.loop-number.number in
    let few : length gs < 2 ^ 60 = c.requires.few in
    let known : number < length gs = omega arith in
    go (genotype_at gs number).parent number (omega arith) (parent_at 0 gs number known c.requires.parents)
  where
    go : (o : Option ℕ) (k : ℕ) → k < 2 ^ 60 → IfSome o (λ p. p < 0 + k) → IfSome o (λ p. p < 2 ^ 60)
    go None k h b = tt
    go (Some p) k h b = omega arith

pub loop-number-preserved : goal.loop-number-preserved
loop-number-preserved c =
    let gs = c.args.genotypes.now.genotypes in
    let known : c.loop-number.number < length gs = omega arith in
    piece_more genotype_bytes gs _ _ _ _ _ known c.loop-number.invariant c.in_ok-push_genotype.ensures
