use Rattle.std.proofs.Common.{◌+◌, ◌<◌, ℕ, arith, length, subst, sym}
use Rattle.std.specs.Prelude.{IfSome, Option}
use Rattle.tierra_model.proofs.BankIsGroups.{parent_at}
use Rattle.world_core.proofs.groups.parent_name.Goals as goal

pub name_of-requires : goal.name_of-requires
name_of-requires c =
    let below : c.in-Some.parent < 0 + c.args.number
    = subst (λ (o : Option ℕ). IfSome o (λ p. p < 0 + c.args.number)) (sym c.in-Some.ensures)
    (parent_at 0 c.args.genotypes.now.genotypes c.args.number c.requires.known c.requires.parents) in
    let known : c.args.number < length c.args.genotypes.now.genotypes = c.requires.known in
    omega arith
