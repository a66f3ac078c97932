use Rattle.std.proofs.Common.{All, arith, length, subst, ℕ, ◌<◌, ◌≤◌, ◌^◌}
use Rattle.std.proofs.lemmas.List.{take_all}
use Rattle.std.proofs.lemmas.List.Elements.{All-more}
use Rattle.tierra_model.specs.World.{no_genotype}
use Rattle.byte_fields.specs.Writing.{IsLongEffort}
use Rattle.world_state.specs.Restoring.{HasLongNumbers}
use Rattle.world_core.proofs.fitting.genotypes_fit.Goals as goal

pub loop-number-preserved : goal.loop-number-preserved
loop-number-preserved c =
    let gs = c.args.genotypes.now.genotypes in
    let k = c.loop-number.number in
    let within : k < length gs = omega arith in
    All-more HasLongNumbers gs k no_genotype within c.loop-number.invariant (
      subst (λ (n : ℕ). n < 2 ^ 64) c.first_quantum.ensures c.number_fits.ensures,
      subst IsLongEffort c.first_effort.ensures c.effort_fits.ensures,
      subst IsLongEffort c.second_effort.ensures c.effort_fits-in-loop-number.ensures,
    )

pub returns : goal.returns
returns c =
    let gs = c.args.genotypes.now.genotypes in
    let all : length gs ≤ c.loop-number.number = omega arith in
    subst (All HasLongNumbers) (take_all c.loop-number.number gs all) c.loop-number.invariant
