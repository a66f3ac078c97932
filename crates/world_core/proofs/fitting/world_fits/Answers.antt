use Rattle.std.proofs.Common.{All, subst, ℕ, ◌<◌, ◌^◌, ◌∙◌}
use Rattle.tierra_model.specs.World.{Saving}
use Rattle.tierra_model.proofs.DisturbanceCounts.{length-reaper}
use Rattle.byte_fields.specs.Writing.{IsLongEffort}
use Rattle.world_state.specs.Restoring.{HasLongNumbers}
use Rattle.world_core.proofs.fitting.world_fits.Goals as goal

pub returns : goal.returns
returns c =
    let w = c.args.running.now.world in
    record {
      creatures = c.words_fit.ensures;
      living = subst (λ (n : ℕ). n < 2 ^ 32) (c.reaper_len.ensures ∙ length-reaper w c.requires) c.count_fits.ensures;
      genotypes = subst (All HasLongNumbers) c.genotypes.ensures c.genotypes_fit.ensures;
      savings = subst (All (λ (s : Saving). IsLongEffort s.first_effort × IsLongEffort s.second_effort))
          (c.savings.ensures ∙ c.genes.ensures.saved) c.savings_fit.ensures;
      saved = subst (λ (n : ℕ). n < 2 ^ 64) c.kept.ensures c.number_fits.ensures;
    }
