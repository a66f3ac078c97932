use Rattle.std.proofs.Common.{◌≡◌, ◌∙◌, List, ap, rules, sym, ℕ}
use Rattle.std.specs.Prelude.{nat_le}
use Rattle.tierra_model.specs.Counting.{one_if, times_in}
use Rattle.tierra_model.specs.World.{genotype_at}
use Rattle.world_state.specs.Reading.{genotypes_of}
use Rattle.world_state.proofs.Joined.{total-same}
use Rattle.world_state.proofs.soundness.are_due.Goals as goal

pub returns : goal.returns
returns c =
    let fs = c.args.stored.now in
    let least : c.from-least.result ≡ c.args.save_at = search rules in
    let saved = c.deref.ensures.value ∙ c.in_ok-numbers.ensures in
    let row : (k : ℕ) → times_in c.deref-2.result.now k ≡ one_if (nat_le c.args.save_at (genotype_at (genotypes_of fs) k).total)
    = λ k. ap (λ (l : List ℕ). times_in l k) c.deref-2.ensures.value ∙ c.in_ok-reaching.ensures.each k
    ∙ (λ i. one_if (nat_le (least i) (total-same fs k i))) in (
      λ e k. ap (λ (l : List ℕ). times_in l k) (sym saved) ∙ c.in_ok-due.ensures.0 e k ∙ row k,
      λ h. c.in_ok-due.ensures.1 (λ k. ap (λ (l : List ℕ). times_in l k) saved ∙ h k ∙ sym (row k)),
    )
