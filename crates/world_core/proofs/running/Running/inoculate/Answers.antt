use Rattle.std.proofs.Common.{◌≡◌, ◌∙◌, ◌<◌, ◌+◌, ◌++◌, ◌∷◌, [], ◌^◌, ◌==◌, ℕ, List, None, true, ap, arith, length, rules, subst, sym}
use Rattle.tierra_model.specs.declared.creatures.Creature.{Creature}
use Rattle.tierra_model.specs.Blocks.{is_in}
use Rattle.world_core.specs.Running.{WorldFields}
use Rattle.world_core.specs.contracts.running.Running.{the_view}
use Rattle.tierra_model.specs.declared.creatures.Block.{Block}
use Rattle.std.specs.Prelude.{not, ◌&&◌}
use Rattle.tierra_model.specs.FreeList.{is_in_some, runs_of}
use Rattle.tierra_model.specs.Counting.{one_if}
use Rattle.tierra_model.specs.Individuals.{savings_after, with_individual}
use Rattle.tierra_model.specs.Living.{newborn}
use Rattle.tierra_model.specs.World.{World}
use Rattle.census.specs.Census.{living_of}
use Rattle.world_core.specs.Starting.{CanInoculate, inoculated}
use Rattle.world_core.proofs.Ownership.{below_end, free_is_not_owned}
use Rattle.world_core.proofs.Tying.{few_counted, tied-entered}
use Rattle.world_core.proofs.running.Running.inoculate.Goals as goal

pub take-requires-clause-free : goal.take-requires-clause-free
take-requires-clause-free c p h =
    let can : CanInoculate (the_view c.self.inside).world c.args.at c.args.code
    = subst (λ (k : WorldFields). CanInoculate k.world c.args.at c.args.code) (sym c.self.view_is) c.requires.can in
    let n = c.self.inside.settings.soup_size in
    let size : c.len.result ≡ length c.args.code = search rules in
    let here : is_in (record { at = c.args.at; size = length c.args.code }) p ≡ true
    = ap (λ (k : ℕ). is_in (record { at = c.args.at; size = k }) p) (sym size) ∙ h in
    let below : p < n = below_end n (record { at = c.args.at; size = length c.args.code }) p can.lies here in
    ap (λ (f : List Block). is_in_some f p) c.self.invariant.free
    ∙ free_is_not_owned n c.self.inside.population.living p below (can.free p here)

pub born-requires-clause-count : goal.born-requires-clause-count
born-requires-clause-count c =
    let can : CanInoculate (the_view c.self.inside).world c.args.at c.args.code
    = subst (λ (k : WorldFields). CanInoculate k.world c.args.at c.args.code) (sym c.self.view_is) c.requires.can in
    let living = c.self.inside.population.living in
    let few : length living < 2 ^ 60 = omega (arith, can.living, can.few) in
    omega (arith, c.self.invariant.counts c.note_birth-genotype.result, few_counted living c.note_birth-genotype.result)

pub invariant_of-self-2 : goal.invariant_of-self-2
invariant_of-self-2 c =
    let nb = c.newborn.result in
    let b : Block = record { at = c.args.at; size = c.len.result } in
    let own : nb.own ≡ b = ap (λ (y : Creature). y.own) c.newborn.ensures in
    let more : (g : ℕ) → living_of c.born.new.self g ≡ living_of c.self.inside.census g + one_if (nb.genotype == g)
    = λ g. c.born.ensures.living g ∙ ap (λ (y : Creature). living_of c.self.inside.census g + one_if (y.genotype == g)) (sym c.newborn.ensures) in
    rw c.enter.ensures.living
    (tied-entered c.self.inside.settings.soup_size c.self.inside.population.living c.self.inside.blocks c.take.new.self c.self.inside.census c.born.new.self nb
    (ap (λ (y : Creature). y.daughter) c.newborn.ensures) c.take.ensures.size
    (c.take.ensures.free ∙ (λ i. runs_of c.self.inside.blocks.size (λ p. is_in_some c.self.inside.blocks.free p && not (is_in (sym own i) p)))) more
    c.self.invariant)

pub returns : goal.returns
returns c =
    let w : World = (the_view c.self.inside).world in
    let code = c.args.code in
    let size : c.len.result ≡ length code = search rules in
    let known = (with_individual w.genotypes code None 0).0 in
    let number = c.note_birth-genotype.ensures.number in
    let nb : c.newborn.result ≡ newborn w.next_birth (record { at = c.args.at; size = length code }) (with_individual w.genotypes code None 0).1
    = c.newborn.ensures ∙ (λ i. newborn w.next_birth (record { at = c.args.at; size = size i }) (number i)) in
    (λ i. record w {
      soup = c.in_ok-write_code.ensures i;
      living = (c.enter.ensures.living ∙ ap (λ (y : Creature). w.living ++ y ∷ []) nb) i;
      slicer = (c.enter.ensures.slicer ∙ ap (λ (y : Creature). w.slicer ++ y.id ∷ []) nb) i;
      reaper = (c.enter.ensures.reaper ∙ ap (λ (y : Creature). w.reaper ++ y.id ∷ []) nb) i;
      genotypes = c.note_birth-genotype.ensures.genotypes i;
      saved = (c.note_birth-genotype.ensures.saved ∙ (λ j. savings_after (c.from-save_at.ensures j) known (number j) 0 w.saved)) i;
      next_birth = w.next_birth + 1;
    }) ∙ ap (λ (h : WorldFields). inoculated h.world c.args.at code) c.self.view_is
