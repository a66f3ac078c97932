use Rattle.std.proofs.Common.{All, List, ap, arith, get_or, length, subst, ◌<◌, ◌≡◌, ◌≤◌, ◌∙◌}
use Rattle.std.proofs.lemmas.List.{take_all}
use Rattle.std.proofs.lemmas.List.Elements.{All-more}
use Rattle.tierra_model.specs.declared.creatures.Creature.{Creature}
use Rattle.world_core.specs.Living.{LivingFields}
use Rattle.world_state.specs.Restoring.{HasWords}
use Rattle.world_core.proofs.living.Living.words_fit.Goals as goal

pub loop-place-preserved : goal.loop-place-preserved
loop-place-preserved c =
    let cs = c.args.self.now.creatures in
    let k = c.loop-place.place in
    let same : c.self.inside.creatures.items ≡ cs = ap (λ (l : LivingFields). l.creatures) c.self.view_is in
    let within : k < length cs = omega (arith, ap length same) in
    let is : c.index.result.now ≡ get_or cs k c.index.result.now
    = c.index.ensures ∙ ap (λ (xs : List Creature). get_or xs k c.index.result.now) same in
    All-more HasWords cs k c.index.result.now within c.loop-place.invariant (subst HasWords is c.creature_fits.ensures)

pub returns : goal.returns
returns c =
    let cs = c.args.self.now.creatures in
    let same : c.self.inside.creatures.items ≡ cs = ap (λ (l : LivingFields). l.creatures) c.self.view_is in
    let all : length cs ≤ c.loop-place.place = omega (arith, ap length same) in
    subst (All HasWords) (take_all c.loop-place.place cs all) c.loop-place.invariant
