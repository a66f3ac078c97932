use Rattle.std.proofs.Common.{◌∙◌, ap, subst, sym}
use Rattle.tierra_model.specs.Living.{ids_of, with_record}
use Rattle.tierra_model.specs.Sound.{Ordered}
use Rattle.tierra_model.proofs.Owners.{ids_of-with}
use Rattle.world_core.specs.Living.{LivingFields}
use Rattle.world_state.proofs.BirthNumbers.{put-at}
use Rattle.world_core.proofs.living.Living.put.Goals as goal

pub invariant_of-self : goal.invariant_of-self
invariant_of-self c =
    let xs = c.self.inside.creatures.items in
    let d = c.index_mut.result.now in
    let same = put-at 1 c.args.creature.now xs c.in-Some.place d c.self.invariant c.in-Some.ensures.some.1 (c.in-Some.ensures.some.0 d) in
    subst (Ordered 1) (sym (ap ids_of same ∙ ids_of-with c.args.creature.now xs)) c.self.invariant

pub returns-clause-creatures : goal.returns-clause-creatures
returns-clause-creatures c =
    let d = c.index_mut.result.now in
    put-at 1 c.args.creature.now c.self.inside.creatures.items c.in-Some.place d c.self.invariant c.in-Some.ensures.some.1 (c.in-Some.ensures.some.0 d)
    ∙ ap (λ (l : LivingFields). with_record c.args.creature.now l.creatures) c.self.view_is
