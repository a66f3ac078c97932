use Rattle.std.proofs.Common.{◌≡◌, ◌∙◌, ◌+◌, List, ap, drop, subst, sym}
use Rattle.std.specs.Prelude.{All, IfOk}
use Rattle.tierra_model.specs.Genebank.{groups_of}
use Rattle.tierra_model.specs.Groups.{GroupFields, IsGroup}
use Rattle.tierra_model.proofs.Sound.{sound-saved_below}
use Rattle.world_core.specs.Groups.{grouped}
use Rattle.world_core.specs.Running.{WorldFields}
use Rattle.world_core.proofs.Grouped.{groups_of-grouped}
use Rattle.world_core.proofs.GroupsInRange.{groups-in_range}
use Rattle.world_core.proofs.world.World.groups_from.Goals as goal

pub groups_from-requires-clause-known : goal.groups_from-requires-clause-known
groups_from-requires-clause-known c = rw c.deref.ensures (sound-saved_below c.self.inside.running.value.world c.self.invariant)

pub groups_from-requires-clause-ranges : goal.groups_from-requires-clause-ranges
groups_from-requires-clause-ranges c =
    let w = c.self.inside.running.value.world in
    rw c.deref.ensures (subst (All IsGroup) (groups_of-grouped w c.self.invariant) (groups-in_range w (w.quanta + 1) c.self.invariant))

pub returns : goal.returns
returns c =
    subst (λ (l : List GroupFields). IfOk c.groups_from.result (λ g. g ≡ drop c.args.k l))
    (ap (λ (h : WorldFields). grouped h.world.genotypes h.world.saved) c.deref.ensures
    ∙ sym (groups_of-grouped c.self.inside.running.value.world c.self.invariant) ∙ ap (λ (h : WorldFields). groups_of h.world) c.self.view_is)
    c.groups_from.ensures
