use Rattle.std.proofs.Common.{◌≡◌, ◌∙◌, ap, rules, subst, sym}
use Rattle.tierra_model.specs.Serial.{empty_world, start, with_inocula}
use Rattle.tierra_model.specs.Setups.{SetupFields}
use Rattle.tierra_model.specs.Sound.{IsSound}
use Rattle.tierra_model.proofs.StartIsSound.{start-sound}
use Rattle.world_core.specs.Running.{WorldFields}
use Rattle.world_core.proofs.world.World.start.Goals as goal
use Rattle.world_core.proofs.world.World.start.Goals.{In_ok-inoculate_all}

-- the creatures are those of the setup
started : (c : In_ok-inoculate_all) → c.inoculate_all.new.running.world ≡ start c.args.setup.now
unfolding start
started c =
    let creatures : c.deref.result.now ≡ c.setup.inside.creatures = search rules in
    let empty : c.deref_mut.result.now.world ≡ empty_world c.setup.inside.settings =
    ap (λ (h : WorldFields). h.world) (c.deref_mut.ensures.value ∙ c.in_ok-running.ensures.ok) ∙ c.in_ok-empty.ensures in
    c.in_ok-inoculate_all.ensures ∙ (λ i. with_inocula (creatures i) (empty i))
    ∙ ap (λ (s : SetupFields). with_inocula s.creatures (empty_world s.settings)) c.setup.view_is

pub invariant_of-result : goal.invariant_of-result
invariant_of-result c =
    subst IsSound (sym (started ((goal.at.invariant_of-result c).In_ok-inoculate_all)))
    (subst (λ (s : SetupFields). IsSound (start s)) c.setup.view_is
    (start-sound (record { settings = c.setup.inside.settings; creatures = c.setup.inside.creatures }) c.setup.invariant))

pub returns : goal.returns
returns c = started ((goal.at.returns c).In_ok-inoculate_all)
