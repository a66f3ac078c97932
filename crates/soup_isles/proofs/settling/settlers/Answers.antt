use Rattle.std.proofs.Common.{◌≡◌, ◌∙◌, ◌++◌, ◌<◌, ◌≤◌, [], ◌∷◌, ℕ, List, ap, arith, get_or, length, map, subst, sym, take}
use Rattle.std.proofs.lemmas.List.{map-append, take_all, take_more}
use Rattle.tierra_model.specs.declared.creatures.Creature.{Creature}
use Rattle.tierra_model.specs.declared.setups.Inoculum.{Inoculum}
use Rattle.tierra_model.specs.Living.{one_of}
use Rattle.tierra_model.specs.Setups.{IsSetup}
use Rattle.world_state.proofs.SlicerLength.{length-slicer}
use Rattle.soup_isles.specs.Isles.{settler, settlers}
use Rattle.soup_isles.proofs.Settlers.{settlers-setup}
use Rattle.soup_isles.proofs.settling.settlers.Goals as goal

pub creature_at-requires-clause-within : goal.creature_at-requires-clause-within
creature_at-requires-clause-within c = omega (arith, length-slicer c.args.world.now.world c.requires.sound)

pub loop-k-preserved : goal.loop-k-preserved
loop-k-preserved c =
    let w = c.args.world.now.world in
    let k = c.loop-k.k in
    let f : ℕ → Inoculum = λ (id : ℕ). settler w (one_of w.living id) in
    let within : k < length w.slicer = omega (arith, length-slicer w c.requires.sound) in
    let one : c.in_ok-settler.field-0 ≡ f (get_or w.slicer k 0) = c.in_ok-settler.ensures ∙ ap (λ (x : Creature). settler w x) c.creature_at.ensures.creature in
    c.in_ok-push.ensures.items
    ∙ (λ i. c.loop-k.invariant i ++ one i ∷ [])
    ∙ sym (ap (map f) (take_more w.slicer k 0 within) ∙ map-append f (take k w.slicer) (get_or w.slicer k 0 ∷ []))

all-settlers : goal.returns-clause-creatures
unfolding settlers
all-settlers c =
    let w = c.args.world.now.world in
    let all : length w.slicer ≤ c.loop-k.k = omega (arith, length-slicer w c.requires.sound) in
    c.loop-k.invariant ∙ ap (map (λ (id : ℕ). settler w (one_of w.living id))) (take_all c.loop-k.k w.slicer all)

pub returns-clause-creatures : goal.returns-clause-creatures
returns-clause-creatures c = all-settlers c

pub returns-clause-setup : goal.returns-clause-setup
returns-clause-setup c =
    let w = c.args.world.now.world in
    subst (λ (l : List Inoculum). IsSetup (record { settings = w.settings; creatures = l })) (sym (returns-clause-creatures c))
    (settlers-setup w c.requires.sound)
