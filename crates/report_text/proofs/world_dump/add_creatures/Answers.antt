use Rattle.std.proofs.Common.{◌∙◌, ◌<◌, ◌≤◌, ◌++◌, List, ℕ, ap, append_assoc, arith, get_or, length, map, sym, take}
use Rattle.std.proofs.lemmas.List.{take_all}
use Rattle.std.specs.List.{flat_map}
use Rattle.tierra_model.specs.Living.{one_of}
use Rattle.world_core.proofs.BytesGrow.{bytes-more}
use Rattle.world_state.proofs.SlicerLength.{length-slicer}
use Rattle.report_text.specs.Dump.{creature_line}
use Rattle.report_text.proofs.world_dump.add_creatures.Goals as goal

pub creature_at-requires-clause-within : goal.creature_at-requires-clause-within
creature_at-requires-clause-within c = omega (arith, length-slicer c.args.world.now.world c.requires)

pub loop-k-preserved : goal.loop-k-preserved
loop-k-preserved c =
    let w = c.args.world.now.world in
    let k = c.loop-k.k in
    let line = creature_line w.genotypes in
    let told : List ℕ = flat_map line (map (one_of w.living) (take k w.slicer)) in
    let within : k < length w.slicer = omega (arith, length-slicer w c.requires) in
    c.in_ok-add_creature.ensures
    ∙ (λ i. c.loop-k.invariant i ++ creature_line (c.genotypes.ensures i) (c.creature_at.ensures.creature i))
    ∙ append_assoc c.args.text.now.items told (line (one_of w.living (get_or w.slicer k 0)))
    ∙ ap (λ (l : List ℕ). c.args.text.now.items ++ l) (sym (bytes-more line (one_of w.living) w.slicer k 0 within))

pub returns : goal.returns
returns c =
    let w = c.args.world.now.world in
    let all : length w.slicer ≤ c.loop-k.k = omega (arith, length-slicer w c.requires) in
    c.loop-k.invariant
    ∙ ap (λ (ids : List ℕ). c.args.text.now.items ++ flat_map (creature_line w.genotypes) (map (one_of w.living) ids)) (take_all c.loop-k.k w.slicer all)
