use Rattle.std.proofs.Common.{◌≡◌, ◌∙◌, ◌<◌, ◌≤◌, ◌++◌, ℕ, List, None, Some, ap, append_assoc, arith, get_or, length, map, sym, take}
use Rattle.std.proofs.lemmas.List.{take_all}
use Rattle.std.proofs.lemmas.Option.{slice_get-get_or}
use Rattle.std.specs.List.{flat_map}
use Rattle.std.specs.Prelude.{option_map}
use Rattle.tierra_model.specs.Living.{one_of}
use Rattle.world_state.specs.StateBytes.{creature_bytes}
use Rattle.world_core.proofs.BytesGrow.{bytes-more}
use Rattle.world_core.proofs.state.push_creatures.Goals as goal

pub loop-k-preserved : goal.loop-k-preserved
loop-k-preserved c =
    let w = c.args.running.now.world in
    let k = c.loop-k.k in
    let within : k < length w.slicer = (let count : length w.slicer ≡ c.args.count = c.requires.count in omega arith) in
    let is : Some c.in-Some.creature.now ≡ Some (one_of w.living (get_or w.slicer k 0))
    = c.in-Some.ensures ∙ ap (option_map (one_of w.living)) (slice_get-get_or w.slicer k 0 within) in
    let one : c.in-Some.creature.now ≡ one_of w.living (get_or w.slicer k 0) = cc in
    c.in_ok-push_creature-in-Some.ensures
    ∙ (λ i. c.loop-k.invariant i ++ creature_bytes (one i))
    ∙ append_assoc c.args.out.now.items (flat_map creature_bytes (map (one_of w.living) (take k w.slicer)))
    (creature_bytes (one_of w.living (get_or w.slicer k 0)))
    ∙ ap (λ (l : List ℕ). c.args.out.now.items ++ l) (sym (bytes-more creature_bytes (one_of w.living) w.slicer k 0 within))

pub place-requires : goal.place-requires
place-requires c = c.requires.sound.slicer

pub unreachable-requires : goal.unreachable-requires
unreachable-requires c =
    let w = c.args.running.now.world in
    let k = c.loop-k.k in
    let within : k < length w.slicer = (let count : length w.slicer ≡ c.args.count = c.requires.count in omega arith) in
    let is : None ≡ Some (one_of w.living (get_or w.slicer k 0)) =
    c.in-None.ensures ∙ ap (option_map (one_of w.living)) (slice_get-get_or w.slicer k 0 within) in
    absurd cc

pub returns : goal.returns
returns c =
    let w = c.args.running.now.world in
    let all : length w.slicer ≤ c.loop-k.k = (let count : length w.slicer ≡ c.args.count = c.requires.count in omega arith) in
    c.loop-k.invariant
    ∙ (λ i. c.args.out.now.items ++ flat_map creature_bytes (map (one_of w.living) (take_all c.loop-k.k w.slicer all i)))
