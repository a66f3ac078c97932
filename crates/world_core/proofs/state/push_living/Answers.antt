use Rattle.std.proofs.Common.{◌≡◌, ◌∙◌, ◌++◌, ℕ, List, Ok, Err, ap, append_assoc, length, map, sym}
use Rattle.std.specs.List.{flat_map}
use Rattle.std.specs.Prelude.{OnOk}
use Rattle.tierra_model.specs.Living.{one_of}
use Rattle.tierra_model.proofs.DisturbanceCounts.{length-reaper}
use Rattle.byte_fields.specs.Writing.{four}
use Rattle.world_state.specs.StateBytes.{creature_bytes, living_bytes}
use Rattle.world_state.proofs.SlicerLength.{length-slicer}
use Rattle.world_core.proofs.state.push_living.Goals as goal

pub push_creatures-requires-clause-count : goal.push_creatures-requires-clause-count
push_creatures-requires-clause-count c =
    let w = c.args.running.now.world in
    length-slicer w c.requires ∙ sym (length-reaper w c.requires) ∙ sym c.reaper_len-count.ensures

pub returns : goal.returns
unfolding living_bytes
returns c =
    let w = c.args.running.now.world in
    let count = c.reaper_len-count.ensures ∙ length-reaper w c.requires in
    let start = c.args.out.now.items in
    let all : List ℕ = flat_map creature_bytes (map (one_of w.living) w.slicer) in
    elim c.push_creatures.result as (λ r. OnOk r (c.push_creatures.new.out.items ≡ c.push_four.new.out.items ++ all)
    → OnOk r (c.push_creatures.new.out.items ≡ start ++ (four (length w.living) ++ all))) [
      | Ok x ↦ (λ e. e ∙ (λ i. (c.in_ok-push_four.ensures ∙ ap (λ (n : ℕ). start ++ four n) count) i ++ all) ∙ append_assoc start (four (length w.living)) all)
      | Err e ↦ (λ h. h)
    ] c.push_creatures.ensures
