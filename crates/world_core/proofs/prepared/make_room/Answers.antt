use Rattle.std.proofs.Common.{◌≡◌, ◌∙◌, ◌<◌, ◌^◌, ℕ, List, Ok, Err, arith, length, rules}
use Rattle.std.specs.Prelude.{IfOk}
use Rattle.world_core.specs.Running.{WorldFields}
use Rattle.world_core.specs.Prepared.{CanWriteAll, HasRoomFor, codes_born}
use Rattle.world_core.proofs.Replaying.{can_write_all-kept}
use Rattle.world_core.proofs.prepared.make_room.Goals as goal

pub returns-clause-ok : goal.returns-clause-ok
returns-clause-ok c =
    let es = c.args.events.now in
    let h : WorldFields = c.reserve.new.self in
    let births = c.in_ok-reserve.ensures.ok.0 in
    let blocks = c.in_ok-reserve.ensures.ok.1 in
    let born = c.births_in-births.ensures in
    let taken = c.blocks_in-blocks.ensures in
    let few : length es < 2 ^ 31 = search rules in
    let cells : CanWriteAll h es
    = can_write_all-kept es c.make_ready.new.running h (λ p k. c.in_ok-reserve.ensures.ready p ∙ k) c.in_ok-make_ready.ensures.ok in
    let room : (codes : List (List ℕ)) → codes ≡ codes_born h.world es → HasRoomFor es codes h
    = λ codes is. record { few = few; newborns = is; cells = cells; births = omega arith; blocks = omega arith } in
    elim c.newborn_codes.result as (λ r. IfOk r (λ codes. codes.items ≡ codes_born h.world es) → IfOk r (λ codes. HasRoomFor es codes.items h)) [
      | Ok codes ↦ (λ is. room codes.items is)
      | Err e ↦ (λ is. is)
    ] c.newborn_codes.ensures
