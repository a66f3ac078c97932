use Rattle.std.proofs.Common.{◌≡◌, ◌∙◌, ◌+◌, ◌-◌, ◌<◌, ◌≤◌, ℕ, List, ap, arith, drop, get_or, length, rules, sym, take}
use Rattle.std.specs.Prelude.{slice_range}
use Rattle.std.proofs.lemmas.List.{length-drop, length-take, take_more}
use Rattle.tierra_model.specs.declared.events.Event.{Event}
use Rattle.tierra_model.specs.declared.events.Event.TheVariants as event
use Rattle.world_core.specs.Prepared.{with_writes, written_into}
use Rattle.world_core.proofs.Preparing.{length-with_writes, writes-append, written-range}
use Rattle.world_core.proofs.prepared.code_after.Goals as goal

pub write_into-requires : goal.write_into-requires
write_into-requires c =
    let soup = with_writes (take c.loop-event.event-index c.args.events.now) c.args.running.now.world.soup in
    let lies : c.args.block.at + c.args.block.size ≤ length c.args.running.now.world.soup = c.requires.lies in
    let long : length soup ≡ length c.args.running.now.world.soup =
    length-with_writes (take c.loop-event.event-index c.args.events.now) c.args.running.now.world.soup in
    ap length c.loop-event.invariant
    ∙ omega (arith, length-take (c.args.block.at + c.args.block.size - c.args.block.at) (drop c.args.block.at soup), length-drop c.args.block.at soup)

pub loop-event-preserved : goal.loop-event-preserved
loop-event-preserved c =
    let es = c.args.events.now in
    let i = c.loop-event.event-index in
    let e : Event = get_or es i (event.Write 0 0) in
    let b = c.args.block in
    let soup = c.args.running.now.world.soup in
    let within : i < length es = search rules in
    c.write_into.ensures ∙ ap (written_into b e) c.loop-event.invariant ∙ sym (written-range e b (with_writes (take i es) soup))
    ∙ ap (λ (l : List ℕ). slice_range l b.at (b.at + b.size))
    (sym (writes-append (take i es) e soup) ∙ ap (λ (l : List Event). with_writes l soup) (sym (take_more es i (event.Write 0 0) within)))
