use Rattle.std.proofs.Common.{◌∙◌, arith, get_or, length, subst, sym, take}
use Rattle.std.proofs.lemmas.List.{take_more}
use Rattle.tierra_model.specs.declared.events.Event.TheVariants as event
use Rattle.tierra_model.specs.World.{World}
use Rattle.world_core.specs.Prepared.{CanWriteAll, WritesBelow}
use Rattle.world_core.proofs.Preparing.{can_write-append, writes-below}
use Rattle.world_core.proofs.Replaying.{can_write_all-kept}
use Rattle.world_core.proofs.prepared.make_ready.Goals as goal

pub make_cell_ready-requires : goal.make_cell_ready-requires
make_cell_ready-requires c =
    let w = c.args.running.now.world in
    let i = c.loop-event.event-index in
    subst (λ (v : World). WritesBelow (length v.soup) (get_or c.args.events.now i (event.Write 0 0))) (sym c.loop-event.invariant.0)
    (writes-below w c.args.events.now i (event.Write 0 0) (length w.soup) (sym c.requires.sound.cells) (omega arith) c.requires.can)

pub loop-event-preserved : goal.loop-event-preserved
loop-event-preserved c =
    let es = c.args.events.now in
    let i = c.loop-event.event-index in
    let before = c.loop-event.invariant in
    let after = c.in_ok-make_cell_ready.ensures in (
      after.world ∙ before.0,
      (λ p h. after.kept p (before.1 p h)),
      subst (CanWriteAll c.make_cell_ready.new.running) (sym (take_more es i (event.Write 0 0) (omega arith)))
          (can_write-append c.make_cell_ready.new.running (take i es) (get_or es i (event.Write 0 0))
          (can_write_all-kept (take i es) c.loop-event.running c.make_cell_ready.new.running after.kept before.2) after.ok),
    )
