use Rattle.std.proofs.Common.{◌≡◌, ◌∙◌, ◌+◌, ◌-◌, arith}
use Rattle.reaper_queue.proofs.Changes.{up-top, up-stays, up-moves}
use Rattle.reaper_queue.proofs.reaper.move_up.Goals as goal
use Rattle.reaper_queue.proofs.reaper.move_up.Goals.{else-place-gt0-via-then-place-gt0+else-index, else-place-gt0-via-else-place-gt0}

pub returns-then-index-clause-items : goal.returns-then-index-clause-items
returns-then-index-clause-items c =
    let e : c.args.place - 1 + 1 ≡ c.args.place = omega arith in
    c.exchange.ensures.items
    ∙ up-moves c.args.entries.now.items c.args.id c.args.place c.requires.here (c.args.place - 1) c.index-then-place-gt0.result.now c.index.result.now
    e c.index-then-place-gt0.ensures c.index.ensures c.if-index.true

pub returns-else-place-gt0-clause-items : goal.returns-else-place-gt0-clause-items
returns-else-place-gt0-clause-items c = elim c.else-place-gt0.branch [
  | else-place-gt0-via-then-place-gt0+else-index w ↦ (
      let e : c.args.place - 1 + 1 ≡ c.args.place = omega arith in
      up-stays c.args.entries.now.items c.args.id c.args.place c.requires.here (c.args.place - 1) w.index-then-place-gt0.result.now w.index.result.now
      e w.index-then-place-gt0.ensures w.index.ensures w.if-index.false)
  | else-place-gt0-via-else-place-gt0 w ↦ up-top c.args.entries.now.items c.args.id c.args.place c.requires.here (omega arith)
]
