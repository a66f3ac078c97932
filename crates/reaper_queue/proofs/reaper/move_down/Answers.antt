use Rattle.std.proofs.Common.{◌∙◌, rules}
use Rattle.reaper_queue.proofs.Changes.{down-bottom, down-stays, down-moves}
use Rattle.reaper_queue.proofs.reaper.move_down.Goals as goal
use Rattle.reaper_queue.proofs.reaper.move_down.Goals.{else-place-len-via-then-place-len+else-index, else-place-len-via-else-place-len}

pub returns-then-index-clause-items : goal.returns-then-index-clause-items
returns-then-index-clause-items c =
    c.exchange.ensures.items
    ∙ down-moves c.args.entries.now.items c.args.id c.args.place c.requires.here c.index.result.now c.index-then-place-len.result.now
    c.index.ensures c.index-then-place-len.ensures (search rules) c.if-index.true

pub returns-else-place-len-clause-items : goal.returns-else-place-len-clause-items
returns-else-place-len-clause-items c = elim c.else-place-len.branch [
  | else-place-len-via-then-place-len+else-index w ↦
      down-stays c.args.entries.now.items c.args.id c.args.place c.requires.here w.index.result.now w.index-then-place-len.result.now
      w.index.ensures w.index-then-place-len.ensures (search rules) w.if-index.false
  | else-place-len-via-else-place-len w ↦ down-bottom c.args.entries.now.items c.args.id c.args.place c.requires.here (search rules)
]
