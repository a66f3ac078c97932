use Rattle.std.proofs.Common.{◌≤◌, ◌+◌, subst, sym}
use Rattle.world_core.specs.Running.{IsRunning, WorldFields}
use Rattle.world_core.specs.contracts.running.Running.{the_view}
use Rattle.world_core.proofs.Within.{daughter_block, placed_front}
use Rattle.world_core.proofs.running.Running.daughter_code.Goals as goal

pub code_of-requires-clause-lies : goal.code_of-requires-clause-lies
code_of-requires-clause-lies c =
    let r : IsRunning (the_view c.self.inside).world = subst (λ (h : WorldFields). IsRunning h.world) (sym c.self.view_is) c.requires.within in
    let x = c.front.result.now in
    let b = c.unwrap-block.result in
    let lies : b.at + b.size ≤ c.self.inside.settings.soup_size = (daughter_block _ x b (placed_front _ x r c.front.ensures) c.unwrap-block.ensures).2 in
    rw r.cells lies
