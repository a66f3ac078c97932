use Rattle.std.proofs.Common.{◌≡◌, ℕ, ◌*◌, ◌<◌, true}
use Rattle.soup_cells.specs.declared.page.TheConstants.{PAGE}
use Rattle.world_core.specs.Running.{can_be_set}
use Rattle.serial_slicer.proofs.sole.make_ready.Given as goal

abbrev pub invariant-loop-page : goal.invariant-loop-page
invariant-loop-page l = record {
  world : l.running.world ≡ l.fn.running.world;
  ready : (p : ℕ) → p < l.page * PAGE → can_be_set l.running p ≡ true;
}
