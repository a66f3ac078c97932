use Rattle.std.proofs.Common.{◌-◌, ◌<◌, ◌≤◌, length}
use Rattle.world_core.specs.Savings.{AreOf}
use Rattle.world_core.proofs.groups.run_end.Given as goal

abbrev pub invariant-loop-end : goal.invariant-loop-end
invariant-loop-end l = (l.fn.at < l.end) × (l.end ≤ length l.saved) × AreOf l.saved l.fn.at l.end

abbrev pub decreases-loop-end : goal.decreases-loop-end
decreases-loop-end l = length l.saved - l.end
