use Rattle.std.proofs.Common.{◌≤◌, ◌-◌, List, ℕ, length}
use Rattle.soup_checkpoint.specs.Frames.{AreRead}
use Rattle.soup_checkpoint.proofs.frames.read_frames.Given as goal

abbrev pub invariant-loop-frames : goal.invariant-loop-frames
invariant-loop-frames l = ((states : List (List ℕ)) × AreRead l.bytes l.frames states) × (l.frames.count ≤ l.frames.gate)

abbrev pub decreases-loop-frames : goal.decreases-loop-frames
decreases-loop-frames l = length l.bytes - l.frames.gate
