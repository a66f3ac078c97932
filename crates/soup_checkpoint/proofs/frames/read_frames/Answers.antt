use Rattle.std.proofs.Common.{arith, []}
use Rattle.soup_checkpoint.proofs.Passing.{none_read}
use Rattle.soup_checkpoint.proofs.frames.read_frames.Goals as goal

pub loop-frames-init : goal.loop-frames-init
loop-frames-init c = (([], none_read c.args.bytes.now c.requires), omega arith)
