use Rattle.std.proofs.Common.{ap, arith, length}
use Rattle.std.proofs.lemmas.List.{length-drop}
use Rattle.soup_checkpoint.proofs.recovery.frames_in.Goals as goal

pub read_frames-requires : goal.read_frames-requires
read_frames-requires c = omega (arith, ap length c.after.ensures, length-drop 44 c.args.image.now, c.requires.long)
