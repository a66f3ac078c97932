use Rattle.std.proofs.Common.{◌∙◌, sym}
use Rattle.block_alloc.proofs.Fits.{first_fit-runs}
use Rattle.block_alloc.proofs.blocks.fit_in.Goals as goal

pub returns : goal.returns
returns c = c.first_long.ensures ∙ sym (first_fit-runs c.args.cells c.args.size c.args.runs.now c.requires.one c.requires.runs)
