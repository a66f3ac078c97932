use Rattle.std.proofs.Common.{◌∙◌, ap}
use Rattle.std.proofs.Math.Seq.{map-set_same}
use Rattle.soup_cells.specs.Pages.{page_cells}
use Rattle.soup_cells.proofs.pages.share_at.Goals as goal

pub returns-clause-cells : goal.returns-clause-cells
returns-clause-cells c =
    map-set_same page_cells c.args.pages.now.items c.args.i c.share.new.self c.index_mut.result.now (c.share.ensures ∙ ap page_cells c.index_mut.ensures.value)
