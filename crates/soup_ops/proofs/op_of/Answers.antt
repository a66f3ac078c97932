use Rattle.std.proofs.Common.{◌∙◌}
use Rattle.tierra_model.specs.Table.{ops}
use Rattle.soup_ops.proofs.Lookups.{option_copied_item}
use Rattle.soup_ops.proofs.op_of.Goals as goal

pub returns : goal.returns
returns c = rw (← c.from.ensures) (c.copied.ensures ∙ option_copied_item ops c.from.result c.get.result c.get.ensures.lookup)
