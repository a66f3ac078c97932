use Rattle.std.proofs.Common.{ap, ◌∙◌}
use Rattle.genotyper.specs.Names.{name_in}
use Rattle.genotyper.proofs.ReadBack.{each_is_read, is_text_of}
use Rattle.genotyper.proofs.names.parse_name.Goals as goal

pub returns-clause-is_text : goal.returns-clause-is_text
returns-clause-is_text c = is_text_of c.args.text.now c.read_name.result (c.read_name.ensures ∙ ap name_in c.as_bytes.ensures.value)

pub returns-clause-each : goal.returns-clause-each
returns-clause-each c = λ name. each_is_read c.args.text.now c.read_name.result name (c.read_name.ensures ∙ ap name_in c.as_bytes.ensures.value)
