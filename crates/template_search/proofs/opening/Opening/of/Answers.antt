use Rattle.std.proofs.Common.{refl, rules}
use Rattle.std.specs.Prelude.{take}
use Rattle.template_search.proofs.Words.{is_opening}
use Rattle.template_search.proofs.opening.Opening.of.Goals as goal

pub returns : goal.returns
returns c =
    let cells = c.args.template.now.cells in
    let nops = c.args.template.now.nops in
    let len = c.args.template.now.len in
    is_opening (take len cells) cells len refl (search rules) (search rules)
    nops _ c.args.template.now.word c.mask_of-mask.result (search rules)
    (c.mask_of-mask.ensures (take len cells) (search rules)) refl refl
