use Rattle.std.proofs.Common.{◌≡◌, ◌∙◌, ◌++◌, ◌∷◌, [], ap, arith, length}
use Rattle.genotyper.specs.Genotypes.{new_genotype}
use Rattle.world_state.specs.Checks.{noted}
use Rattle.world_state.proofs.EnteredAgain.{entered, length-more, length-noted}
use Rattle.world_state.proofs.entering.enter.Goals as goal

pub note-requires-2 : goal.note-requires-2
note-requires-2 c =
    let gs = c.args.genotypes.now.genotypes in
    let f = c.args.found.now in
    let new = new_genotype c.args.code f.parent f.first_quantum f.total in
    let len : length c.note.new.genotypes.genotypes ≡ length (gs ++ new ∷ []) =
    ap length c.note.ensures ∙ length-noted c.enter_with-number.result 1 f.first_effort c.enter_with-number.new.self.genotypes
    ∙ ap length c.enter_with-number.ensures.genotypes in
    let lt = length-more gs new in
    let number = c.enter_with-number.ensures.number in
    omega (arith, len, lt, number)

pub returns : goal.returns
returns c =
    let gs = c.args.genotypes.now.genotypes in
    let f = c.args.found.now in
    let r = c.enter_with-number.result in
    c.note-2.ensures
    ∙ ap (noted r 2 f.second_effort) (c.note.ensures ∙ ap (noted r 1 f.first_effort) c.enter_with-number.ensures.genotypes)
    ∙ (λ i. noted (c.enter_with-number.ensures.number i) 2 f.second_effort
    (noted (c.enter_with-number.ensures.number i) 1 f.first_effort (gs ++ new_genotype (c.requires.code i) f.parent f.first_quantum f.total ∷ [])))
    ∙ entered gs f
