use Rattle.std.proofs.Common.{◌<◌, ◌∙◌, ℕ, List, ap, length, slice_index, subst, sym}
use Rattle.quantum_run.specs.Seen.{CellsFields}
use Rattle.quantum_run.proofs.Marked.{at_most, length-shown, told_here, told_look}
use Rattle.quantum_run.proofs.cells.CellsView.row.Goals as goal

pub returns-clause-len : goal.returns-clause-len
returns-clause-len c =
    let n = c.self.inside in
    ap length c.as_slice.ensures.value ∙ c.self.invariant.0 ∙ sym (length-shown n.marks.items n.version c.self.invariant.0)
    ∙ ap (λ (v : CellsFields). length v.now) c.self.view_is

pub returns-clause-held : goal.returns-clause-held
returns-clause-held c p inside h =
    let n = c.self.inside in
    let here = c.as_slice.ensures.value in
    let within : p < length n.marks.items =
    at_most n.marks.items n.version p c.args.self.now c.self.invariant.0 (ap (λ (v : CellsFields). v.now) c.self.view_is) inside in
    ap (λ (l : List ℕ). slice_index l p) here
    ∙ told_here n.marks.items n.version n.reads.reads n.own n.daughter p c.self.invariant.0 within (subst (λ (l : List ℕ). slice_index l p < 32) here h)
    ∙ ap (λ (v : CellsFields). slice_index v.now p) c.self.view_is

pub returns-clause-traceless : goal.returns-clause-traceless
returns-clause-traceless c p inside h =
    let n = c.self.inside in
    let within : p < length n.marks.items =
    at_most n.marks.items n.version p c.args.self.now c.self.invariant.0 (ap (λ (v : CellsFields). v.now) c.self.view_is) inside in
    told_look n.marks.items n.version n.reads.reads n.own n.daughter p c.self.invariant.0 within c.args.self.now c.self.view_is
    (subst (λ (l : List ℕ). slice_index l p < 32) c.as_slice.ensures.value h)
