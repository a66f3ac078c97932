use Rattle.std.proofs.Common.{◌≡◌, ◌<◌, ℕ, List, ◌++◌, ◌∷◌, [], false, refl, sym, ◌∙◌, ap, arith, length}
use Rattle.std.specs.Prelude.{slice_index, slice_index_or}
use Rattle.std.proofs.lemmas.List.{length-set}
use Rattle.tierra_model.specs.Reads.{Reads}
use Rattle.quantum_run.specs.Marks.{is_code, no_mark, unknown_in}
use Rattle.quantum_run.specs.Seen.{CellsFields}
use Rattle.quantum_run.proofs.Marked.{at_most, code_is, known-at, seen, unknown-look, unknown_look, unknown_value}
use Rattle.quantum_run.proofs.cells.Cells.look_up.Goals as goal

pub get-value-requires : goal.get-value-requires
get-value-requires c =
    let n = c.self.inside in
    let within : c.args.at < length n.marks.items =
    at_most n.marks.items n.version c.args.at c.args.self.now c.self.invariant.0 (ap (λ (v : CellsFields). v.now) c.self.view_is) c.requires.inside in
    omega (arith, within, c.self.invariant.0)

pub note-requires : goal.note-requires
note-requires c =
    let n = c.self.inside in
    let within : c.args.at < length n.marks.items =
    at_most n.marks.items n.version c.args.at c.args.self.now c.self.invariant.0 (ap (λ (v : CellsFields). v.now) c.self.view_is) c.requires.inside in
    let unknown : is_code (slice_index_or n.marks.items c.args.at no_mark) ≡ false =
    sym (known-at n.marks.items c.args.at within) ∙ ap (λ (v : CellsFields). slice_index_or v.known c.args.at false) c.self.view_is ∙ c.requires.unknown in
    omega (arith, unknown-look 0 n.marks.items c.args.at refl within unknown, c.self.invariant.1)

pub set_mark-requires : goal.set_mark-requires
set_mark-requires c =
    let n = c.self.inside in
    let within : c.args.at < length n.marks.items =
    at_most n.marks.items n.version c.args.at c.args.self.now c.self.invariant.0 (ap (λ (v : CellsFields). v.now) c.self.view_is) c.requires.inside in
    within

pub invariant_of-self : goal.invariant_of-self
invariant_of-self c =
    let n = c.self.inside in
    let within : c.args.at < length n.marks.items =
    at_most n.marks.items n.version c.args.at c.args.self.now c.self.invariant.0 (ap (λ (v : CellsFields). v.now) c.self.view_is) c.requires.inside in
    let unknown : is_code (slice_index_or n.marks.items c.args.at no_mark) ≡ false =
    sym (known-at n.marks.items c.args.at within) ∙ ap (λ (v : CellsFields). slice_index_or v.known c.args.at false) c.self.view_is ∙ c.requires.unknown in
    let v = c.get-value.result in
    let set = c.set_mark.ensures in (
      ap length set ∙ length-set n.marks.items c.args.at v ∙ c.self.invariant.0 ∙ ap length (sym c.get-value.ensures.same),
      omega (
        arith,
        unknown-look v n.marks.items c.args.at (code_is v c.get-value.ensures.code) within unknown,
        c.self.invariant.1,
        ap unknown_in set,
        c.note.ensures.room,
      ),
      (c.note.ensures.free ∙ c.self.invariant.2.0, c.note.ensures.yard ∙ c.self.invariant.2.1),
    )

pub returns-clause-value : goal.returns-clause-value
returns-clause-value c =
    let n = c.self.inside in
    let within : c.args.at < length n.marks.items =
    at_most n.marks.items n.version c.args.at c.args.self.now c.self.invariant.0 (ap (λ (v : CellsFields). v.now) c.self.view_is) c.requires.inside in
    let unknown : is_code (slice_index_or n.marks.items c.args.at no_mark) ≡ false =
    sym (known-at n.marks.items c.args.at within) ∙ ap (λ (v : CellsFields). slice_index_or v.known c.args.at false) c.self.view_is ∙ c.requires.unknown in
    unknown_value n.marks.items n.version n.reads.reads n.own n.daughter c.args.at c.self.invariant.0 within c.get-value.result unknown
    c.get-value.ensures.value
    ∙ ap (λ (v : CellsFields). slice_index v.now c.args.at) c.self.view_is

pub returns-clause-after : goal.returns-clause-after
returns-clause-after c =
    let n = c.self.inside in
    let within : c.args.at < length n.marks.items =
    at_most n.marks.items n.version c.args.at c.args.self.now c.self.invariant.0 (ap (λ (v : CellsFields). v.now) c.self.view_is) c.requires.inside in
    let unknown : is_code (slice_index_or n.marks.items c.args.at no_mark) ≡ false =
    sym (known-at n.marks.items c.args.at within) ∙ ap (λ (v : CellsFields). slice_index_or v.known c.args.at false) c.self.view_is ∙ c.requires.unknown in
    let note = c.note.ensures in
    let more : Reads = record n.reads.reads { cells = n.reads.reads.cells ++ (c.args.at, c.get-value.result) ∷ [] } in
    let noted : c.note.new.self.reads ≡ more = (λ i. let r : Reads = record { cells = note.cells i; free = note.free i; yard = note.yard i } in r) in
    ap (λ (cells : List ℕ). seen c.set_mark.new.marks.items cells c.note.new.self.reads n.own n.daughter) c.get-value.ensures.same
    ∙ unknown_look n.marks.items n.version n.reads.reads n.own n.daughter c.args.at c.self.invariant.0 within c.args.self.now c.get-value.result
    c.note.new.self.reads c.set_mark.new.marks.items c.self.view_is (code_is c.get-value.result c.get-value.ensures.code) unknown c.get-value.ensures.value
    c.set_mark.ensures noted
