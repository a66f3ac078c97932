use Rattle.std.proofs.Common.{◌≡◌, ◌<◌, ◌+◌, length, get_or, sym, ◌∙◌, ap, subst, arith}
use Rattle.std.specs.Prelude.{List, Some, slice_get}
use Rattle.tierra_model.specs.declared.history.Entry.{Entry}
use Rattle.tierra_model.specs.declared.history.How.{How}
use Rattle.commit_book.specs.declared.history.Line.{Line}
use Rattle.commit_book.specs.History.{IsThere, how_by}
use Rattle.commit_book.proofs.Recording.{each-at, entries-at, entries-length}
use Rattle.commit_book.proofs.history.History.at.Goals as goal

pub index-line-requires : goal.index-line-requires
index-line-requires c =
    let i = c.self.inside in
    omega (arith, c.requires, i.lines.ok, ap length c.self.view_is, entries-length i.differences.items 0 i.lines.items)

pub overflow_add-result : goal.overflow_add-result
overflow_add-result c =
    let i = c.self.inside in
    omega (arith, c.requires, i.lines.ok, i.lines.small, ap length c.self.view_is, entries-length i.differences.items 0 i.lines.items)

pub how_by-requires : goal.how_by-requires
how_by-requires c =
    let i = c.self.inside in
    let line : Line = c.index-line.result.now in
    let within : c.args.place < length i.lines.items =
    omega (arith, c.requires, ap length c.self.view_is, entries-length i.differences.items 0 i.lines.items) in
    subst (λ (l : Line). IsThere (length i.differences.items) l.way) (sym c.index-line.ensures)
    (each-at (length i.differences.items) i.lines.items c.args.place line within c.self.invariant)

pub returns : goal.returns
returns c =
    let i = c.self.inside in
    let line : Line = c.index-line.result.now in
    let within : c.args.place < length i.lines.items =
    omega (arith, c.requires, ap length c.self.view_is, entries-length i.differences.items 0 i.lines.items) in
    let number : 0 + c.args.place + 1 ≡ c.args.place + 1 = omega arith in
    let is : get_or i.lines.items c.args.place line ≡ line = sym c.index-line.ensures in
    ap (λ (es : List Entry). slice_get es c.args.place) (sym c.self.view_is)
    ∙ entries-at i.differences.items 0 i.lines.items c.args.place line within
    ∙ (λ j. let l : Line = is j in Some (record { quantum = number j; creature = l.creature; by = l.by; how = how_by i.differences.items l.way }))
    ∙ ap (λ (h : How). Some (record { quantum = c.args.place + 1; creature = line.creature; by = line.by; how = h })) (sym c.how_by.ensures)
