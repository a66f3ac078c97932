use Rattle.std.proofs.Common.{◌≡◌, ◌++◌, ◌∷◌, [], List, length, ◌∙◌, ap, subst, sym}
use Rattle.tierra_model.proofs.Each.{Each}
use Rattle.commit_book.specs.declared.history.Line.{Line}
use Rattle.commit_book.specs.History.{IsThere, entries_of}
use Rattle.commit_book.proofs.Recording.{pushed}
use Rattle.commit_book.proofs.history.History.push.Goals as goal

pub returns-clause-ok : goal.returns-clause-ok
returns-clause-ok c =
    let i = c.self.inside in
    let way = c.in_ok-way.ensures in
    let line : Line = record { creature = c.args.creature; by = c.args.by; way = c.in_ok-way.way } in
    let lines : c.push_reserved.new.self.items ≡ i.lines.items ++ line ∷ [] =
    c.push_reserved.ensures.items ∙ ap (λ (ls : List Line). ls ++ line ∷ []) c.in_ok-reserve.ensures.items in
    ap (entries_of c.way_of.new.differences.items 0) lines
    ∙ pushed i.differences.items c.way_of.new.differences.items i.lines.items line c.args.how c.args.self.now c.self.invariant way.lines way.how c.self.view_is

pub invariant_of-self : goal.invariant_of-self
invariant_of-self c =
    let i = c.self.inside in
    subst (Each (λ (l : Line). IsThere (length i.differences.items) l.way)) (sym c.in_err-reserve.ensures.items) c.self.invariant
