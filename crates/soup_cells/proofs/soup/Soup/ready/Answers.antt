use Rattle.std.proofs.Common.{◌∙◌, ◌<◌, ap, length, subst, sym}
use Rattle.soup_cells.specs.Soup.{SoupFields, is_ready}
use Rattle.soup_cells.specs.Paging.{soup_of}
use Rattle.soup_cells.specs.declared.soup.Paging.{Paging}
use Rattle.soup_cells.proofs.Rows.{row-ready}
use Rattle.soup_cells.proofs.soup.Soup.ready.Goals as goal
use Rattle.soup_cells.proofs.soup.Soup.ready.Goals.{in-Own, in-Uncut}

pub returns-clause-ok : goal.returns-clause-ok
unfolding is_ready
returns-clause-ok c =
    let row = c.self.inside.row in
    let within : c.args.at < length row = subst (λ (s : SoupFields). c.args.at < length s.cells) (sym c.self.view_is) c.requires in
    elim c.match-self.branch [
      | in-Uncut w ↦ rw w.result-is (rw w.self-inside-is
          (ap (λ (p : Paging). is_ready (soup_of row p) c.args.at) w.in-Uncut.is
          ∙ row-ready row c.args.at within))
      | in-Own w ↦ rw w.result-is (rw w.self-inside-is w.ready.ensures.ok)
    ]
