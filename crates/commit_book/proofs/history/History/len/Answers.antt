use Rattle.std.proofs.Common.{length, ap, arith}
use Rattle.commit_book.proofs.Recording.{entries-length}
use Rattle.commit_book.proofs.history.History.len.Goals as goal

pub returns : goal.returns
returns c =
    let i = c.self.inside in
    omega (arith, c.len.ensures, i.lines.ok, entries-length i.differences.items 0 i.lines.items, ap length c.self.view_is)
