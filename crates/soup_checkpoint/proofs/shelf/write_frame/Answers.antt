use Rattle.std.proofs.Common.{◌≡◌, ap, subst, sym, ℕ, length}
use Rattle.file_journal.specs.Files.{IsClosedAt}
use Rattle.file_journal.proofs.Times.{each_file}
use Rattle.soup_checkpoint.specs.Shelf.{IsAtRest, ShelfState}
use Rattle.soup_checkpoint.proofs.Resting.{closed_at}
use Rattle.soup_checkpoint.proofs.shelf.write_frame.Goals as goal

pub append-requires-clause-closed : goal.append-requires-clause-closed
append-requires-clause-closed g c =
    let inside = c.shelf.inside in
    let gate : inside.gate ≡ c.args.shelf.now.gate = ap (λ (s : ShelfState). s.gate) c.shelf.view_is in
    let owner : inside.owner ≡ c.args.shelf.now.owner = ap (λ (s : ShelfState). s.owner) c.shelf.view_is in
    let len = subst (λ o. length o.digest ≡ 32) owner c.shelf.invariant.0 in
    each_file (g.D.Desk.state c.args.desk.now).reads (IsAtRest c.args.shelf.now.owner c.args.shelf.now.gate) (IsClosedAt inside.gate)
    (λ file is rests.
    subst (λ (n : ℕ). IsClosedAt n file) (sym gate) (closed_at c.args.shelf.now.owner len c.args.shelf.now.gate file rests))
    c.requires.attached.at_rest
