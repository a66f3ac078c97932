use Rattle.std.proofs.Common.{◌≡◌, length, subst}
use Rattle.desk_io.specs.Desk.{DeskState, UsesDisk}
use Rattle.desk_io.proofs.Time.{UsesDisk-weaker}
use Rattle.file_journal.specs.Opening.{IsLeftOrMaking, IsNew}
use Rattle.file_journal.specs.Steps.{IfTold}
use Rattle.file_journal.specs.declared.header.Header.{Header}
use Rattle.file_journal.proofs.Times.{told_weaker}
use Rattle.soup_checkpoint.specs.declared.owner.Owner.{Owner}
use Rattle.soup_checkpoint.specs.Hold.{header_for}
use Rattle.soup_checkpoint.specs.Shelf.{SaysAsBefore}
use Rattle.soup_checkpoint.proofs.Attaching.{attach_new, opening_says}
use Rattle.soup_checkpoint.proofs.shelf.attach_for.Goals as goal

-- each moment of an opening
says_as_before : (owner : Owner) (h : Header) (old new : DeskState) → length owner.digest ≡ 32 → h ≡ header_for owner
    → UsesDisk old new (IfTold old (IsLeftOrMaking h old.may_leave)) → UsesDisk old new (IfTold old (SaysAsBefore owner old.may_leave))
says_as_before owner h old new len is =
    UsesDisk-weaker (told_weaker old (IsLeftOrMaking h old.may_leave) (SaysAsBefore owner old.may_leave)
    (λ file image told left. opening_says owner h old.may_leave file image len is left))

pub returns-in_err-image-clause-moments : goal.returns-in_err-image-clause-moments
returns-in_err-image-clause-moments g c =
    says_as_before c.args.owner c.header-header.result (g.D.Desk.state c.args.desk.now) (g.D.Desk.state c.open.new.desk)
    c.header-header.ensures.digest c.header-header.ensures.header c.open.ensures.moments

pub returns-in_default-clause-moments : goal.returns-in_default-clause-moments
returns-in_default-clause-moments g c =
    says_as_before c.args.owner c.header-header.result (g.D.Desk.state c.args.desk.now) (g.D.Desk.state c.open.new.desk)
    c.header-header.ensures.digest c.header-header.ensures.header c.open.ensures.moments

pub returns-in_err-world-clause-moments : goal.returns-in_err-world-clause-moments
returns-in_err-world-clause-moments g c =
    says_as_before c.args.owner c.header-header.result (g.D.Desk.state c.args.desk.now) (g.D.Desk.state c.open.new.desk)
    c.header-header.ensures.digest c.header-header.ensures.header c.open.ensures.moments

pub returns-clause-moments : goal.returns-clause-moments
returns-clause-moments g c =
    says_as_before c.args.owner c.header-header.result (g.D.Desk.state c.args.desk.now) (g.D.Desk.state c.open.new.desk)
    c.header-header.ensures.digest c.header-header.ensures.header c.open.ensures.moments

pub returns-in_default-clause-attached : goal.returns-in_default-clause-attached
returns-in_default-clause-attached g c =
    let old = g.D.Desk.state c.args.desk.now in
    let new = g.D.Desk.state c.open.new.desk in
    let made = rw c.in_default.is at c.in_ok-image.ensures.new in
    attach_new c.args.owner old new c.shelf_at.result c.header-header.ensures.digest c.shelf_at.ensures.owner
    c.shelf_at.ensures.gate (subst (λ (h : Header). IsNew h old new) c.header-header.ensures.header made)
