use Rattle.std.proofs.Common.{rules, inl, inr, ◌≡◌, ◌<◌, length}
use Rattle.std.specs.Prelude.{IfSome}
use Rattle.desk_io.specs.Desk.{DeskState, UsesDisk}
use Rattle.desk_io.proofs.Time.{UsesDisk-then, UsesDisk-weaker}
use Rattle.file_journal.specs.declared.header.Header.{Header}
use Rattle.file_journal.specs.Creating.{IsMaking}
use Rattle.file_journal.specs.Files.{IsFresh}
use Rattle.file_journal.specs.Opening.{IsLeftOrMaking}
use Rattle.file_journal.specs.Steps.{IfTold}
use Rattle.file_journal.proofs.Times.{at_file, for_file, told_from, told_weaker}
use Rattle.file_journal.proofs.opening.open.Goals as goal

-- while the file is read a crash leaves what it might have left before
left : (old mid : DeskState) (h : Header) → UsesDisk old mid old.may_leave → UsesDisk old mid (IfTold old (IsLeftOrMaking h old.may_leave))
left old mid h uses =
    UsesDisk-weaker (λ image was. for_file old.reads (λ file. IsLeftOrMaking h old.may_leave file image) (λ file is. inl was)) uses

-- and then a fresh file gets its header
making : (old mid new : DeskState) (h : Header) → UsesDisk old mid old.may_leave → mid.reads ≡ old.reads
    → UsesDisk mid new (IfTold mid (λ file image. IsFresh h.title file × IsMaking h image))
    → UsesDisk old new (IfTold old (IsLeftOrMaking h old.may_leave))
making old mid new h first same second =
    UsesDisk-then (left old mid h first)
    (UsesDisk-weaker (λ image told.
    told_weaker old (λ file i. IsFresh h.title file × IsMaking h i) (IsLeftOrMaking h old.may_leave) (λ file i is p. inr p) image
    (told_from old mid (λ file i. IsFresh h.title file × IsMaking h i) same image told)) second)

-- a short file is fresh
short : (mid new : DeskState) (h : Header) → IfSome mid.reads (λ file. length file < 45) → UsesDisk mid new (IfTold mid (λ file. IsMaking h))
    → UsesDisk mid new (IfTold mid (λ file image. IsFresh h.title file × IsMaking h image))
short mid new h is uses =
    UsesDisk-weaker (told_weaker mid (λ file. IsMaking h) (λ file image. IsFresh h.title file × IsMaking h image)
    (λ file image here made. (inl (at_file mid.reads (λ f. length f < 45) file here is), made))) uses

pub returns-in_err-image-clause-moments : goal.returns-in_err-image-clause-moments
returns-in_err-image-clause-moments g c =
    left (g.D.Desk.state c.args.desk.now) (g.D.Desk.state c.load.new.desk) c.args.header.now c.load.ensures.uses

pub returns-in_err-make-clause-moments : goal.returns-in_err-make-clause-moments
returns-in_err-make-clause-moments g c =
    let old = g.D.Desk.state c.args.desk.now in
    let mid = g.D.Desk.state c.load.new.desk in
    let new = g.D.Desk.state c.make.new.desk in
    making old mid new c.args.header.now c.load.ensures.uses c.in_ok-image.ensures.synced.reads (short mid new c.args.header.now (search rules) c.make.ensures.moments)

pub returns-in_default-clause-moments : goal.returns-in_default-clause-moments
returns-in_default-clause-moments g c =
    let old = g.D.Desk.state c.args.desk.now in
    let mid = g.D.Desk.state c.load.new.desk in
    let new = g.D.Desk.state c.make.new.desk in
    making old mid new c.args.header.now c.load.ensures.uses c.in_ok-image.ensures.synced.reads (short mid new c.args.header.now (search rules) c.make.ensures.moments)

pub returns-in_err-make_fresh-clause-moments : goal.returns-in_err-make_fresh-clause-moments
returns-in_err-make_fresh-clause-moments g c =
    making (g.D.Desk.state c.args.desk.now) (g.D.Desk.state c.load.new.desk) (g.D.Desk.state c.make_fresh.new.desk) c.args.header.now
    c.load.ensures.uses c.in_ok-image.ensures.synced.reads c.make_fresh.ensures.moments

pub returns-then-branch-clause-moments : goal.returns-then-branch-clause-moments
returns-then-branch-clause-moments g c =
    making (g.D.Desk.state c.args.desk.now) (g.D.Desk.state c.load.new.desk) (g.D.Desk.state c.make_fresh.new.desk) c.args.header.now
    c.load.ensures.uses c.in_ok-image.ensures.synced.reads c.make_fresh.ensures.moments

pub returns-clause-moments : goal.returns-clause-moments
returns-clause-moments g c =
    making (g.D.Desk.state c.args.desk.now) (g.D.Desk.state c.load.new.desk) (g.D.Desk.state c.make_fresh.new.desk) c.args.header.now
    c.load.ensures.uses c.in_ok-image.ensures.synced.reads c.make_fresh.ensures.moments
