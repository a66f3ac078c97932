use Rattle.std.proofs.Common.{◌+◌, length}
use Rattle.file_journal.specs.Files.{ClosesAfter, IsBeforeOrAfter, with_record}
use Rattle.file_journal.specs.Steps.{Becomes}
use Rattle.file_journal.proofs.Times.{Becomes-given, IsDiskCall-weaker, at_file, on_ok, told_weaker}
use Rattle.soup_checkpoint.specs.Frames.{spelling}
use Rattle.soup_checkpoint.specs.Shelf.{HoldsUpTo, IsAtRest, SaysBeforeOrAfter}
use Rattle.soup_checkpoint.proofs.Resting.{before_or_after, holds_up_to}
use Rattle.soup_checkpoint.proofs.shelf.write_state.Goals as goal

pub returns-clause-held : goal.returns-clause-held
returns-clause-held g c =
    let old = g.D.Desk.state c.args.desk.now in
    let new = g.D.Desk.state c.write_frame.new.desk in
    let s = c.args.shelf.now in
    let state = c.args.state.now in
    let len = c.write_frame.ensures.digest in
    let next = s.gate + 1 + length (spelling state) in
    on_ok c.write_frame.result (Becomes old new (λ file. ClosesAfter (with_record s.gate (spelling state) file)))
    (Becomes old new (λ file. HoldsUpTo s.owner next state))
    (Becomes-given old new (IsAtRest s.owner s.gate) (λ file. ClosesAfter (with_record s.gate (spelling state) file))
    (λ file. HoldsUpTo s.owner next state)
    (λ file now rests closes. holds_up_to s.owner len s.gate state file now c.requires.room.short c.requires.room.sound rests closes)
    c.requires.attached.at_rest)
    c.write_frame.ensures.appended

pub returns-clause-call : goal.returns-clause-call
returns-clause-call g c =
    let old = g.D.Desk.state c.args.desk.now in
    let s = c.args.shelf.now in
    let state = c.args.state.now in
    let len = c.write_frame.ensures.digest in
    IsDiskCall-weaker (told_weaker old (IsBeforeOrAfter s.gate (spelling state)) (SaysBeforeOrAfter s.owner state)
    (λ file image is p.
    before_or_after s.owner len s.gate state file image c.requires.room.short c.requires.room.sound
    (at_file old.reads (IsAtRest s.owner s.gate) file is c.requires.attached.at_rest) p))
    c.write_frame.ensures.call
