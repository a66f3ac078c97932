use Rattle.std.proofs.Common.{◌≤◌, [], ◌∷◌, length}
use Rattle.file_journal.specs.Files.{ClosesAfter, IsBeforeOrAfter, IsStaged, with_record}
use Rattle.file_journal.specs.Steps.{Becomes, IsWritten}
use Rattle.file_journal.proofs.Gates.{gate_torn, gate_written, staged_inside}
use Rattle.file_journal.proofs.Times.{becomes, each_file, on_ok, torn_have}
use Rattle.file_journal.proofs.appending.open_gate.Goals as goal

pub put-requires-clause-inside : goal.put-requires-clause-inside
put-requires-clause-inside g c =
    let gate = c.args.gate in
    each_file (g.D.Desk.state c.args.desk.now).reads (IsStaged gate c.args.room.now) (λ file. gate ≤ length file)
    (λ file is staged. staged_inside gate c.args.room.now file staged) c.requires.staged

pub returns-clause-opened : goal.returns-clause-opened
returns-clause-opened g c =
    let old = g.D.Desk.state c.args.desk.now in
    let new = g.D.Desk.state c.put.new.desk in
    let gate = c.args.gate in
    let piece = c.args.room.now in
    on_ok c.put.result (IsWritten old gate (1 ∷ []) new) (Becomes old new (λ file. ClosesAfter (with_record gate piece file)))
    (λ w.
    becomes old new gate (1 ∷ []) (IsStaged gate piece) (λ file. ClosesAfter (with_record gate piece file)) c.requires.staged
    (λ f staged. gate_written gate piece f staged) w) c.put.ensures.written

pub returns-clause-call : goal.returns-clause-call
returns-clause-call g c =
    let gate = c.args.gate in
    let piece = c.args.room.now in
    torn_have (g.D.Desk.state c.args.desk.now) (g.D.Desk.state c.put.new.desk) gate 1 (IsStaged gate piece)
    (IsBeforeOrAfter gate piece) (λ file image staged torn. gate_torn gate piece file image staged torn)
    c.requires.staged c.put.ensures.call
