use Rattle.std.proofs.Common.{◌+◌, ◌≤◌, [], ◌∷◌, ◌++◌, subst, List, ℕ, length, take}
use Rattle.file_journal.specs.Files.{ClosesAfter, IsClosedAt, Stages}
use Rattle.file_journal.specs.Steps.{Becomes, IsWritten}
use Rattle.file_journal.proofs.Gates.{behind_inside, stage_torn, stage_written}
use Rattle.file_journal.proofs.Times.{becomes, each_file, on_ok, torn_have}
use Rattle.file_journal.proofs.appending.stage.Goals as goal

pub put-requires-clause-inside : goal.put-requires-clause-inside
put-requires-clause-inside g c =
    let gate = c.args.gate in
    each_file (g.D.Desk.state c.args.desk.now).reads (IsClosedAt gate) (λ file. gate + 1 ≤ length file)
    (λ file is closed. behind_inside gate file closed) c.requires.closed

pub returns-clause-staged : goal.returns-clause-staged
returns-clause-staged g c =
    let old = g.D.Desk.state c.args.desk.now in
    let new = g.D.Desk.state c.put.new.desk in
    let gate = c.args.gate in
    let record_is = c.args.room.now in
    on_ok c.put.result (IsWritten old (gate + 1) c.bytes.result.now new) (Becomes old new (Stages gate record_is))
    (λ w.
    becomes old new (gate + 1) (record_is ++ 0 ∷ []) (IsClosedAt gate) (Stages gate record_is) c.requires.closed
    (λ f closed. stage_written gate record_is f closed)
    (subst (λ (p : List ℕ). IsWritten old (gate + 1) p new) c.bytes.ensures w)) c.put.ensures.written

pub returns-clause-call : goal.returns-clause-call
returns-clause-call g c =
    let gate = c.args.gate in
    let n = length c.bytes.result.now in
    torn_have (g.D.Desk.state c.args.desk.now) (g.D.Desk.state c.put.new.desk) (gate + 1) n (IsClosedAt gate)
    (λ file. ClosesAfter (take gate file)) (λ file image closed torn. stage_torn gate n file image closed torn)
    c.requires.closed c.put.ensures.call
