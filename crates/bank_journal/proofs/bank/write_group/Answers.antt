use Rattle.std.proofs.Common.{◌++◌, ◌∷◌, []}
use Rattle.bank_format.specs.Spelling.{spelling}
use Rattle.file_journal.specs.Files.{ClosesAfter, IsBeforeOrAfter, with_record}
use Rattle.file_journal.specs.Steps.{Becomes}
use Rattle.file_journal.proofs.Times.{Becomes-given, IsDiskCall-weaker, at_file, on_ok, told_weaker}
use Rattle.bank_journal.specs.Bank.{HasBeforeOrAfter, IsAtRest, gate_place}
use Rattle.bank_journal.proofs.Appending.{before_or_after, rests_after}
use Rattle.bank_journal.proofs.bank.write_group.Goals as goal

pub returns-clause-at_rest : goal.returns-clause-at_rest
returns-clause-at_rest g c =
    let old = g.D.Desk.state c.args.desk.now in
    let new = g.D.Desk.state c.write_record.new.desk in
    let bank = c.args.bank.now in
    let group = c.args.group.now in
    let gate = gate_place bank.groups in
    on_ok c.write_record.result (Becomes old new (λ file. ClosesAfter (with_record gate (spelling group) file)))
    (Becomes old new (λ file. IsAtRest bank.digest (bank.groups ++ group ∷ [])))
    (Becomes-given old new (IsAtRest bank.digest bank.groups) (λ file. ClosesAfter (with_record gate (spelling group) file))
    (λ file. IsAtRest bank.digest (bank.groups ++ group ∷ []))
    (λ file now rests closes. rests_after bank.digest c.write_record.ensures.digest bank.groups group c.requires.room.spellable file now rests closes)
    c.requires.attached.at_rest)
    c.write_record.ensures.appended

pub returns-clause-call : goal.returns-clause-call
returns-clause-call g c =
    let old = g.D.Desk.state c.args.desk.now in
    let bank = c.args.bank.now in
    let group = c.args.group.now in
    IsDiskCall-weaker (told_weaker old (IsBeforeOrAfter (gate_place bank.groups) (spelling group)) (λ file. HasBeforeOrAfter bank.digest bank.groups group)
    (λ file image is p.
    before_or_after bank.digest c.write_record.ensures.digest bank.groups group c.requires.room.spellable file image
    (at_file old.reads (IsAtRest bank.digest bank.groups) file is c.requires.attached.at_rest) p))
    c.write_record.ensures.call
