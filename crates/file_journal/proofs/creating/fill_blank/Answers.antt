use Rattle.std.proofs.Common.{◌≡◌, ◌∙◌, ap, subst, List, ℕ, drop}
use Rattle.file_journal.specs.Creating.{IsBlank, LacksFirstByte}
use Rattle.file_journal.specs.Steps.{Becomes, IsWritten}
use Rattle.file_journal.proofs.Making.{behind_first, blank_written, header_behind_first}
use Rattle.file_journal.proofs.Times.{becomes, on_ok}
use Rattle.file_journal.proofs.creating.fill_blank.Goals as goal

pub returns-clause-ready : goal.returns-clause-ready
returns-clause-ready g c =
    let old = g.D.Desk.state c.args.desk.now in
    let new = g.D.Desk.state c.put.new.desk in
    let h = c.args.header.now in
    let len = c.parts_len.ensures.title in
    let piece : c.after.result.now ≡ behind_first h len = c.after.ensures ∙ ap (drop 1) c.requires.bytes ∙ header_behind_first h len in
    on_ok c.put.result (IsWritten old 1 c.after.result.now new) (Becomes old new (λ file. LacksFirstByte h))
    (λ w.
    becomes old new 1 (behind_first h len) IsBlank (λ file. LacksFirstByte h) c.requires.blank
    (λ f blank. blank_written h len f c.requires.title blank)
    (subst (λ (p : List ℕ). IsWritten old 1 p new) piece w)) c.put.ensures.written
