use Rattle.std.proofs.Common.{◌≡◌, ◌≤◌, ◌∙◌, ap, subst, List, ℕ, drop, length}
use Rattle.file_journal.specs.Creating.{LacksFirstByte}
use Rattle.file_journal.specs.Files.{IsBegun, IsFresh}
use Rattle.file_journal.specs.Steps.{Becomes, IsWritten}
use Rattle.file_journal.proofs.Making.{begun_torn, begun_written, behind_title, header_behind_title}
use Rattle.file_journal.proofs.Times.{becomes, on_ok, torn_have}
use Rattle.file_journal.proofs.creating.fill_begun.Goals as goal

abbrev IsLong : List ℕ → List ℕ → Type 0
IsLong title file = IsBegun title file × (45 ≤ length file)

pub returns-clause-ready : goal.returns-clause-ready
returns-clause-ready g c =
    let old = g.D.Desk.state c.args.desk.now in
    let new = g.D.Desk.state c.put.new.desk in
    let h = c.args.header.now in
    let len = c.parts_len.ensures.title in
    let piece : c.after.result.now ≡ behind_title h len = c.after.ensures ∙ ap (drop 12) c.requires.bytes ∙ header_behind_title h len in
    on_ok c.put.result (IsWritten old 12 c.after.result.now new) (Becomes old new (λ file. LacksFirstByte h))
    (λ w.
    becomes old new 12 (behind_title h len) (IsLong h.title) (λ file. LacksFirstByte h) c.requires.begun
    (λ f p. begun_written h len f p.0 p.1)
    (subst (λ (p : List ℕ). IsWritten old 12 p new) piece w)) c.put.ensures.written

pub returns-clause-call : goal.returns-clause-call
returns-clause-call g c =
    let h = c.args.header.now in
    let n = length c.after.result.now in
    torn_have (g.D.Desk.state c.args.desk.now) (g.D.Desk.state c.put.new.desk) 12 n (IsLong h.title)
    (λ file image. IsFresh h.title image)
    (λ file image p torn. begun_torn h.title file image n c.parts_len.ensures.title p.0 p.1 torn)
    c.requires.begun c.put.ensures.call
