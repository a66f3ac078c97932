use Rattle.std.proofs.Common.{◌≡◌, ◌∙◌, ap, subst, List, ℕ, [], ◌∷◌, length, take}
use Rattle.file_journal.specs.Creating.{IsMade, IsMaking, LacksFirstByte}
use Rattle.file_journal.specs.Steps.{Becomes, IsWritten}
use Rattle.desk_io.specs.Desk.{IsDiskCall, Torn}
use Rattle.file_journal.specs.Steps.{IfTold}
use Rattle.file_journal.proofs.Making.{first, first_torn, first_written, header_first}
use Rattle.file_journal.proofs.Times.{becomes, on_ok, torn_have}
use Rattle.file_journal.proofs.creating.finish.Goals as goal

pub returns-clause-made : goal.returns-clause-made
returns-clause-made g c =
    let old = g.D.Desk.state c.args.desk.now in
    let new = g.D.Desk.state c.put.new.desk in
    let h = c.args.header.now in
    let len = c.parts_len.ensures.title in
    let piece : c.first.result.now ≡ first h len ∷ [] = c.first.ensures ∙ ap (take 1) c.requires.bytes ∙ header_first h len in
    on_ok c.put.result (IsWritten old 0 c.first.result.now new) (Becomes old new (λ file. IsMade h))
    (λ w.
    becomes old new 0 (first h len ∷ []) (LacksFirstByte h) (λ file. IsMade h) c.requires.ready (first_written h len)
    (subst (λ (p : List ℕ). IsWritten old 0 p new) piece w)) c.put.ensures.written

pub returns-clause-call : goal.returns-clause-call
returns-clause-call g c =
    let old = g.D.Desk.state c.args.desk.now in
    let new = g.D.Desk.state c.put.new.desk in
    let h = c.args.header.now in
    let len = c.parts_len.ensures.title in
    let piece : c.first.result.now ≡ first h len ∷ [] = c.first.ensures ∙ ap (take 1) c.requires.bytes ∙ header_first h len in
    torn_have old new 0 1 (LacksFirstByte h) (λ file. IsMaking h) (first_torn h len) c.requires.ready
    (subst (λ (p : List ℕ). IsDiskCall old new c.put.result (IfTold old (Torn 0 (length p)))) piece c.put.ensures.call)
