use Rattle.std.proofs.Common.{sym, subst, ℕ}
use Rattle.file_journal.specs.Files.{IsClosedAt}
use Rattle.file_journal.proofs.Times.{each_file}
use Rattle.bank_journal.specs.Bank.{IsAtRest}
use Rattle.bank_journal.proofs.Appending.{closed_at}
use Rattle.bank_journal.proofs.bank.write_record.Goals as goal

pub append-requires-clause-closed : goal.append-requires-clause-closed
append-requires-clause-closed g c =
    let bank = c.args.bank.now in
    each_file (g.D.Desk.state c.args.desk.now).reads (IsAtRest bank.digest bank.groups) (IsClosedAt c.gate_at-gate.result)
    (λ file is rests.
    subst (λ (n : ℕ). IsClosedAt n file) (sym c.gate_at-gate.ensures.place) (closed_at bank.digest c.gate_at-gate.ensures.digest bank.groups file rests))
    c.requires.attached.at_rest
