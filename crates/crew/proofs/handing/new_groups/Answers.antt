use Rattle.std.proofs.Common.{◌≡◌, subst, arith, List, drop, IfOk}
use Rattle.std.proofs.lemmas.Result.{IfOk-weaker}
use Rattle.tierra_model.specs.Groups.{GroupFields}
use Rattle.tierra_model.proofs.BankIsGroups.{bank_is_groups}
use Rattle.crew.specs.Hand.{AreNext, run_bank}
use Rattle.crew.proofs.Banks.{are_next}
use Rattle.crew.proofs.handing.new_groups.Goals as goal
use Rattle.crew.proofs.handing.new_groups.Goals.{After-groups_from}

as_in_bank : (c : After-groups_from) → IfOk c.groups_from.result (λ g. g ≡ drop c.args.done (run_bank c.args.book.now.setup c.args.book.now.committed))
as_in_bank c =
    let book = c.args.book.now in
    let run = c.is_run.ensures in
    subst (λ (groups : List GroupFields). IfOk c.groups_from.result (λ g. g ≡ drop c.args.done groups))
    (bank_is_groups book.setup book.committed run.setup (omega (arith, run.committed, run.few))) c.groups_from.ensures

pub returns-clause-groups : goal.returns-clause-groups
returns-clause-groups c = as_in_bank c

pub returns-clause-next : goal.returns-clause-next
returns-clause-next c =
    let book = c.args.book.now in
    IfOk-weaker c.groups_from.result _ (AreNext book.setup book.quanta c.args.done)
    (λ groups is. are_next book.setup book.committed book.quanta c.args.done groups c.is_run.ensures.committed is) (as_in_bank c)
