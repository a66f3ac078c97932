use Rattle.std.proofs.Common.{◌∙◌, ◌++◌, ap, inr, sym}
use Rattle.std.specs.Option.{option_copied}
use Rattle.soup_file.proofs.Members.{no_unknown, some_unknown}
use Rattle.soup_file.proofs.value.check_keys.Goals as goal

pub returns-in-None-clause-passed : goal.returns-in-None-clause-passed
returns-in-None-clause-passed c =
    no_unknown c.args.before.now c.args.known.now c.args.table.now.entries c.unknown_in.ensures.ordered
    (sym (ap option_copied c.in-None.is) ∙ c.unknown_in.ensures.first)

pub returns-in_ok-joined-in-Some-clause-fault : goal.returns-in_ok-joined-in-Some-clause-fault
returns-in_ok-joined-in-Some-clause-fault c =
    inr
    (some_unknown c.args.before.now c.in_ok-joined-in-Some.field-0 c.args.known.now c.args.table.now.entries c.in-Some.name.now c.unknown_in.ensures.ordered
    (sym (ap option_copied c.in-Some.is) ∙ c.unknown_in.ensures.first)
    (c.in_ok-joined-in-Some.ensures ∙ ap (λ name. c.args.before.now ++ name) c.as_str.ensures.value))
