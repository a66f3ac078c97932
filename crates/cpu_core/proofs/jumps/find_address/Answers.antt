use Rattle.cpu_core.proofs.Sought.{errs_if_no_match, errs_if_short, goes}
use Rattle.cpu_core.proofs.jumps.find_address.Goals as goal

pub returns-in-At-clause-executes : goal.returns-in-At-clause-executes
returns-in-At-clause-executes g c = goes _ _ _ c.args.settings.now _ _ _ _ _ _ _ _ c.take_address.ensures.creature c.in-At.ensures.passes

pub returns-in-Short-clause-executes : goal.returns-in-Short-clause-executes
returns-in-Short-clause-executes g c =
    errs_if_short _ _ _ c.args.settings.now _ _ _ _ _ _ _ _ c.fail.ensures.creature c.fail.ensures.act c.in-Short.ensures.passes

pub returns-in-NoMatch-clause-executes : goal.returns-in-NoMatch-clause-executes
returns-in-NoMatch-clause-executes g c =
    errs_if_no_match _ _ _ c.args.settings.now _ _ _ _ _ _ _ _ c.fail-in-NoMatch.ensures.creature c.fail-in-NoMatch.ensures.act c.in-NoMatch.ensures.passes
