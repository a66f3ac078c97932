use Rattle.cpu_core.proofs.Sought.{errs_if_no_match, errs_if_short, goes}
use Rattle.cpu_core.proofs.jumps.call.Goals as goal

pub returns-in-At : goal.returns-in-At
returns-in-At g c = goes _ _ _ c.args.settings.now _ _ _ _ _ _ _ _ c.enter.ensures c.in-At.ensures.passes

pub returns-in-Short : goal.returns-in-Short
returns-in-Short g c = errs_if_short _ _ _ c.args.settings.now _ _ _ _ _ _ _ _ c.fail.ensures.creature c.fail.ensures.act c.in-Short.ensures.passes

pub returns-in-NoMatch : goal.returns-in-NoMatch
returns-in-NoMatch g c =
    errs_if_no_match _ _ _ c.args.settings.now _ _ _ _ _ _ _ _ c.fail-in-NoMatch.ensures.creature c.fail-in-NoMatch.ensures.act c.in-NoMatch.ensures.passes
