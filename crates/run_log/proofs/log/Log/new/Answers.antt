use Rattle.std.proofs.Common.{subst, sym}
use Rattle.run_log.specs.Entries.{IsKept}
use Rattle.run_log.proofs.Entries.{kept-none}
use Rattle.run_log.proofs.log.Log.new.Goals as goal

pub invariant_of-result : goal.invariant_of-result
invariant_of-result c = subst (IsKept c.args.inoculated) (sym c.new.ensures.items) (kept-none c.args.inoculated c.requires)
