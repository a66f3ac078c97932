use Rattle.std.proofs.Common.{◌≡◌, ◌++◌, drop, map}
use Rattle.soup_isles.specs.Runs.{worlds_of}
use Rattle.soup_isles.proofs.epochs.add_each.Given as goal

abbrev pub invariant-loop-setup : goal.invariant-loop-setup
invariant-loop-setup l =
    map (λ w. w.world) l.all.items ++ worlds_of (drop l.setup-index l.setups) l.quanta
    ≡ map (λ w. w.world) l.fn.all.items ++ worlds_of l.setups l.quanta
