use Rattle.std.proofs.Common.{◌≡◌, length, map}
use Rattle.soup_isles.specs.Runs.{setups_after, worlds_of}
use Rattle.soup_isles.proofs.epochs.run_isles.Given as goal

abbrev pub invariant-loop-migrations : goal.invariant-loop-migrations
invariant-loop-migrations g l =
    (l.setups ≡ setups_after l.setup l.isles l.quanta l.migrations)
    × (l.worlds ≡ worlds_of l.setups l.quanta)
    × (map (λ w. w.settings) l.worlds ≡ map (λ s. s.settings) l.setups)
    × (length l.setups ≡ l.isles)
