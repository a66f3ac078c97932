use Rattle.std.proofs.Common.{◌≡◌, ◌∙◌, ◌+◌, ℕ, List, ap, arith, length, suc}
use Rattle.tierra_model.specs.Setups.{SetupFields}
use Rattle.soup_isles.specs.Isles.{next_setups}
use Rattle.soup_isles.specs.Runs.{setups_after, worlds_of}
use Rattle.soup_isles.proofs.Worlds.{next-many}
use Rattle.soup_isles.proofs.epochs.run_isles.Goals as goal

pub loop-migrations-init : goal.loop-migrations-init
unfolding setups_after
loop-migrations-init g c = (
  c.in_ok-setups.ensures.setups,
  c.in_ok-worlds.ensures.worlds,
  c.in_ok-worlds.ensures.settings,
  c.in_ok-setups.ensures.count,
)

pub loop-migrations-preserved : goal.loop-migrations-preserved
unfolding setups_after
loop-migrations-preserved g c =
    let setup : SetupFields = c.args.setup.now in
    let k : ℕ = c.loop-migrations.migrations in
    let before = c.loop-migrations.invariant in
    let worlds : c.loop-migrations.worlds ≡ worlds_of (setups_after setup c.args.isles c.args.quanta k) c.args.quanta
    = before.1 ∙ ap (λ (l : List SetupFields). worlds_of l c.args.quanta) before.0 in
    let seed : c.setup.inside.settings.seed ≡ setup.settings.seed = ap (λ (s : SetupFields). s.settings.seed) c.setup.view_is in
    let next : suc k ≡ k + 1 = omega arith in (
      c.in_ok-next_epoch.ensures.setups
          ∙ (λ i. next_setups (before.0 i) (worlds i) (seed i) (k + 2))
          ∙ ap (λ (n : ℕ). setups_after setup c.args.isles c.args.quanta n) next,
      c.in_ok-next_epoch.ensures.worlds,
      c.in_ok-next_epoch.ensures.settings,
      ap length c.in_ok-next_epoch.ensures.setups
          ∙ next-many c.loop-migrations.setups c.loop-migrations.worlds c.setup.inside.settings.seed (k + 2)
          ∙ before.3,
    )
