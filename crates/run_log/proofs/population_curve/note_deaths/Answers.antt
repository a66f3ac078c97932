use Rattle.std.proofs.Common.{rules, ◌≡◌, ◌∙◌, ◌++◌, List, ap, length, map, sym, ℕ}
use Rattle.std.specs.Prelude.{filter, not}
use Rattle.std.proofs.lemmas.List.{append-nil}
use Rattle.run_log.specs.Curve.{lives}
use Rattle.run_log.specs.declared.record.Record.TheVariants.{Death}
use Rattle.run_log.proofs.Numbers.{all-kept, none-left}
use Rattle.run_log.proofs.population_curve.note_deaths.Goals as goal

pub returns-then-died-eq0-clause-living : goal.returns-then-died-eq0-clause-living
returns-then-died-eq0-clause-living c =
    let none : length (filter (λ id. not (lives c.args.run.now id)) c.args.living.items) ≡ 0 = c.requires.died ∙ search rules in
    sym (all-kept (lives c.args.run.now) c.args.living.items none)

pub returns-then-died-eq0-clause-records : goal.returns-then-died-eq0-clause-records
returns-then-died-eq0-clause-records c =
    let none : length (filter (λ id. not (lives c.args.run.now id)) c.args.living.items) ≡ 0 = c.requires.died ∙ search rules in
    sym (append-nil c.args.log.now.records)
    ∙ ap (λ (l : List ℕ). c.args.log.now.records ++ map (λ id. Death c.args.quantum id) l) (sym (none-left (lives c.args.run.now) c.args.living.items none))
