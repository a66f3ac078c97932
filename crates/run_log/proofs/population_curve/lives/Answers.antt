use Rattle.std.proofs.Common.{◌≡◌, ◌∙◌, ℕ, List, [], ◌∷◌, ap, refl, arith, Option, Some, None, Bor}
use Rattle.std.specs.Prelude.{find, is_some, nat_lt, option_copied, ◌==◌}
use Rattle.std.proofs.lemmas.Bool.Decides.{nat_tests}
use Rattle.tierra_model.specs.declared.creatures.Creature.{Creature}
use Rattle.tierra_model.specs.Counting.{times_in}
use Rattle.tierra_model.specs.Living.{ids_of}
use Rattle.run_log.proofs.population_curve.lives.Goals as goal

-- who is found is counted
found : (living : List Creature) (id : ℕ) → is_some (find (λ c. c.id == id) living) ≡ nat_lt 0 (times_in (ids_of living) id)
found [] id = refl
found (x ∷ xs) id = grind (arith, nat_tests, found xs id)

copied : {X : Type 0} (o : Option (Bor X)) → is_some o ≡ is_some (option_copied o)
copied None = refl
copied (Some x) = refl

pub returns : goal.returns
returns c =
    c.is_some.ensures ∙ copied c.creature.result ∙ ap is_some c.creature.ensures ∙ found c.args.run.now.living c.args.id
