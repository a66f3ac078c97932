-- What an instruction does after its search.
use Rattle.std.proofs.Common.{◌≡◌, ℕ, ◌∙◌, ap, refl, sym}
use Rattle.tierra_model.specs.declared.creatures.Creature.{Creature}
use Rattle.tierra_model.specs.declared.events.Act.{Act}
use Rattle.tierra_model.specs.declared.events.Act.TheVariants as act
use Rattle.tierra_model.specs.declared.parameters.Settings.{Settings}
use Rattle.tierra_model.specs.declared.searching.Found.{Found}
use Rattle.tierra_model.specs.declared.searching.Found.TheVariants as found
use Rattle.tierra_model.specs.declared.searching.Way.{Way}
use Rattle.tierra_model.specs.Look.{Passes, pass}
use Rattle.tierra_model.specs.Step.{Outcome, to_found}
use Rattle.template_search.proofs.Passing.{passes-bind}
use Rattle.cpu_core.specs.Executing.{Executes, after_act, creature_after}
use Rattle.cpu_core.specs.Searching.{search_by, search_outcome}

module _ {S : Type 0} (cells : S → ℕ → ℕ) (looked : S → ℕ → S) (written : S → ℕ → ℕ → S) (s : Settings) (ip : ℕ) (way : Way) (c : Creature) (go : ℕ → Creature)
    (v u : S) where
  after : (f : Found) (d e : Creature) (a b : Act) → after_act written (pass cells looked (to_found c go f) u) ≡ (u, (e, b)) → d ≡ e → a ≡ b
      → Passes cells looked (search_by s ip way) v u f → Executes cells looked written (search_outcome s ip way c go) v u d a
  after f d e a b t k l p =
      ap (λ (r : S × Outcome). after_act written r) (passes-bind cells looked (search_by s ip way) (to_found c go) v u f p)
      ∙ t ∙ (λ i. (u, (sym k i, sym l i)))

  pub goes : (p : ℕ) (d : Creature) → d ≡ go p → Passes cells looked (search_by s ip way) v u (found.At p)
      → Executes cells looked written (search_outcome s ip way c go) v u d act.Plain
  goes p d e t = after (found.At p) d (go p) act.Plain act.Plain refl e refl t

  pub errs_if_short : (d : Creature) (a : Act) → d ≡ creature_after act.Erred c → a ≡ act.Erred
      → Passes cells looked (search_by s ip way) v u found.Short → Executes cells looked written (search_outcome s ip way c go) v u d a
  errs_if_short d a e f t = after found.Short d (creature_after act.Erred c) a act.Erred refl e f t

  pub errs_if_no_match : (d : Creature) (a : Act) → d ≡ creature_after act.Erred c → a ≡ act.Erred
      → Passes cells looked (search_by s ip way) v u found.NoMatch → Executes cells looked written (search_outcome s ip way c go) v u d a
  errs_if_no_match d a e f t = after found.NoMatch d (creature_after act.Erred c) a act.Erred refl e f t
