use Rattle.std.proofs.Common.{rules, ◌≡◌, ◌∙◌, ◌+◌, ◌++◌, ◌∷◌, [], None, Option, Some, ℕ, ap, subst, sym, take}
use Rattle.tierra_model.specs.Individuals.{genotype_number}
use Rattle.tierra_model.specs.Sound.{times_coded}
use Rattle.world_state.specs.Reading.{genotype_of, genotypes_of}
use Rattle.world_state.proofs.EnteredAgain.{OnceCoded, coded-none, coded-twice, once-more, one-taken}
use Rattle.world_state.proofs.entering.genotypes_from.Goals as goal

not_both : (o : Option ℕ) (n : ℕ) → o ≡ None → o ≡ Some n → ⊥
not_both None n none some = absurd cc
not_both (Some k) n none some = absurd cc

pub returns-in-Some-clause-none : goal.returns-in-Some-clause-none
returns-in-Some-clause-none c =
    let x = c.found-item.result in
    let code = c.in_ok-code.code in
    coded-twice code c.args.stored.now c.loop-found.found-index x c.loop-found-test.true
    (ap (λ f. f.code) (sym c.found-item.is) ∙ sym c.in_ok-code.ensures)
    (λ e. (let none : c.number_of.result ≡ None = c.number_of.ensures.number ∙ ap (genotype_number code) c.loop-found.invariant.0 ∙ e in
    not_both c.number_of.result _ none c.in-Some.is))

pub loop-found-preserved : goal.loop-found-preserved
loop-found-preserved c =
    let x = c.found-item.result in
    let code = c.in_ok-code.code in
    let k = c.loop-found.found-index in
    let gs = genotypes_of (take k c.args.stored.now) in
    let more : genotypes_of (take (k + 1) c.args.stored.now) ≡ gs ++ genotype_of x ∷ [] =
    one-taken c.args.stored.now k x c.loop-found-test.true ∙ ap (λ f. gs ++ genotype_of f ∷ []) (sym c.found-item.is) in
    let none : c.number_of.result ≡ None = search rules in
    let absent : times_coded gs x.code ≡ 0 =
    ap (times_coded gs) (sym c.in_ok-code.ensures) ∙ coded-none code gs
    (ap (genotype_number code) (sym c.loop-found.invariant.0) ∙ sym c.number_of.ensures.number ∙ none) in (
      c.enter.ensures ∙ ap (λ l. l ++ genotype_of x ∷ []) (c.in_ok-reserve.ensures.same ∙ c.loop-found.invariant.0) ∙ sym more,
      subst OnceCoded (sym more) (once-more gs (genotype_of x) c.loop-found.invariant.1 absent),
    )
