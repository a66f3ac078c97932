use Rattle.std.proofs.Common.{◌≡◌, ℕ, ◌∙◌, ap, subst, sym}
use Rattle.tierra_model.specs.Setups.{IsSetup}
use Rattle.commit_book.specs.Alone.{WorksOn, ran_on}
use Rattle.commit_book.specs.Book.{BookFields}
use Rattle.commit_book.specs.Kept.{IsBook}
use Rattle.commit_book.specs.contracts.book.Book.{the_view}
use Rattle.commit_book.proofs.InPlace.{can-run, state_of}
use Rattle.commit_book.proofs.ShownLemmas.{nothing-shown}
use Rattle.commit_book.proofs.book.Book.run_in_place.Goals as goal

pub run_world-requires : goal.run_world-requires
run_world-requires g c =
    let setup : IsSetup (the_view c.self.inside).setup = subst IsSetup c.deref.ensures c.is_setup.ensures in (
      c.args.self,
      can-run c.args.kept c.args.last c.args.self (the_view c.self.inside) c.self.inside.world.world c.self.view_is setup
          c.self.invariant.book c.requires.within c.requires.none,
    )

pub invariant_of-result : goal.invariant_of-result
invariant_of-result g c =
    let b : BookFields = c.args.self in
    let v : BookFields = the_view c.self.inside in
    let h = c.run_world.new.history in
    let setup : IsSetup v.setup = subst IsSetup c.deref.ensures c.is_setup.ensures in
    let can = can-run c.args.kept c.args.last b v c.self.inside.world.world c.self.view_is setup c.self.invariant.book c.requires.within c.requires.none in
    let left : BookFields = record v { committed = c.len-committed.result; handed = c.max.result; history = h } in
    let same : left ≡ ran_on b h =
    (λ j. record v { committed = c.len-committed.result; handed = c.max.ensures j; history = h })
    ∙ ap (λ (n : ℕ). state_of v n h) c.len-committed.ensures
    ∙ ap (λ (x : BookFields). ran_on x h) c.self.view_is in
    let w = c.in_ok-world.world.world in
    record {
      book = subst (λ (x : BookFields). IsBook x w) (sym same) (c.in_ok-world.ensures.book b can);
      shown = nothing-shown c.nothing.result w c.nothing.ensures;
    }

pub returns : goal.returns
returns g c =
    let b : BookFields = c.args.self in
    let v : BookFields = the_view c.self.inside in
    let h = c.run_world.new.history in
    let setup : IsSetup v.setup = subst IsSetup c.deref.ensures c.is_setup.ensures in
    let can = can-run c.args.kept c.args.last b v c.self.inside.world.world c.self.view_is setup c.self.invariant.book c.requires.within c.requires.none in
    let left : BookFields = record v { committed = c.len-committed.result; handed = c.max.result; history = h } in
    let same : left ≡ ran_on b h =
    (λ j. record v { committed = c.len-committed.result; handed = c.max.ensures j; history = h })
    ∙ ap (λ (n : ℕ). state_of v n h) c.len-committed.ensures
    ∙ ap (λ (x : BookFields). ran_on x h) c.self.view_is in
    subst (λ (y : BookFields). WorksOn c.args.kept c.args.last b y c.args.steps.now c.run_world.new.steps) (sym same)
    (c.in_ok-world.ensures.works b can)
