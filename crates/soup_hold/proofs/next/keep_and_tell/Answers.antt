use Rattle.std.proofs.Common.{rules, ◌≡◌, refl, sym, subst, List, ℕ, Option}
use Rattle.std.specs.Prelude.{IfSome}
use Rattle.std.proofs.lemmas.Result.{err_from_is_err_and}
use Rattle.desk_io.specs.Desk.{AppendedSome, Elapses, Tells}
use Rattle.soup_hold.specs.Steps.{IsHoldingNext}
use Rattle.soup_hold.specs.Text.{held_line}
use Rattle.soup_hold.proofs.Appending.{appended_and_telling, appending}
use Rattle.desk_io.proofs.Telling.{as_told, none_told}
use Rattle.soup_hold.proofs.next.keep_and_tell.Given.{Over}
use Rattle.soup_hold.proofs.next.keep_and_tell.Goals as goal
use Rattle.soup_hold.proofs.next.keep_and_tell.Goals.{After-keep_state, After-tell}

kept : (g : Over) (c : After-keep_state g) → IfSome (g.D.Desk.state c.args.desk.now).reads
    (λ file. Elapses (g.D.Desk.state c.args.desk.now) (g.D.Desk.state c.keep_state.new.desk)
    (IsHoldingNext c.args.shelf.owner file c.args.world.now.world (held_line c.args.world.now.world.quanta) (g.D.Desk.state c.args.desk.now).told))
kept g c =
    appending c.args.shelf.owner c.args.world.now.world (held_line c.args.world.now.world.quanta) (g.D.Desk.state c.args.desk.now)
    (g.D.Desk.state c.keep_state.new.desk) c.keep_state.ensures.moments

told : (g : Over) (c : After-tell g) → IfSome (g.D.Desk.state c.args.desk.now).reads
    (λ file. Elapses (g.D.Desk.state c.args.desk.now) (g.D.Desk.state c.tell.new.self)
    (IsHoldingNext c.args.shelf.owner file c.args.world.now.world (held_line c.args.world.now.world.quanta) (g.D.Desk.state c.args.desk.now).told))
told g c =
    let line = held_line c.args.world.now.world.quanta in
    let old = g.D.Desk.state c.args.desk.now in
    let mid = g.D.Desk.state c.keep_state.new.desk in
    let new = g.D.Desk.state c.tell.new.self in
    let text : c.deref.result.now ≡ line = search rules in
    let tells = subst (λ (l : List ℕ). Tells mid new l c.tell.result) text c.tell.ensures.call.tells in
    let first = appending c.args.shelf.owner c.args.world.now.world line old mid c.keep_state.ensures.moments in
    appended_and_telling c.args.shelf.owner c.args.world.now.world line c.args.shelf c.in_ok-shelf.shelf old mid new refl first
    c.in_ok-shelf.ensures.held c.keep_state.ensures.moments.told tells

pub returns-in_err-shelf-clause-moments : goal.returns-in_err-shelf-clause-moments
returns-in_err-shelf-clause-moments g c = kept g (goal.at.returns-in_err-shelf-clause-moments g c).After-keep_state

pub returns-in_err-line-clause-moments : goal.returns-in_err-line-clause-moments
returns-in_err-line-clause-moments g c = kept g (goal.at.returns-in_err-line-clause-moments g c).After-keep_state

pub returns-in_err-line-clause-told : goal.returns-in_err-line-clause-told
returns-in_err-line-clause-told g c =
    let before = (g.D.Desk.state c.args.desk.now).told in
    let line = held_line c.args.world.now.world.quanta in
    let stop = err_from_is_err_and c.from_residual-in_err-line.result c.from_residual-in_err-line.ensures.1 in
    let part = as_told (none_told line before) in
    rw stop.1 (record {
      all = tt;
      partly = subst (λ (now : Option (List ℕ)). AppendedSome before line now) (sym c.keep_state.ensures.moments.told) part;
    })

pub returns-in_err-tell-clause-moments : goal.returns-in_err-tell-clause-moments
returns-in_err-tell-clause-moments g c = told g (goal.at.returns-in_err-tell-clause-moments g c).After-tell

pub returns-clause-moments : goal.returns-clause-moments
returns-clause-moments g c = told g (goal.at.returns-clause-moments g c).After-tell
