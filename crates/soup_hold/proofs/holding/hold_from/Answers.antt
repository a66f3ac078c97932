use Rattle.std.proofs.Common.{rules, ◌≡◌, ◌∙◌, ◌++◌, [], append-nil, arith, length, refl, sym, subst, take, All, List, ℕ}
use Rattle.std.specs.Prelude.{IfSome}
use Rattle.std.proofs.lemmas.List.{take_all}
use Rattle.std.proofs.lemmas.Result.{err_from_is_err_and}
use Rattle.desk_io.specs.Desk.{Appended, AppendedSome, Elapses}
use Rattle.soup_checkpoint.specs.Shelf.{SaysSame}
use Rattle.soup_hold.specs.Holding.{IsHolding, IsSmall}
use Rattle.soup_hold.specs.Text.{held_lines, held_quanta, hold_text, last_report, world_at}
use Rattle.soup_hold.proofs.Stopping.{unless_telling}
use Rattle.desk_io.proofs.Telling.{all_told, as_told, lines_alone, none_told, piece_begun, piece_told}
use Rattle.soup_hold.proofs.Whole.{all_lines, is_last, last_report_is, lines_time, report_has_bytes, report_time}
use Rattle.soup_hold.proofs.holding.hold_from.Given.{Over}
use Rattle.soup_hold.proofs.holding.hold_from.Goals as goal
use Rattle.soup_hold.proofs.holding.hold_from.Goals.{After-tell}

text_is : (g : Over) (c : After-tell g) → c.deref.result.now ≡ last_report c.args.world.world c.args.quanta
text_is g c =
    let text : c.deref.result.now ≡ c.in_ok-text.text = search rules in
    text ∙ last_report_is c.args.world.world c.in_ok-world.world.world c.args.quanta c.in_ok-text.text c.in_ok-text.ensures.text c.in_ok-world.ensures.last

reported : (g : Over) (c : After-tell g) → IfSome (g.D.Desk.state c.args.desk.now).reads
    (λ file. Elapses (g.D.Desk.state c.args.desk.now) (g.D.Desk.state c.tell.new.self)
    (IsHolding c.args.shelf.owner (SaysSame c.args.shelf.owner file) c.args.world.world
    (held_quanta c.args.every c.args.world.world.quanta c.args.quanta) (hold_text c.args.world.world c.args.quanta c.args.every)
    (g.D.Desk.state c.args.desk.now).told))
reported g c =
    let quanta = held_quanta c.args.every c.args.world.world.quanta c.args.quanta in
    let before = (g.D.Desk.state c.args.desk.now).told in
    let time = report_time c.args.shelf.owner c.args.world.world quanta (g.D.Desk.state c.tell.new.self) c.deref.result.now
    c.in_ok-world.ensures.held.1 c.tell.ensures.call.tells in
    subst (λ (l : List ℕ). IfSome (g.D.Desk.state c.args.desk.now).reads
    (λ file. Elapses (g.D.Desk.state c.args.desk.now) (g.D.Desk.state c.tell.new.self)
    (IsHolding c.args.shelf.owner (SaysSame c.args.shelf.owner file) c.args.world.world quanta (held_lines quanta ++ l) before))) (text_is g c) time

-- all lines were told before the report
lines : (g : Over) (c : After-tell g) → Appended (g.D.Desk.state c.args.desk.now).told
    (held_lines (held_quanta c.args.every c.args.world.world.quanta c.args.quanta)) (g.D.Desk.state c.hold_each.new.desk).told
lines g c =
    all_lines c.args.shelf.owner c.args.world.world (held_quanta c.args.every c.args.world.world.quanta c.args.quanta)
    (g.D.Desk.state c.args.desk.now).told (g.D.Desk.state c.hold_each.new.desk).told c.in_ok-world.ensures.held.1.told

pub returns-in_err-world-clause-told : goal.returns-in_err-world-clause-told
returns-in_err-world-clause-told g c =
    let front = held_lines (held_quanta c.args.every c.args.world.world.quanta c.args.quanta) in
    let report = last_report c.args.world.world c.args.quanta in
    let before = (g.D.Desk.state c.args.desk.now).told in
    let stop = err_from_is_err_and c.from_residual.result c.from_residual.ensures.1 in
    rw stop.1 (record { all = tt; partly = piece_begun front report refl (none_told (front ++ report) before) c.in_err-world.ensures.stopped.partly })

pub returns-in_err-world-clause-moments : goal.returns-in_err-world-clause-moments
returns-in_err-world-clause-moments g c =
    lines_time c.args.shelf.owner c.args.world.world (held_quanta c.args.every c.args.world.world.quanta c.args.quanta)
    (last_report c.args.world.world c.args.quanta) (g.D.Desk.state c.args.desk.now) (g.D.Desk.state c.hold_each.new.desk)
    c.in_err-world.ensures.stopped.time

pub returns-in_err-text-clause-moments : goal.returns-in_err-text-clause-moments
returns-in_err-text-clause-moments g c =
    lines_time c.args.shelf.owner c.args.world.world (held_quanta c.args.every c.args.world.world.quanta c.args.quanta)
    (last_report c.args.world.world c.args.quanta) (g.D.Desk.state c.args.desk.now) (g.D.Desk.state c.hold_each.new.desk)
    c.in_ok-world.ensures.held.1.time

pub returns-in_err-world-clause-unfinished : goal.returns-in_err-world-clause-unfinished
returns-in_err-world-clause-unfinished g c =
    let front = held_lines (held_quanta c.args.every c.args.world.world.quanta c.args.quanta) in
    let report = last_report c.args.world.world c.args.quanta in
    let stop = err_from_is_err_and c.from_residual.result c.from_residual.ensures.1 in
    let less = lines_alone (g.D.Desk.state c.args.desk.now).told (g.D.Desk.state c.hold_each.new.desk).told front report
    (report_has_bytes c.args.world.world c.args.quanta) c.in_err-world.ensures.stopped.partly in
    rw stop.1 (unless_telling stop.0 _ less)

pub returns-in_err-text-clause-unfinished : goal.returns-in_err-text-clause-unfinished
returns-in_err-text-clause-unfinished g c =
    let quanta = held_quanta c.args.every c.args.world.world.quanta c.args.quanta in
    let front = held_lines quanta in
    let report = last_report c.args.world.world c.args.quanta in
    let before = (g.D.Desk.state c.args.desk.now).told in
    let now = (g.D.Desk.state c.hold_each.new.desk).told in
    let told = all_lines c.args.shelf.owner c.args.world.world quanta before now c.in_ok-world.ensures.held.1.told in
    let stop = err_from_is_err_and c.from_residual-in_err-text.result c.from_residual-in_err-text.ensures.1 in
    let less = lines_alone before now front report (report_has_bytes c.args.world.world c.args.quanta)
    (as_told (piece_told front [] (sym (append-nil front)) (none_told front before) told)) in
    rw stop.1 (unless_telling stop.0 _ less)

pub returns-in_err-text-clause-told : goal.returns-in_err-text-clause-told
returns-in_err-text-clause-told g c =
    let quanta = held_quanta c.args.every c.args.world.world.quanta c.args.quanta in
    let report = last_report c.args.world.world c.args.quanta in
    let before = (g.D.Desk.state c.args.desk.now).told in
    let now = (g.D.Desk.state c.hold_each.new.desk).told in
    let told = all_lines c.args.shelf.owner c.args.world.world quanta before now c.in_ok-world.ensures.held.1.told in
    let stop = err_from_is_err_and c.from_residual-in_err-text.result c.from_residual-in_err-text.ensures.1 in
    rw stop.1 (record { all = tt; partly = as_told (piece_told (held_lines quanta) report refl (none_told (held_lines quanta ++ report) before) told) })

pub returns-in_err-tell-clause-told : goal.returns-in_err-tell-clause-told
returns-in_err-tell-clause-told g c =
    let at = (goal.at.returns-in_err-tell-clause-told g c).After-tell in
    let front = held_lines (held_quanta c.args.every c.args.world.world.quanta c.args.quanta) in
    let report = last_report c.args.world.world c.args.quanta in
    let before = (g.D.Desk.state c.args.desk.now).told in
    let mid = (g.D.Desk.state c.hold_each.new.desk).told in
    let now = (g.D.Desk.state c.tell.new.self).told in
    let kept = piece_told front report refl (none_told (front ++ report) before) (lines g at) in
    let part = subst (λ (l : List ℕ). AppendedSome mid l now) (text_is g at) c.in_err-tell.ensures.call.tells.text.partly in
    let stop = err_from_is_err_and c.from_residual-in_err-tell.result c.from_residual-in_err-tell.ensures.1 in
    rw stop.1 (record { all = tt; partly = piece_begun report [] (sym (append-nil report)) kept part })

pub returns-in_err-tell-clause-moments : goal.returns-in_err-tell-clause-moments
returns-in_err-tell-clause-moments g c = reported g (goal.at.returns-in_err-tell-clause-moments g c).After-tell

pub returns-clause-told : goal.returns-clause-told
returns-clause-told g c =
    let at = (goal.at.returns-clause-told g c).After-tell in
    let front = held_lines (held_quanta c.args.every c.args.world.world.quanta c.args.quanta) in
    let report = last_report c.args.world.world c.args.quanta in
    let before = (g.D.Desk.state c.args.desk.now).told in
    let mid = (g.D.Desk.state c.hold_each.new.desk).told in
    let now = (g.D.Desk.state c.tell.new.self).told in
    let kept = piece_told front report refl (none_told (front ++ report) before) (lines g at) in
    let all = subst (λ (l : List ℕ). Appended mid l now) (text_is g at) c.in_ok-tell.ensures.call.tells.text.all in
    record { all = all_told (front ++ report) before now (piece_told report [] (sym (append-nil report)) kept all); partly = tt }

pub returns-clause-moments : goal.returns-clause-moments
returns-clause-moments g c = reported g (goal.at.returns-clause-moments g c).After-tell

pub returns-clause-last : goal.returns-clause-last
returns-clause-last g c =
    is_last c.args.shelf.owner c.args.world.world (held_quanta c.args.every c.args.world.world.quanta c.args.quanta)
    (g.D.Desk.state c.tell.new.self) c.deref.result.now c.in_ok-world.ensures.held.1 c.tell.ensures.call.tells

pub returns-clause-small : goal.returns-clause-small
returns-clause-small g c =
    let quanta = held_quanta c.args.every c.args.world.world.quanta c.args.quanta in
    let all : take (length quanta) quanta ≡ quanta = take_all (length quanta) quanta (omega arith) in
    subst (λ (qs : List ℕ). All (λ q. IsSmall (world_at c.args.world.world q)) qs) all c.in_ok-world.ensures.held.1.small
