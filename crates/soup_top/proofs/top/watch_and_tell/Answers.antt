use Rattle.std.proofs.Common.{rules, ◌≡◌, subst, sym, List, ℕ}
use Rattle.desk_io.specs.Desk.{Elapses}
use Rattle.soup_top.specs.declared.asking.Task.TheVariants as task
use Rattle.soup_top.specs.Tasks.{IsTellingFor}
use Rattle.soup_watch.specs.Watching.{IsWatchText}
use Rattle.soup_top.proofs.ToldMoments.{told_at_once}
use Rattle.soup_top.proofs.top.watch_and_tell.Given.{Over}
use Rattle.soup_top.proofs.top.watch_and_tell.Goals as goal
use Rattle.soup_top.proofs.top.watch_and_tell.Goals.{After-tell}

telling : (g : Over) (c : After-tell g) → Elapses (g.D.Desk.state c.args.desk.now) (g.D.Desk.state c.tell.new.self)
    (IsTellingFor (task.Watch c.args.setup c.args.quanta c.args.workers c.args.looks) (g.D.Desk.state c.args.desk.now))
telling g c =
    let told : c.deref.result.now ≡ c.in_ok-text.text = search rules in
    let is = subst (λ (text : List ℕ). IsWatchText c.args.setup c.args.quanta c.args.looks text) (sym told) c.in_ok-text.ensures in
    told_at_once (task.Watch c.args.setup c.args.quanta c.args.workers c.args.looks) (g.D.Desk.state c.args.desk.now)
    (g.D.Desk.state c.tell.new.self) c.deref.result.now c.tell.ensures.call.tells is

pub returns-in_err-tell-clause-telling : goal.returns-in_err-tell-clause-telling
returns-in_err-tell-clause-telling g c = telling g (goal.at.returns-in_err-tell-clause-telling g c).After-tell

pub returns-clause-telling : goal.returns-clause-telling
returns-clause-telling g c = telling g (goal.at.returns-clause-telling g c).After-tell
