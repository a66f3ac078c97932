use Rattle.std.proofs.Common.{List, Some, ℕ}
use Rattle.bank_journal.proofs.Times.{each_file}
use Rattle.desk_io.specs.Desk.{Elapses}
use Rattle.soup_top.specs.declared.asking.Task.TheVariants as task
use Rattle.soup_top.specs.Sources.{HasBank}
use Rattle.soup_top.specs.Tasks.{IsTellingFor, IsTextFor}
use Rattle.soup_top.proofs.ToldMoments.{told_quietly}
use Rattle.soup_top.proofs.top.tell_probe.Given.{Over}
use Rattle.soup_top.proofs.top.tell_probe.Goals as goal
use Rattle.soup_top.proofs.top.tell_probe.Goals.{After-tell_some}

-- the text is that of the genebank in the file that was read
telling : (g : Over) (c : After-tell_some g)
    → Elapses (g.D.Desk.state c.args.desk.now) (g.D.Desk.state c.tell_some.new.desk)
    (IsTellingFor (task.Probe c.args.quanta c.args.workers) (g.D.Desk.state c.args.desk.now))
telling g c =
    let old = g.D.Desk.state c.args.desk.now in
    let is : IsTextFor (task.Probe c.args.quanta c.args.workers) old.reads c.in_ok-text.text =
    each_file old.reads (λ (file : List ℕ). HasBank file c.in_ok-groups.groups)
    (λ (file : List ℕ). IsTextFor (task.Probe c.args.quanta c.args.workers) (Some file) c.in_ok-text.text)
    (λ file there has. (c.in_ok-groups.groups, has, c.in_ok-text.ensures)) c.in_ok-groups.ensures.groups in
    told_quietly (task.Probe c.args.quanta c.args.workers) old (g.D.Desk.state c.read_bank.new.desk) (g.D.Desk.state c.tell_some.new.desk) c.in_ok-text.text
    c.read_bank.ensures.uses c.read_bank.ensures.untouched c.tell_some.ensures.call.tells is

pub returns-in_err-tell_some-clause-telling : goal.returns-in_err-tell_some-clause-telling
returns-in_err-tell_some-clause-telling g c = telling g (goal.at.returns-in_err-tell_some-clause-telling g c).After-tell_some

pub returns-clause-telling : goal.returns-clause-telling
returns-clause-telling g c = telling g (goal.at.returns-clause-telling g c).After-tell_some
