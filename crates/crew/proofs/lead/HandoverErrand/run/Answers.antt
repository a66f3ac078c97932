use Rattle.std.proofs.Common.{subst, sym, ◌∙◌, ℕ, ◌+◌, length}
use Rattle.tierra_model.specs.Setups.{SetupFields}
use Rattle.crew.specs.Hand.{AreNext, HasGroups, HasGroupsOf}
use Rattle.crew.proofs.Banks.{next-within}
use Rattle.crew.proofs.HasGroups.{has_all}
use Rattle.crew.proofs.Leading.{on_go}
use Rattle.crew.proofs.lead.HandoverErrand.run.Goals as goal

pub put-requires-clause-next : goal.put-requires-clause-next
put-requires-clause-next g c =
    subst (λ (p : SetupFields × ℕ). AreNext p.0 p.1 (g.H.Hand.done c.args.self.now.hand.now) c.args.load.groups) c.requires.1.0.run_is c.requires.2.next

pub returns-clause-ready : goal.returns-clause-ready
returns-clause-ready g c = λ b ready.
    let hand = c.args.self.now.hand.now in
    let groups = c.args.load.groups in
    let put = c.put.ensures in
    let run = c.requires.1.0.run_is in
    let next = subst (λ (p : SetupFields × ℕ). AreNext p.0 p.1 (g.H.Hand.done hand) groups) run c.requires.2.next in
    let all = next-within (g.H.Hand.setup hand) (g.H.Hand.quanta hand) (g.H.Hand.done hand) groups next ready.0.within in
    let has = subst (λ (p : SetupFields × ℕ). HasGroupsOf p.0 p.1 c.args.load.saved (g.H.Hand.done hand + length groups)) run c.requires.2.saved in
    on_go c.put.result (λ went can. (
      record {
        unhalted = went.1 ∙ ready.0.unhalted;
        run_is = ready.0.run_is ∙ (λ i. (sym put.setup i, sym put.quanta i));
        within = rw (put.setup, put.quanta, went.0) all;
        can = can;
      },
      rw (put.setup, put.quanta, went.0) has,
    )) put.go put.can

pub returns-clause-done : goal.returns-clause-done
returns-clause-done g c = λ b ready load.
    let hand = c.args.self.now.hand.now in
    let groups = c.args.load.groups in
    let put = c.put.ensures in
    let has = subst (λ (p : SetupFields × ℕ). HasGroups p.0 b.committed (g.H.Hand.done hand + length groups)) ready.0.run_is
    (has_all b.setup b.committed (g.H.Hand.done hand) groups load.groups) in
    on_go c.put.result (λ went can. rw (put.setup, went.0) has) put.go put.can
