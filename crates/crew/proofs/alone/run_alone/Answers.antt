use Rattle.std.proofs.Common.{◌≡◌, ◌∙◌, sym, ap, subst, arith, ◌<◌, ◌≤◌, length, ℕ}
use Rattle.std.specs.Prelude.{max}
use Rattle.tierra_model.specs.Setups.{SetupFields}
use Rattle.crew.specs.declared.hand.Next.{Next}
use Rattle.crew.specs.Hand.{HaltsBy, OnGo, run_bank}
use Rattle.crew.proofs.Banks.{earlier-within}
use Rattle.crew.proofs.Later.{worked}
use Rattle.crew.proofs.alone.run_alone.Goals as goal

pub savings-smaller : goal.savings-smaller
savings-smaller g c =
    let left : c.savings.book.committed < c.savings.book.quanta
    = omega (arith, c.if-committed-quanta.false, c.committed.ensures.value, c.quanta.ensures.value, c.savings.invariant.few) in
    let w = worked c.savings.book.quanta c.savings.book c.in-Ok.worked 0 c.in-Ok.ensures.works.0 (omega (arith, left)) c.in-Ok.ensures.works.1 in
    omega (arith, w.more left, w.quanta, left)

pub savings-preserved : goal.savings-preserved
savings-preserved g c =
    let b = c.savings.book in
    let run = c.savings.invariant in
    let some : 0 < b.quanta = omega (arith, c.if-committed-quanta.false, c.committed.ensures.value, c.quanta.ensures.value, run.few) in
    let w = worked b.quanta b c.in-Ok.worked 0 c.in-Ok.ensures.works.0 some c.in-Ok.ensures.works.1 in
    let put = c.in-Ok-Go.ensures in
    let hand = c.hand_all.new.hand in
    let setup : g.H.Hand.setup hand ≡ b.setup = put.setup ∙ sym (ap (λ (p : SetupFields × ℕ). p.0) run.ready.run_is) in
    let quanta : g.H.Hand.quanta hand ≡ b.quanta = put.quanta ∙ sym (ap (λ (p : SetupFields × ℕ). p.1) run.ready.run_is) in
    let more = earlier-within b.setup b.committed b.quanta (length (run_bank b.setup b.committed)) run.few (omega arith) in
    let before : g.H.Hand.done c.savings.hand ≤ length (run_bank b.setup b.quanta) =
    subst (λ (p : SetupFields × ℕ). g.H.Hand.done c.savings.hand ≤ length (run_bank p.0 p.1)) (sym run.ready.run_is) run.ready.within in
    let go = c.in-Ok-Go.field-0-is in
    let groups : g.H.Hand.done hand ≡ max (g.H.Hand.done c.savings.hand) (length (run_bank b.setup b.committed)) =
    subst (λ (n : Next). OnGo n (g.H.Hand.done hand ≡ max (g.H.Hand.done c.savings.hand) (length (run_bank b.setup b.committed)))) go put.groups in
    let can : g.H.Hand.can_put hand = subst (λ (n : Next). OnGo n (g.H.Hand.can_put hand)) go put.can in
    let halts : g.H.Hand.halts hand ≡ 0 = subst (λ (n : Next). HaltsBy n (g.H.Hand.halts hand)) go put.halts in
    let all : g.H.Hand.done hand ≤ length (run_bank b.setup b.quanta) = omega (arith, groups, more, before) in
    record {
      setup = w.setup ∙ run.setup;
      quanta = w.quanta ∙ run.quanta;
      few = c.in-Ok.ensures.few;
      ready = record {
        unhalted = halts;
        run_is = (λ i. ((w.setup ∙ sym setup) i, (w.quanta ∙ sym quanta) i));
        within = rw (setup, quanta) all;
        can = can;
      };
      hand_setup = put.setup ∙ run.hand_setup;
      hand_quanta = put.quanta ∙ run.hand_quanta;
      later = g.met.H.Hand.goes_on _ _ _ run.later put.later;
    }
