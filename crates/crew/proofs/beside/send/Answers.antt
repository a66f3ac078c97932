use Rattle.std.proofs.Common.{subst, ℕ}
use Rattle.tierra_model.specs.Setups.{SetupFields}
use Rattle.crew.specs.Hand.{AreNext}
use Rattle.crew.proofs.beside.send.Goals as goal

pub invariant_of-parcel : goal.invariant_of-parcel
invariant_of-parcel g c = record {
  next = subst (λ (p : SetupFields × ℕ). AreNext p.0 p.1 c.args.from.now c.in_ok-groups.groups)
      (λ i. (c.requires.setup i, c.requires.quanta i)) c.in_ok-groups.ensures.next;
}
