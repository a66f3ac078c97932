use Rattle.std.proofs.Common.{◌≡◌, ◌∙◌, ◌≤◌, List, ap, false, rules, subst, sym, true, ℕ}
use Rattle.std.specs.Prelude.{All, IsTrue, nat_le}
use Rattle.tierra_model.specs.declared.creatures.Creature.{Creature}
use Rattle.tierra_model.specs.Counting.{one_if, times_in}
use Rattle.tierra_model.specs.Living.{ids_of}
use Rattle.tierra_model.specs.Ranges.{IsCode}
use Rattle.tierra_model.specs.Sound.{IsPlaced, Ordered, numbers_of, owners, times_coded}
use Rattle.tierra_model.specs.World.{World, genotype_at}
use Rattle.world_state.specs.declared.fields.StoredGenotype.{StoredGenotype}
use Rattle.world_state.specs.contracts.draft.Draft.{the_view}
use Rattle.world_state.specs.Reading.{genotypes_of}
use Rattle.world_state.specs.Savings.{savings_of}
use Rattle.world_state.specs.Soundness.{HasParts, IsMatched}
use Rattle.world_state.proofs.Joined.{codes-written}
use Rattle.world_state.proofs.draft.Draft.is_matched.Goals as goal

pub is_queue_of-requires : goal.is_queue_of-requires
is_queue_of-requires c =
    let parts : HasParts (the_view c.self.inside) = subst HasParts (sym c.self.view_is) c.requires in
    subst (λ (xs : List Creature). Ordered 1 (ids_of xs)) (sym c.deref-2.ensures.value) parts.living.ordered

pub are_apart-requires : goal.are_apart-requires
are_apart-requires c =
    let parts : HasParts (the_view c.self.inside) = subst HasParts (sym c.self.view_is) c.requires in
    subst (All (IsPlaced c.self.inside.settings.soup_size)) (sym c.deref-3.ensures.value) parts.living.placed

pub are_coded_once-requires : goal.are_coded_once-requires
are_coded_once-requires c =
    let parts : HasParts (the_view c.self.inside) = subst HasParts (sym c.self.view_is) c.requires in
    subst (All (λ (f : StoredGenotype). IsCode f.code)) (sym c.deref-4.ensures.value) (codes-written c.self.inside.stored.items parts.genotypes.written)

pub returns-then-not-queue : goal.returns-then-not-queue
returns-then-not-queue c = (
  λ e. absurd cc,
  λ h.
      let is : IsMatched (the_view c.self.inside) = subst IsMatched (sym c.self.view_is) h in
      let no : c.in_ok-queue.queue ≡ false = search rules in
      sym no ∙ c.in_ok-queue.ensures.1
      (λ id. ap (λ (l : List ℕ). times_in l id) c.deref.ensures.value ∙ is.reaper id
      ∙ ap (λ (l : List Creature). times_in (ids_of l) id) (sym c.deref-2.ensures.value)),
)

pub returns-then-not-apart : goal.returns-then-not-apart
returns-then-not-apart c = (
  λ e. absurd cc,
  λ h.
      let is : IsMatched (the_view c.self.inside) = subst IsMatched (sym c.self.view_is) h in
      let no : c.in_ok-apart.apart ≡ false = search rules in
      sym no ∙ c.in_ok-apart.ensures.1 (λ p. subst (λ (l : List Creature). owners l p ≤ 1) (sym c.deref-3.ensures.value) (is.apart p)),
)

pub returns-then-not-once : goal.returns-then-not-once
returns-then-not-once c = (
  λ e. absurd cc,
  λ h.
      let is : IsMatched (the_view c.self.inside) = subst IsMatched (sym c.self.view_is) h in
      let no : c.in_ok-once.once ≡ false = search rules in
      sym no ∙ c.in_ok-once.ensures.1
      (λ code. subst (λ (l : List StoredGenotype). times_coded (genotypes_of l) code ≤ 1) (sym c.deref-4.ensures.value) (is.coded_once code)),
)

pub returns : goal.returns
returns c =
    let queue : c.in_ok-queue.queue ≡ true = search rules in
    let apart : c.in_ok-apart.apart ≡ true = search rules in
    let once : c.in_ok-once.once ≡ true = search rules in
    let at = c.self.inside.settings.save_at in
    subst (λ (w : World). (IsTrue c.in_ok-due.due → IsMatched w) × (IsMatched w → IsTrue c.in_ok-due.due)) c.self.view_is (
      λ e. record {
        slicer = c.self.invariant.1;
        reaper = λ id. ap (λ (l : List ℕ). times_in l id) (sym c.deref.ensures.value) ∙ c.in_ok-queue.ensures.0 queue id
            ∙ ap (λ (l : List Creature). times_in (ids_of l) id) c.deref-2.ensures.value;
        apart = λ p. subst (λ (l : List Creature). owners l p ≤ 1) c.deref-3.ensures.value (c.in_ok-apart.ensures.0 apart p);
        coded_once =
            λ code. subst (λ (l : List StoredGenotype). times_coded (genotypes_of l) code ≤ 1) c.deref-4.ensures.value (c.in_ok-once.ensures.0 once code);
        saved = λ k. (λ i. times_in (numbers_of (savings_of (sym c.deref-6.ensures.value i))) k) ∙ c.in_ok-due.ensures.0 e k
            ∙ (λ i. one_if (nat_le at (genotype_at (genotypes_of (c.deref-5.ensures.value i)) k).total));
      },
      λ h. c.in_ok-due.ensures.1 (λ k. (λ i. times_in (numbers_of (savings_of (c.deref-6.ensures.value i))) k) ∙ h.saved k
          ∙ (λ i. one_if (nat_le at (genotype_at (genotypes_of (sym c.deref-5.ensures.value i)) k).total))),
    )
