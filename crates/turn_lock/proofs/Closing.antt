-- The value of a table that is closed by the seat that speaks for all callers.
use Rattle.std.proofs.Common.{◌≡◌, ℕ, suc, ◌+◌, ◌<◌, ◌≤◌, List, get_or, sym, refl, ap, ◌∙◌, subst, arith, Option, Some, None}
use Rattle.std.specs.Prelude.{sum}
use mathlib.Core.Logic.{dite}
use mathlib.Core.Option.{some, some-injective}
use mathlib.Core.Option as maybe
use native.Mathlib.Decide.{dec_le}
use lib.ListN.{get_elem?}
use Rattle.std.proofs.lemmas.Option.{none-some, same_Some}
use Rattle.atomic_table.specs.Table.{Final, Seen}
use Rattle.atomic_table.specs.Seated.{TableId}
use Rattle.turn_lock.specs.declared.view.Summary.{Summary}
use Rattle.turn_lock.specs.declared.view.SeatView.{SeatView}
use Rattle.turn_lock.specs.declared.view.Stage.TheVariants.{Idle}
use Rattle.turn_lock.specs.Summary.{entries_by, HasGrown}
use Rattle.turn_lock.specs.Seat.{SeatFields, own_of, own_total, SpeaksForAll}
use Rattle.turn_lock.specs.View.{own_at, IsActive, IsHolding}
use Rattle.turn_lock.specs.Rule.{NoneHolds, KeepsRule}
use Rattle.turn_lock.specs.Mirrors.{seat_of}
use Rattle.turn_lock.proofs.Places.{same_at}
use Rattle.turn_lock.proofs.OwnCounts.{value_of, value_where, count_or_zero, sum-alike}
use Rattle.turn_lock.proofs.Entries.{entries_own, entries_others}
use Rattle.turn_lock.proofs.Stages.{active_holding}

-- the value is the opening one with the own counts of the seat and no others
pub record IsClosedBy (seat : SeatFields) (x : Summary) : Type 0 where
  pub setup : x.setup ≡ seat.lock.opening.setup
  pub committed : x.committed ≡ seat.lock.opening.committed + own_total seat
  pub seen : seat.seen ≤ x.committed
  pub own : (c n : ℕ) → own_of seat c ≡ Some n → entries_by x.entries c ≡ entries_by seat.lock.opening.entries c + n
  pub others : (c : ℕ) → 1 ≤ c → c ≤ 64 → own_of seat c ≡ None → entries_by x.entries c ≡ entries_by seat.lock.opening.entries c

count_at : (o : Option ℕ) (k : ℕ) → ((n : ℕ) → o ≡ Some n → k ≡ n) → (o ≡ None → k ≡ 0) → k ≡ count_or_zero o
count_at None k there away = away refl
count_at (Some n) k there away = there n refl

module _ {T : Type 0} (summary : T → Summary) (o : Summary) where
  closes : (id : ℕ) (table : TableId) (v : SeatView) (words : List ℕ) (slots : List (Option T)) → v.stage ≡ Idle
      → SpeaksForAll (seat_of table v) → Final (Seen (KeepsRule summary o) id v) words slots
      → (x : T) × (get_elem? slots 0 ≡ some (Some x)) × IsClosedBy (seat_of table v) (summary x)
  closes id table v words slots idle all (s, seen, same_words, deep, homes) =
      let r = seen.0 in
      let at = seen.1 in
      let ok = r.each_seat id v at (subst IsActive (sym idle) tt) in
      let held = value_where v.last_caller _ all in
      let last_is = (ok.last_held held.0 held.1).0 in
      let mine : (i : ℕ) → i < r.last → (n : ℕ) × (own_at v i ≡ Some n) = λ i low. value_of (own_at v i) (held.2 (suc i) (omega arith) (omega arith)) in
      let free : NoneHolds s.views = λ j u there holding.
      let k = r.each_seat j u there (active_holding u.stage holding) in
      let its = k.own u.place k.speaks.0 k.speaks.1 in
      let lt = its.0 in
      let own = mine u.place (omega arith) in
      let same : u ≡ v = same_at s.views j id u v (sym its.1 ∙ (ok.own u.place own.0 own.1).1) there at in
      subst IsHolding (ap (λ (z : SeatView). z.stage) same ∙ idle) holding in
      let home = r.at_home free in
      let x : T = home.0 in
      let grown : HasGrown v.opening r.counts (summary x) = subst (λ (z : Summary). HasGrown z r.counts (summary x)) (sym ok.opening) home.2 in
      let unused : (i : ℕ) → own_at v i ≡ None → get_or r.counts i 0 ≡ 0 =
      λ i e. r.unused i (dite (dec_le r.last i) (λ h. h) (λ low. let n = mine i (omega arith) in absurd (none-some n.0 (sym e ∙ n.1)))) in
      let alike : (i : ℕ) → get_or r.counts i 0 ≡ count_or_zero (own_at v i) =
      λ i. count_at (own_at v i) (get_or r.counts i 0) (λ n e. (ok.own i n e).2) (unused i) in
      let sums : sum r.counts ≡ own_total (seat_of table v) = sum-alike v.own r.counts (r.places ∙ sym ok.places) alike in (
        x,
        homes 0 (Some x) (ap (λ (h : List (maybe.Option (Option T))). get_elem? h 0) home.1),
        record {
          setup = grown.setup;
          committed = grown.committed ∙ ap (λ (k : ℕ). v.opening.committed + k) sums;
          seen = let a = ok.seen in let b = home.2.committed in omega arith;
          own = entries_own (summary x) table v r.counts grown ok.places (λ i n e. (ok.own i n e).2);
          others = entries_others (summary x) table v r.counts grown unused;
        },
      )

  pub closed : (id : ℕ) (table : TableId) (v : SeatView) (seat : SeatFields) (words : List ℕ) (slots : List (Option T)) (y : Option T)
      → v.stage ≡ Idle → seat_of table v ≡ seat → SpeaksForAll seat
      → Final (Seen (KeepsRule summary o) id v) words slots → get_elem? slots 0 ≡ some y → (x : T) × (y ≡ Some x) × IsClosedBy seat (summary x)
  closed id table v seat words slots y idle e all end there =
      let h = closes id table v words slots idle (subst SpeaksForAll (sym e) all) end in
      (h.0, some-injective y (Some h.0) (sym there ∙ h.1), subst (λ (s : SeatFields). IsClosedBy s (summary h.0)) e h.2)

  pub closed_value : (seat : SeatFields) (x z : T) (y : Option T) → y ≡ Some x → y ≡ Some z → IsClosedBy seat (summary x)
      → IsClosedBy seat (summary z)
  closed_value seat x z y p q h = subst (λ (u : T). IsClosedBy seat (summary u)) (same_Some x z (sym p ∙ q)) h
