-- Taking the slot keeps the rule, and tells that the value has grown by the counts that were read.
use Rattle.std.proofs.Common.{◌≡◌, ℕ, ◌≤◌, List, ◌∷◌, length, get_or, set, take, sym, ap, ◌∙◌, subst, arith, Option, Some}
use mathlib.Core.Option.{none}
use mathlib.Core.Option as maybe
use lib.ListN.{get_elem?}
use Rattle.std.proofs.Math.Seq.{take-length}
use Rattle.atomic_table.specs.Table.{step, Act, takes, stepped, carried_after, Valid, Allows}
use Rattle.atomic_table.proofs.Lists.{set_here}
use Rattle.turn_lock.specs.declared.view.Summary.{Summary}
use Rattle.turn_lock.specs.declared.view.SeatView.{SeatView}
use Rattle.turn_lock.specs.declared.view.Stage.{Stage}
use Rattle.turn_lock.specs.declared.view.Stage.TheVariants.{Called, Holding}
use Rattle.turn_lock.specs.Summary.{HasGrown}
use Rattle.turn_lock.specs.View.{ticket_count, ticket_of, counts_read, HasTicket, IsActive, IsHolding, at_stage}
use Rattle.turn_lock.specs.Rule.{StageFits, NoneHolds, KeepsRule}
use Rattle.turn_lock.specs.Steps.{TableSeat, TakesSlot}
use Rattle.turn_lock.proofs.Places.{inside, same_at}
use Rattle.turn_lock.proofs.Stages.{active_holding, holding_served}
use Rattle.turn_lock.proofs.Restaging.{restages_with}

module _ {T : Type 0} (summary : T → Summary) (o : Summary) where
  pub takes_slot : (slots id t : ℕ) (counts : List ℕ) (a : TableSeat T) → a.0.stage ≡ Called t counts → length counts ≡ 64
      → Allows (KeepsRule summary o) slots id a 1 (λ n. n) (TakesSlot summary (step slots 1 0 0 none) a)
  takes_slot slots id t counts a called all s r deep at fit =
      let v : SeatView = a.0 in
      let active : IsActive v.stage = subst IsActive (sym called) tt in
      let ok = r.each_seat id v at active in
      let mine : StageFits r.ticket r.serving r.counts r.holder id (Called t counts) =
      subst (StageFits r.ticket r.serving r.counts r.holder id) called ok.stage in
      let whole : counts ≡ r.counts = mine.3 ∙ (ap (λ (k : ℕ). take k r.counts) (all ∙ sym r.places) ∙ take-length r.counts) in
      let free : NoneHolds s.views = λ j u there holding.
      let j_is : r.holder r.serving ≡ j =
      holding_served r.ticket r.serving r.counts r.holder j u.stage (r.each_seat j u there (active_holding u.stage holding)).stage holding in
      let id_is : r.holder r.serving ≡ id = ap r.holder (sym mine.0) ∙ mine.2 in
      let same : u ≡ v = same_at s.views j id u v (sym j_is ∙ id_is) there at in
      subst IsHolding (ap (λ (z : SeatView). z.stage) same ∙ called) holding in
      let home = r.at_home free in
      let x : T = home.0 in
      let w : SeatView = at_stage v (Holding t counts) in
      let present : counts_read v.stage ≡ r.counts = ap counts_read called ∙ whole in
      let value : HasGrown v.opening (counts_read v.stage) (summary x) =
      subst (λ (p : Summary × List ℕ). HasGrown p.0 p.1 (summary x)) (λ k. (sym ok.opening k, sym present k)) home.2 in
      let new = restages_with summary o s r id v (Holding t counts) (set s.homes 0 none) at active tt (ap ticket_count (sym called))
      (λ k h. subst (λ (z : Stage). HasTicket z k) called h) (mine.0, mine.1, mine.2, whole)
      (λ none_holds. absurd (none_holds id w (set_here s.views id w (inside s.views id v at)) tt)) in
      let seen : v.seen ≤ (summary x).committed = let a = ok.seen in let b = home.2.committed in omega arith in
      let Goal : List ℕ → Type 0 = λ ws. (w : SeatView) × (y : Act (Option T)) × Valid s.homes a.1 y
      × KeepsRule summary o (stepped (record { words = ws; homes = s.homes; views = s.views }) 1 (get_or ws 1 0) id a.1 w y)
      × TakesSlot summary (step slots 1 0 0 none) a (get_or ws 1 0) (w, carried_after a.1 y) in
      subst Goal (sym r.words) (
        w,
        takes 0 (Some x),
        ap (λ (h : List (maybe.Option (Option T))). get_elem? h 0) home.1,
        new,
        (
          x,
          record {
            seat = ap (λ (z : Stage). (at_stage v (Holding (ticket_of z) (counts_read z)), (0, Some x) ∷ a.1)) (sym called);
            value = value;
            own = λ i n e. ap (λ (l : List ℕ). get_or l i 0) present ∙ (ok.own i n e).2;
            seen = seen;
          },
        ),
      )
