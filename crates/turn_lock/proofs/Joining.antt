-- Joining two idle seats keeps the rule.
use Rattle.std.proofs.Common.{◌≡◌, ◌≢◌, ℕ, ⊎_elim, List, length, set, sym, ap, ◌∙◌, subst, arith, Some}
use mathlib.Core.Logic.{dite}
use mathlib.Core.Option.{some}
use native.Mathlib.Decide.{ℕ_discrete}
use lib.ListN.{get_elem?}
use Rattle.atomic_table.specs.Table.{Joins}
use Rattle.atomic_table.proofs.Lists.{set_here, set_else}
use Rattle.turn_lock.specs.declared.view.Summary.{Summary}
use Rattle.turn_lock.specs.declared.view.SeatView.{SeatView}
use Rattle.turn_lock.specs.declared.view.Stage.{Stage}
use Rattle.turn_lock.specs.declared.view.Stage.TheVariants.{Idle}
use Rattle.turn_lock.specs.View.{own_at, left_of, ticket_count, HasTicket, IsActive, IsHolding, after_join, spent}
use Rattle.turn_lock.specs.Rule.{SeatFits, Speaks, KeepsRule}
use Rattle.turn_lock.proofs.Places.{put, put_here, put_else, inside, same_at, sum_at}
use Rattle.turn_lock.proofs.OwnCounts.{or_from, or_left, or_same, length-merged, merged_from, merged_left, merged_right, count-merged}
use Rattle.turn_lock.proofs.SeatsStay.{queue_stays, none_held, speaks_stays, each_seat_stays}

module _ {T : Type 0} (summary : T → Summary) (o : Summary) where
  pub joins : (id other : ℕ) (v w : SeatView) → v.stage ≡ Idle → w.stage ≡ Idle → Joins (KeepsRule summary o) id v other w (after_join v w) spent
  joins id other v w idle_v idle_w s r at apart there =
      let both : SeatView = after_join v w in
      let views : List SeatView = set s.views id both in
      let at' : get_elem? s.views other ≡ some w = sym (set_else s.views id other both apart) ∙ there in
      let active_v : IsActive v.stage = subst IsActive (sym idle_v) tt in
      let a = r.each_seat id v at active_v in
      let b = r.each_seat other w at' (subst IsActive (sym idle_w) tt) in
      let owner : ℕ → ℕ = λ i. put (λ z. z) other id (r.owner i) in
      let same_length : length v.own ≡ length w.own = a.places ∙ sym b.places in
      let P : ℕ → SeatView → Type 0 = λ j d. j ≢ other → IsActive d.stage → SeatFits o r.ticket r.serving r.last r.counts r.holder owner j d in
      let all_but_other : (j : ℕ) (d : SeatView) → get_elem? views j ≡ some d → P j d = each_seat_stays P s.views id both
      (λ _ _. record {
        opening = a.opening;
        stage = a.stage;
        places = length-merged v.own w.own same_length ∙ a.places;
        own = λ i n e. ⊎_elim
            (λ p. let old = a.own i n p in (old.0, put_else (λ z. z) other id (r.owner i) (λ q. apart (sym q ∙ old.1)) ∙ old.1, old.2))
            (λ p. let old = b.own i n p in (old.0, put_here (λ z. z) other id (r.owner i) old.1, old.2)) (merged_from v.own w.own i n e);
        speaks = (a.speaks.0, merged_left v.own w.own v.place a.speaks.0 a.speaks.1);
        seen = let x = a.seen in let y = b.seen in omega arith;
        left =
            let x = a.left in let y = b.left in let tv : ticket_count v.stage ≡ 0 = ap ticket_count idle_v in let tw : ticket_count w.stage ≡ 0 =
            ap ticket_count idle_w in
            let c = count-merged v.own w.own same_length (λ i k l p q. apart (sym (b.own i l q).1 ∙ (a.own i k p).1)) in omega arith;
        holds_last = λ n e. ⊎_elim
            (λ p. or_left v.last_caller w.last_caller r.last (a.holds_last n p))
            (λ p. or_same v.last_caller w.last_caller r.last (λ k q. (a.last_held k q).0) (b.holds_last n p)) (merged_from v.own w.own 0 n e);
        last_held = λ k e. ⊎_elim
            (λ p. let h = a.last_held k p in (h.0, (h.1.0, merged_left v.own w.own 0 h.1.0 h.1.1)))
            (λ p. let h = b.last_held k p in (h.0, merged_right v.own w.own 0 h.1.0 h.1.1)) (or_from v.last_caller w.last_caller k e);
      })
      (λ j d ne at_j not_other lives. let k = r.each_seat j d at_j lives in record {
        opening = k.opening;
        stage = k.stage;
        places = k.places;
        own = λ i n e. let old = k.own i n e in (old.0, put_else (λ z. z) other id (r.owner i) (λ q. not_other (sym old.1 ∙ q)) ∙ old.1, old.2);
        speaks = k.speaks;
        seen = k.seen;
        left = k.left;
        holds_last = k.holds_last;
        last_held = k.last_held;
      }) in record {
        ticket = r.ticket;
        serving = r.serving;
        counts = r.counts;
        last = r.last;
        holder = r.holder;
        owner = owner;
        words = r.words;
        places = r.places;
        order = r.order;
        queue = λ k low high. queue_stays views other (r.holder k) k w spent there (λ h. absurd (subst (λ (z : Stage). HasTicket z k) idle_w h))
            (queue_stays s.views id (r.holder k) k v both at (λ h. h) (r.queue k low high));
        given = r.given;
        spoken = λ i low. let q = r.spoken i low in dite (ℕ_discrete (r.owner i) other)
            (λ e. let its = subst (λ (u : SeatView). (n : ℕ) × (own_at u i ≡ Some n)) (same_at s.views (r.owner i) other q.0 w e q.1 at') q.3 in
            subst (λ (j : ℕ). Speaks (set views other spent) j i) (sym (put_here (λ z. z) other id (r.owner i) e)) (
              both,
              set_else views other id spent (λ h. apart (sym h))
                  ∙ set_here s.views id both (inside s.views id v at),
              active_v,
              merged_right v.own w.own i its.0 its.1,
            ))
            (λ ne. let p = speaks_stays s.views id (r.owner i) i v both at active_v (λ n e. (n, merged_left v.own w.own i n e)) q in
            subst (λ (j : ℕ). Speaks (set views other spent) j i) (sym (put_else (λ z. z) other id (r.owner i) ne))
            (p.0, set_else views other (r.owner i) spent ne ∙ p.1, p.2, p.3));
        unused = r.unused;
        total = let x = sum_at left_of s.views id v both at in let y = sum_at left_of views other w spent there in let now = r.total in omega arith;
        each_seat = each_seat_stays (λ j d. IsActive d.stage
            → SeatFits o r.ticket r.serving r.last r.counts r.holder owner j d) views other spent (λ lives. absurd lives)
            (λ j d ne at_j. all_but_other j d at_j ne);
        at_home = λ free.
            r.at_home (none_held s.views id v both at (λ h. h) (none_held views other w spent there (λ h. absurd (subst IsHolding idle_w h)) free));
      }
