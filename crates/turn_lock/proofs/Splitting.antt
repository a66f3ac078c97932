-- Splitting a seat keeps the rule.
use Rattle.std.proofs.Common.{◌≡◌, ℕ, suc, ◌+◌, ◌<◌, ⊎_elim, List, [], ◌∷◌, ◌++◌, length, get_or, set, sym, refl, ap, ◌∙◌, subst, arith, Some, None, length-set}
use Rattle.std.proofs.Common.{get_or-set_same}
use Rattle.std.specs.Prelude.{count_by, is_some, unwrap_or, Option}
use mathlib.Core.Logic.{dite}
use mathlib.Core.Option.{some}
use native.Mathlib.Decide.{ℕ_discrete}
use lib.ListN.{get_elem?}
use Rattle.std.proofs.lemmas.List.Sums.{sum_by-set, sum_by_push}
use Rattle.std.proofs.lemmas.Option.{none-some, same_Some}
use Rattle.atomic_table.specs.Table.{Splits}
use Rattle.atomic_table.proofs.Lists.{at_longer, at_last}
use Rattle.turn_lock.specs.declared.view.Summary.{Summary}
use Rattle.turn_lock.specs.declared.view.SeatView.{SeatView}
use Rattle.turn_lock.specs.Seat.{only}
use Rattle.turn_lock.specs.View.{own_at, left_of, IsActive, last_of, after_split, new_view}
use Rattle.turn_lock.specs.Rule.{SeatFits, Speaks, KeepsRule}
use Rattle.turn_lock.proofs.Places.{put, put_here, put_else, sum_at, snoc_at}
use Rattle.turn_lock.proofs.OwnCounts.{has, blank, blank_none, only_one}
use Rattle.turn_lock.proofs.SeatsStay.{queue_stays, none_held, speaks_stays, each_seat_stays}

count-only : (i : ℕ) → i < 64 → count_by is_some (only i) ≡ 1
count-only i room =
    let h : count_by is_some (only i) + has (get_or (blank 64) i None) ≡ count_by is_some (blank 64) + 1 = sum_by-set has (blank 64) i (Some 0) None room in
    let was : has (get_or (blank 64) i None) ≡ 0 = ap has (blank_none 64 i) in
    let none : count_by is_some (blank 64) ≡ 0 = refl in
    omega arith

module _ {T : Type 0} (summary : T → Summary) (o : Summary) where
  pub splits : (id n : ℕ) (v : SeatView) → IsActive v.stage → own_at v 0 ≡ Some n → last_of v < 64
      → Splits (KeepsRule summary o) id v (after_split v) (new_view v)
  splits id n v active first room s r at =
      let ok = r.each_seat id v at active in
      let last_is : last_of v ≡ r.last = ap (λ (z : Option ℕ). unwrap_or z 0) (ok.holds_last n first) in
      let i : ℕ = last_of v in
      let l : SeatView = after_split v in
      let w : SeatView = new_view v in
      let views : List SeatView = set s.views id l in
      let new : ℕ = length s.views in
      let first_own = ok.own 0 n first in
      let owner : ℕ → ℕ = put r.owner r.last new in
      let given = r.given in
      let P : ℕ → SeatView → Type 0 = λ j d. IsActive d.stage → SeatFits o r.ticket r.serving (suc r.last) r.counts r.holder owner j d in
      let old_ones : (j : ℕ) (d : SeatView) → get_elem? views j ≡ some d → P j d = each_seat_stays P s.views id l
      (λ _. record {
        opening = ok.opening;
        stage = ok.stage;
        places = ok.places;
        own = λ c k e. let old = ok.own c k e in let lt = old.0 in (omega arith, put_else r.owner r.last new c (λ h. omega arith) ∙ old.1, old.2);
        speaks = ok.speaks;
        seen = ok.seen;
        left = ok.left;
        holds_last = λ _ _. ap (λ (z : ℕ). Some (suc z)) last_is;
        last_held = λ k e. (sym (same_Some (suc i) k e) ∙ ap suc last_is, (n, first));
      })
      (λ j d other there lives. let k = r.each_seat j d there lives in record {
        opening = k.opening;
        stage = k.stage;
        places = k.places;
        own = λ c m e. let old = k.own c m e in let lt = old.0 in (omega arith, put_else r.owner r.last new c (λ h. omega arith) ∙ old.1, old.2);
        speaks = k.speaks;
        seen = k.seen;
        left = k.left;
        holds_last = λ m e. absurd (other (sym (k.own 0 m e).1 ∙ first_own.1));
        last_held = λ m e. let h = (k.last_held m e).1 in absurd (other (sym (k.own 0 h.0 h.1).1 ∙ first_own.1));
      }) in
      let alone : count_by is_some (only i) ≡ 1 = count-only i room in
      let new_fits : SeatFits o r.ticket r.serving (suc r.last) r.counts r.holder owner new w = record {
        opening = ok.opening;
        stage = tt;
        places = length-set (blank 64) i (Some 0);
        own = λ c k e. dite (ℕ_discrete c i)
            (λ same. let here : Some 0 ≡ Some k = sym (ap (λ (z : ℕ). get_or (only i) z None) same ∙ get_or-set_same (blank 64) i (Some 0) None room) ∙ e in
            (omega arith, put_here r.owner r.last new c (same ∙ last_is), r.unused c (omega arith) ∙ same_Some 0 k here))
            (λ other. absurd (only_one i c k other e));
        speaks = (0, get_or-set_same (blank 64) i (Some 0) None room);
        seen = ok.seen;
        left = omega arith;
        holds_last = λ k e. absurd (only_one i 0 k (λ h. omega arith) e);
        last_held = λ k e. absurd (none-some k e);
      } in record {
        ticket = r.ticket;
        serving = r.serving;
        counts = r.counts;
        last = suc r.last;
        holder = r.holder;
        owner = owner;
        words = r.words;
        places = r.places;
        order = r.order;
        queue = λ k low high. let q = queue_stays s.views id (r.holder k) k v l at (λ h. h) (r.queue k low high) in
            (q.0, at_longer views (w ∷ []) (r.holder k) q.0 q.1, q.2);
        given = (omega arith, omega arith);
        spoken = λ c low. dite (ℕ_discrete c r.last)
            (λ e. subst (λ (j : ℕ). Speaks (views ++ w ∷ []) j c) (sym (put_here r.owner r.last new c e)) (
              w,
              at_last views w new (length-set s.views id l),
              tt,
              (0, ap (λ (k : ℕ). get_or (only i) k None) (e ∙ sym last_is) ∙ get_or-set_same (blank 64) i (Some 0) None room),
            ))
            (λ ne. subst (λ (j : ℕ). Speaks (views ++ w ∷ []) j c) (sym (put_else r.owner r.last new c ne))
            (let q = speaks_stays s.views id (r.owner c) c v l at active (λ k e. (k, e)) (r.spoken c (omega arith)) in
            (q.0, at_longer views (w ∷ []) (r.owner c) q.0 q.1, q.2, q.3)));
        unused = λ c high. r.unused c (omega arith);
        total = let a = sum_at left_of s.views id v l at in let b = sum_by_push left_of views w in let now = r.total in omega arith;
        each_seat = λ j d e lives. ⊎_elim (λ there. old_ones j d there lives)
            (λ (t : (j ≡ length views) × (w ≡ d)). subst (λ (x : ℕ × SeatView). SeatFits o r.ticket r.serving (suc r.last) r.counts r.holder owner x.0 x.1)
            (λ k. (sym (t.0 ∙ length-set s.views id l) k, t.1 k)) new_fits)
            (snoc_at views w d j e);
        at_home = λ free. r.at_home (none_held s.views id v l at (λ h. h) (λ j u there. free j u (at_longer views (w ∷ []) j u there)));
      }
