-- What holds of some seat, or of all, after the view of one seat has changed.
use Rattle.std.proofs.Common.{◌≡◌, ◌≢◌, ℕ, ⊎_elim, List, set, sym, ap, ◌∙◌, subst, Some}
use mathlib.Core.Logic.{dite}
use mathlib.Core.Option.{some}
use native.Mathlib.Decide.{ℕ_discrete}
use lib.ListN.{get_elem?}
use Rattle.atomic_table.proofs.Lists.{at_set, set_here, set_else}
use Rattle.turn_lock.specs.declared.view.SeatView.{SeatView}
use Rattle.turn_lock.specs.View.{own_at, HasTicket, IsActive, IsHolding}
use Rattle.turn_lock.specs.Rule.{Speaks, NoneHolds}
use Rattle.turn_lock.proofs.Places.{inside, same_at}

-- a ticket stays held
pub queue_stays : (views : List SeatView) (id k n : ℕ) (v w : SeatView) → get_elem? views id ≡ some v → (HasTicket v.stage n → HasTicket w.stage n)
    → (u : SeatView) × (get_elem? views k ≡ some u) × HasTicket u.stage n
    → (u : SeatView) × (get_elem? (set views id w) k ≡ some u) × HasTicket u.stage n
queue_stays views id k n v w at keep q = dite (ℕ_discrete k id)
    (λ e. (
      w,
      subst (λ (j : ℕ). get_elem? (set views id w) j ≡ some w) (sym e) (set_here views id w (inside views id v at)),
      keep
          (subst (λ (u : SeatView). HasTicket u.stage n) (same_at views k id q.0 v e q.1 at) q.2),
    ))
    (λ ne. (q.0, set_else views id k w ne ∙ q.1, q.2))

-- where no seat holds the slot afterwards, none held it before
pub none_held : (views : List SeatView) (id : ℕ) (v w : SeatView) → get_elem? views id ≡ some v → (IsHolding v.stage → IsHolding w.stage)
    → NoneHolds (set views id w) → NoneHolds views
none_held views id v w at keep free j u there held = dite (ℕ_discrete j id)
    (λ e. free id w (set_here views id w (inside views id v at)) (keep (subst (λ (z : SeatView). IsHolding z.stage) (same_at views j id u v e there at) held)))
    (λ ne. free j u (set_else views id j w ne ∙ there) held)

-- a caller stays spoken for
pub speaks_stays : (views : List SeatView) (id k i : ℕ) (v w : SeatView) → get_elem? views id ≡ some v → IsActive w.stage
    → ((n : ℕ) → own_at v i ≡ Some n → (l : ℕ) × (own_at w i ≡ Some l)) → Speaks views k i → Speaks (set views id w) k i
speaks_stays views id k i v w at active keep q = dite (ℕ_discrete k id)
    (λ e. (
      w,
      subst (λ (j : ℕ). get_elem? (set views id w) j ≡ some w) (sym e) (set_here views id w (inside views id v at)),
      active,
      keep q.3.0 (ap (λ (u : SeatView). own_at u i) (sym (same_at views k id q.0 v e q.1 at)) ∙ q.3.1),
    ))
    (λ ne. (q.0, set_else views id k w ne ∙ q.1, q.2, q.3))

-- a fact about each seat holds of the one that has changed, and of the others
pub each_seat_stays : (P : ℕ → SeatView → Type 0) (views : List SeatView) (id : ℕ) (w : SeatView) → P id w
    → ((j : ℕ) (d : SeatView) → j ≢ id → get_elem? views j ≡ some d → P j d)
    → (j : ℕ) (d : SeatView) → get_elem? (set views id w) j ≡ some d → P j d
each_seat_stays P views id w mine others j d e = ⊎_elim
    (λ (t : (j ≡ id) × (w ≡ d)). subst (λ (x : ℕ × SeatView). P x.0 x.1) (λ i. (sym t.0 i, t.1 i)) mine)
    (λ (t : (j ≢ id) × (get_elem? views j ≡ some d)). others j d t.0 t.1)
    (at_set views id j w d e)
