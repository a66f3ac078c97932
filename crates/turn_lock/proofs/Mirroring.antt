-- The fields of a seat after a split and a join, and what they say of callers by number.
use Rattle.std.proofs.Common.{◌≡◌, ℕ, zero, suc, ◌+◌, ◌-◌, ◌≤◌, List, [], ◌∷◌, get_or, sym, refl, ap, ◌∙◌, subst, arith, Option, Some, None, length-set}
use Rattle.std.proofs.Common.{get_or-set_same}
use Rattle.std.specs.Prelude.{max}
use Rattle.std.specs.Option.{option_or}
use Rattle.atomic_table.specs.Seated.{TableId}
use Rattle.turn_lock.specs.declared.view.SeatView.{SeatView}
use Rattle.turn_lock.specs.Seat.{SeatFields, own_of, only, new_seat}
use Rattle.turn_lock.specs.View.{merged, last_of, after_split, new_view, after_join}
use Rattle.turn_lock.specs.Mirrors.{view_of, seat_of, MirrorsSeat}
use Rattle.turn_lock.proofs.OwnCounts.{blank, length-merged, get_or-merged, merged_left}

module _ (views : List SeatView) (caller turns seen : ℕ) (own : List (Option ℕ)) (ok : MirrorsSeat views caller turns seen own) where
  pub mirrors_split : (views' : List SeatView) → views' ≡ after_split (view_of views) ∷ [] → MirrorsSeat views' caller turns seen own
  mirrors_split views' is =
      let new : MirrorsSeat (after_split (view_of views) ∷ []) caller turns seen own =
      record {
        one = refl;
        idle = ok.idle;
        caller_is = ok.caller_is;
        turns_are = ok.turns_are;
        seen_is = ok.seen_is;
        own_is = ok.own_is;
        places = ok.places;
        speaks = ok.speaks;
      } in
      subst (λ (l : List SeatView). MirrorsSeat l caller turns seen own) (sym is) new

  pub mirrors_new : (views' : List SeatView) (caller' : ℕ) → caller' ≡ suc (last_of (view_of views)) → caller' ≤ 64
      → views' ≡ new_view (view_of views) ∷ [] → MirrorsSeat views' caller' 0 seen (only (caller' - 1))
  mirrors_new views' caller' is most views_are =
      let v : SeatView = view_of views in
      let place : caller' - 1 ≡ last_of v = omega arith in
      let new : MirrorsSeat (new_view v ∷ []) caller' 0 seen (only (caller' - 1)) = record {
        one = refl;
        idle = refl;
        caller_is = is;
        turns_are = refl;
        seen_is = ok.seen_is;
        own_is = ap only place;
        places = length-set (blank 64) (caller' - 1) (Some 0);
        speaks = (0, get_or-set_same (blank 64) (last_of v) (Some 0) None (omega arith));
      } in
      subst (λ (l : List SeatView). MirrorsSeat l caller' 0 seen (only (caller' - 1))) (sym views_are) new

  pub mirrors_joined : (others views' : List SeatView) (caller' more also : ℕ) (theirs : List (Option ℕ))
      → MirrorsSeat others caller' more also theirs → views' ≡ after_join (view_of views) (view_of others) ∷ []
      → MirrorsSeat views' caller (turns + more) (max seen also) (merged own theirs)
  mirrors_joined others views' caller' more also theirs b is =
      let new : MirrorsSeat (after_join (view_of views) (view_of others) ∷ []) caller (turns + more) (max seen also) (merged own theirs) = record {
        one = refl;
        idle = ok.idle;
        caller_is = ok.caller_is;
        turns_are = λ k. ok.turns_are k + b.turns_are k;
        seen_is = λ k. max (ok.seen_is k) (b.seen_is k);
        own_is = λ k. merged (ok.own_is k) (b.own_is k);
        places = length-merged own theirs (ok.places ∙ sym b.places) ∙ ok.places;
        speaks = (ok.speaks.0, merged_left (view_of views).own (view_of others).own (view_of views).place ok.speaks.0 ok.speaks.1);
      } in
      subst (λ (l : List SeatView). MirrorsSeat l caller (turns + more) (max seen also) (merged own theirs)) (sym is) new

pub own_joined : (s t u : SeatFields) → u.own ≡ merged s.own t.own → (c : ℕ) → own_of u c ≡ option_or (own_of s c) (own_of t c)
own_joined s t u own zero = refl
own_joined s t u own (suc c) = ap (λ (l : List (Option ℕ)). get_or l c None) own ∙ get_or-merged s.own t.own c

-- the seat that is split off, and the one that it is split off from

pub new_seat_is : (table table' : TableId) (v : SeatView) (seat : SeatFields) (views : List SeatView) (caller : ℕ) → seat_of table v ≡ seat
    → table' ≡ table → views ≡ new_view v ∷ [] → caller ≡ suc (last_of v) → seat_of table' (view_of views) ≡ new_seat seat caller
new_seat_is table table' v seat views caller is same_table one next =
    let place : last_of v ≡ caller - 1 = omega arith in
    (λ k. seat_of (same_table k) (view_of (one k)))
    ∙ ((λ k. record (seat_of table (new_view v)) { caller = sym next k; own = only (place k) }) ∙ ap (λ (s : SeatFields). new_seat s caller) is)

pub old_seat_is : (table table' : TableId) (v : SeatView) (seat : SeatFields) (views : List SeatView) (caller : ℕ) → seat_of table v ≡ seat
    → table' ≡ table → views ≡ after_split v ∷ [] → caller ≡ suc (last_of v)
    → seat_of table' (view_of views) ≡ record seat { last_caller = Some caller }
old_seat_is table table' v seat views caller is same_table one next =
    (λ k. seat_of (same_table k) (view_of (one k)))
    ∙ ((λ k. record (seat_of table v) { last_caller = Some (sym next k) }) ∙ ap (λ (s : SeatFields). record s { last_caller = Some caller }) is)
