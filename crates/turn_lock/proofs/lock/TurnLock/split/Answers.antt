use Rattle.std.proofs.Common.{rules, arith, ◌≡◌, ◌+◌, subst, sym, ap, ◌∙◌, [], ◌∷◌}
use Rattle.std.specs.Prelude.{unwrap_or}
use Rattle.turn_lock.specs.View.{own_at, IsActive, after_split, new_view, last_of}
use Rattle.turn_lock.specs.Seat.{own_of}
use Rattle.turn_lock.specs.Mirrors.{view_of}
use Rattle.turn_lock.proofs.OwnCounts.{value_of, value_where}
use Rattle.turn_lock.proofs.Splitting.{splits}
use Rattle.turn_lock.proofs.Mirroring.{mirrors_split, mirrors_new, new_seat_is, old_seat_is}
use Rattle.turn_lock.proofs.lock.TurnLock.split.Goals as goal

pub into_seat-table_seat-requires : goal.into_seat-table_seat-requires
into_seat-table_seat-requires g c = (view_of c.seat.inside.badge.views, ap (λ b. b.views) c.replace-badge.ensures.value ∙ c.seat.invariant.one)

pub split_seat-new-requires : goal.split_seat-new-requires
split_seat-new-requires g c =
    let now : view_of c.seat.inside.badge.views ≡ c.into_seat-table_seat.result.me.0 =
    sym (ap (λ b. view_of b.views) c.replace-badge.ensures.value) ∙ ap view_of c.into_seat-table_seat.ensures.2 in
    let idle = ap (λ v. v.stage) (sym now) ∙ c.seat.invariant.idle in
    let first = value_of (own_of c.args.seat.now 1) c.requires.first in
    let next = value_where c.args.seat.now.last_caller (λ last. c.args.caller ≡ last + 1) c.requires.next in
    let last = ap last_of (sym now) ∙ (ap (λ s. unwrap_or s.last_caller 0) c.seat.view_is ∙ ap (λ o. unwrap_or o 0) next.1) in
    let caller = next.2 in
    let most = c.requires.most in (
      search rules,
      search rules,
      splits _ _ _ first.0 _ (subst IsActive (sym idle) tt) (ap (λ v. own_at v 0) (sym now) ∙ (ap (λ s. own_of s 1) c.seat.view_is ∙ first.1)) (omega arith),
    )

pub invariant_of-result : goal.invariant_of-result
invariant_of-result g c =
    let now : view_of c.seat.inside.badge.views ≡ c.into_seat-table_seat.result.me.0 =
    sym (ap (λ b. view_of b.views) c.replace-badge.ensures.value) ∙ ap view_of c.into_seat-table_seat.ensures.2 in
    let next = value_where c.args.seat.now.last_caller (λ last. c.args.caller ≡ last + 1) c.requires.next in
    let last = ap (λ s. unwrap_or s.last_caller 0) c.seat.view_is ∙ ap (λ o. unwrap_or o 0) next.1 in
    let caller = next.2 in
    rw (c.in_ok-own.ensures.ok, c.only_for.ensures)
    (mirrors_new c.seat.inside.badge.views _ _ _ _ c.seat.invariant _ _ (omega arith) c.requires.most
    (c.into_badge-2.ensures.2 ∙ (ap (λ z. z.0 ∷ []) c.split_seat-new.ensures.4 ∙ ap (λ v. new_view v ∷ []) (sym now))))

pub invariant_of-seat : goal.invariant_of-seat
invariant_of-seat g c =
    let now : view_of c.seat.inside.badge.views ≡ c.into_seat-table_seat.result.me.0 =
    sym (ap (λ b. view_of b.views) c.replace-badge.ensures.value) ∙ ap view_of c.into_seat-table_seat.ensures.2 in
    mirrors_split c.seat.inside.badge.views _ _ _ _ c.seat.invariant _
    (c.into_badge.ensures.2 ∙ (ap (λ z. z.0 ∷ []) c.split_seat-new.ensures.2 ∙ ap (λ v. after_split v ∷ []) (sym now)))

pub returns-clause-new : goal.returns-clause-new
returns-clause-new g c =
    let now : view_of c.seat.inside.badge.views ≡ c.into_seat-table_seat.result.me.0 =
    sym (ap (λ b. view_of b.views) c.replace-badge.ensures.value) ∙ ap view_of c.into_seat-table_seat.ensures.2 in
    let next = value_where c.args.seat.now.last_caller (λ last. c.args.caller ≡ last + 1) c.requires.next in
    let last = ap (λ s. unwrap_or s.last_caller 0) c.seat.view_is ∙ ap (λ o. unwrap_or o 0) next.1 in
    let caller = next.2 in
    new_seat_is c.seat.inside.badge.table_id c.into_badge-2.result.table_id (view_of c.seat.inside.badge.views) _ c.into_badge-2.result.views _ c.seat.view_is
    (search rules) (c.into_badge-2.ensures.2 ∙ (ap (λ z. z.0 ∷ []) c.split_seat-new.ensures.4 ∙ ap (λ v. new_view v ∷ []) (sym now))) (omega arith)

pub returns-clause-old : goal.returns-clause-old
returns-clause-old g c =
    let now : view_of c.seat.inside.badge.views ≡ c.into_seat-table_seat.result.me.0 =
    sym (ap (λ b. view_of b.views) c.replace-badge.ensures.value) ∙ ap view_of c.into_seat-table_seat.ensures.2 in
    let next = value_where c.args.seat.now.last_caller (λ last. c.args.caller ≡ last + 1) c.requires.next in
    let last = ap (λ s. unwrap_or s.last_caller 0) c.seat.view_is ∙ ap (λ o. unwrap_or o 0) next.1 in
    let caller = next.2 in
    old_seat_is c.seat.inside.badge.table_id c.into_badge.result.table_id (view_of c.seat.inside.badge.views) _ c.into_badge.result.views _ c.seat.view_is
    (search rules) (c.into_badge.ensures.2 ∙ (ap (λ z. z.0 ∷ []) c.split_seat-new.ensures.2 ∙ ap (λ v. after_split v ∷ []) (sym now))) (omega arith)
