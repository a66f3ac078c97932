use Rattle.std.proofs.Common.{rules, subst, sym, ap, ◌∙◌, [], ◌∷◌}
use Rattle.turn_lock.specs.View.{WaitsFor, IsActive, merged, after_join}
use Rattle.turn_lock.specs.Mirrors.{view_of, seat_of}
use Rattle.turn_lock.proofs.Loading.{loads_serving}
use Rattle.turn_lock.proofs.Joining.{joins}
use Rattle.turn_lock.proofs.Mirroring.{mirrors_joined, own_joined}
use Rattle.turn_lock.proofs.lock.TurnLock.join_seats.Goals as goal

pub join_seat-requires : goal.join_seat-requires
join_seat-requires g c =
    let into = ap view_of c.into_seat-table_seat.ensures.2 in
    let from = ap view_of c.into_seat.ensures.2 in (
      search rules,
      search rules,
      search rules,
      search rules,
      joins _ _ _ _ _ _ (ap (λ v. v.stage) (sym into) ∙ c.into.invariant.idle)
          (ap (λ v. v.stage) (sym from) ∙ c.from.invariant.idle),
    )

pub load-requires : goal.load-requires
load-requires g c =
    let into = ap view_of c.into_seat-table_seat.ensures.2 in
    let stage = ap (λ z. z.0.stage) c.join_seat.ensures.2 ∙ (ap (λ v. v.stage) (sym into) ∙ c.into.invariant.idle) in
    (search rules, search rules, loads_serving _ _ _ _ _ (subst IsActive (sym stage) tt))

pub invariant_of-result : goal.invariant_of-result
invariant_of-result g c =
    let into = ap view_of c.into_seat-table_seat.ensures.2 in
    let from = ap view_of c.into_seat.ensures.2 in
    let stage = ap (λ z. z.0.stage) c.join_seat.ensures.2 ∙ (ap (λ v. v.stage) (sym into) ∙ c.into.invariant.idle) in
    let same = c.load.ensures.2.same (λ waits. subst (λ z. WaitsFor z c.load.result) stage waits) in
    let now = c.into_badge.ensures.2 ∙ (ap (λ z. z.0 ∷ []) (same ∙ c.join_seat.ensures.2) ∙ (λ k. after_join (sym into k) (sym from k) ∷ [])) in
    let mirrors = mirrors_joined c.into.inside.badge.views _ _ _ _ c.into.invariant c.from.inside.badge.views _ _ _ _ _ c.from.invariant now in
    rw (c.max.ensures, c.merge.ensures, c.deref_mut.ensures.value, c.deref.ensures) mirrors

pub returns-clause-own : goal.returns-clause-own
returns-clause-own g c =
    let into = ap view_of c.into_seat-table_seat.ensures.2 in
    let from = ap view_of c.into_seat.ensures.2 in
    let stage = ap (λ z. z.0.stage) c.join_seat.ensures.2 ∙ (ap (λ v. v.stage) (sym into) ∙ c.into.invariant.idle) in
    let same = c.load.ensures.2.same (λ waits. subst (λ z. WaitsFor z c.load.result) stage waits) in
    let now = c.into_badge.ensures.2 ∙ (ap (λ z. z.0 ∷ []) (same ∙ c.join_seat.ensures.2) ∙ (λ k. after_join (sym into k) (sym from k) ∷ [])) in
    own_joined c.args.into c.args.from (seat_of c.into_badge.result.table_id (view_of c.into_badge.result.views))
    (ap (λ l. (view_of l).own) now ∙ (λ k. merged (ap (λ s. s.own) c.into.view_is k) (ap (λ s. s.own) c.from.view_is k)))
