use Rattle.std.proofs.Common.{rules, arith, ◌≡◌, ◌-◌, ◌∙◌, List, None, Option, Some, get_or, refl, ap, sym, ℕ}
use Rattle.turn_lock.specs.Summary.{summary_of}
use Rattle.turn_lock.specs.Mirrors.{view_of, seat_of}
use Rattle.turn_lock.proofs.Returning.{commits_inside, place_inside, place_is, count_fits, mirrors_given, given_back, given_back_as, publish_allowed}
use Rattle.turn_lock.proofs.Returning.{pass_allowed, given_views}
use Rattle.turn_lock.proofs.lock.TurnLock.give.Goals as goal

pub overflow_add-count : goal.overflow_add-count
overflow_add-count g c =
    let x = summary_of g.T.Kept.setup g.T.Kept.committed g.T.Kept.entries c.args.value in
    let mirrors = c.turn.invariant in
    let seen = c.committed-seen.ensures in
    let low = c.committed-seen.type_inv in
    let commits = commits_inside x _ _ c.turn.view_is c.requires.value in
    let growth_is = ap (λ z. z - c.turn.inside.committed) seen in
    let is : get_or c.turn.inside.own.value (c.turn.inside.caller - 1) None ≡ Some c.in-Some.count =
    ap (λ (own : List (Option ℕ)). get_or own (c.turn.inside.caller - 1) None) (sym c.deref.ensures) ∙ c.in-Some.is in
    let fits = count_fits _ _ _ _ _ _ _ mirrors commits _ growth_is c.in-Some.count is in
    omega arith

pub fetch_add-requires : goal.fetch_add-requires
fetch_add-requires g c =
    let summary = summary_of g.T.Kept.setup g.T.Kept.committed g.T.Kept.entries in
    let mirrors = c.turn.invariant in
    let seen = c.committed-seen.ensures in
    let low = c.committed-seen.type_inv in
    let commits = commits_inside (summary c.args.value) _ _ c.turn.view_is c.requires.value in
    let growth_is = ap (λ z. z - c.turn.inside.committed) seen in
    let place = place_is _ _ _ _ _ _ _ mirrors commits _ growth_is in
    let inside = place_inside _ _ _ _ _ _ _ mirrors commits _ growth_is in
    let words = c.self.invariant.0 in (
      search rules,
      omega arith,
      publish_allowed _ _ _ _ _ _ _ mirrors commits _ growth_is summary _ _ _ _ _ (ap (λ z. z.0) c.exchange-slot.ensures.3) refl
          (let e = seen in omega arith),
    )

pub fetch_add-requires-2 : goal.fetch_add-requires-2
fetch_add-requires-2 g c =
    let summary = summary_of g.T.Kept.setup g.T.Kept.committed g.T.Kept.entries in
    let mirrors = c.turn.invariant in
    let seen = c.committed-seen.ensures in
    let commits = commits_inside (summary c.args.value) _ _ c.turn.view_is c.requires.value in
    let growth_is = ap (λ z. z - c.turn.inside.committed) seen in (
      search rules,
      search rules,
      pass_allowed _ _ _ _ _ _ _ mirrors commits _ growth_is summary _ c.args.value _ _ _ _ refl c.self.invariant.1
          c.exchange-slot.ensures.3 c.fetch_add.ensures.2,
    )

pub invariant_of-result : goal.invariant_of-result
invariant_of-result g c =
    let summary = summary_of g.T.Kept.setup g.T.Kept.committed g.T.Kept.entries in
    let mirrors = c.turn.invariant in
    let seen = c.committed-seen.ensures in
    let commits = commits_inside (summary c.args.value) _ _ c.turn.view_is c.requires.value in
    let growth_is = ap (λ z. z - c.turn.inside.committed) seen in
    let now = given_views _ _ _ _ _ _ _ mirrors commits _ growth_is c.args.value _ _ _ _ c.exchange-slot.ensures.3 c.fetch_add.ensures.2
    c.fetch_add-2.ensures.2 (sym c.into_badge.ensures.2) in
    let is : get_or c.turn.inside.own.value (c.turn.inside.caller - 1) None ≡ Some c.in-Some.count =
    ap (λ (own : List (Option ℕ)). get_or own (c.turn.inside.caller - 1) None) (sym c.deref.ensures) ∙ c.in-Some.is in
    rw c.deref_mut.ensures.value (mirrors_given _ _ _ _ _ _ _ mirrors commits _ growth_is _ _ _ now seen is)

pub returns : goal.returns
returns g c =
    let summary = summary_of g.T.Kept.setup g.T.Kept.committed g.T.Kept.entries in
    let mirrors = c.turn.invariant in
    let seen = c.committed-seen.ensures in
    let commits = commits_inside (summary c.args.value) _ _ c.turn.view_is c.requires.value in
    let growth_is = ap (λ z. z - c.turn.inside.committed) seen in
    let now = given_views _ _ _ _ _ _ _ mirrors commits _ growth_is c.args.value _ _ _ _ c.exchange-slot.ensures.3 c.fetch_add.ensures.2
    c.fetch_add-2.ensures.2 (sym c.into_badge.ensures.2) in
    let table : c.turn.inside.table_seat.table_id ≡ c.into_badge.result.table_id = search rules in
    let back = given_back_as _ _ _ _ _ c.turn.view_is (λ k. seat_of (table k) (view_of (sym now k)))
    (given_back _ _ _ _ _ _ _ mirrors commits _ growth_is c.turn.inside.table_seat.table_id) in record {
      seat = record { lock = back.lock; caller = back.caller; last = back.last };
      turns = back.turns;
      seen = back.seen;
      own = back.own;
      others = back.others;
    }
