use Rattle.std.proofs.Common.{rules, refl, sym, ap, subst, arith, ◌≡◌, ◌∙◌, ◌+◌, ◌∷◌, [], List, length, ℕ}
use Rattle.std.proofs.lemmas.List.{length-append}
use Rattle.turn_lock.specs.Seat.{SeatFields}
use Rattle.crew.specs.Works.{AreFrom, HasJoined, IsFirst, IsOther}
use Rattle.crew.proofs.Speaking.{from_unused, split_last}
use Rattle.soup_watch.specs.Seats.{HasLooked, IsLead, lead_turns}
use Rattle.soup_watch.proofs.Seating.{lead_done}
use Rattle.soup_watch.proofs.watching.with_observer.Goals as goal

pub join_mut-seen-requires-after_bounds : goal.join_mut-seen-requires-after_bounds
join_mut-seen-requires-after_bounds g c κs within =
    let at = c.args.lock.now in
    let xs = c.pop.new.self.items in
    let last = c.in-Some.last in
    let first = c.requires.first in
    let parts = split_last (λ k s. IsOther at (2 + k) s) xs last (subst (AreFrom at 2) c.in-Some.ensures.items c.requires.others) in
    let is : c.caller-observer.result ≡ 2 + length xs = c.caller-observer.ensures.own ∙ parts.1.caller_is in (
      (search rules, (last, refl, subst (λ (k : ℕ). IsOther at k last) (sym is) parts.1), c.requires.few),
      (
        ((search rules, search rules), (c.args.first, refl, record { lock = first.lock; turns = first.turns }), from_unused at 2 xs parts.0),
        (search rules, search rules),
      ),
    )

pub returns : goal.returns
returns g c =
    let at = c.args.lock.now in
    let xs = c.pop.new.self.items in
    let last = c.in-Some.last in
    let lead = c.join_mut-seen.result.1 in
    let parts = split_last (λ k s. IsOther at (2 + k) s) xs last (subst (AreFrom at 2) c.in-Some.ensures.items c.requires.others) in
    let len : length c.args.others.items ≡ length xs + 1 =
    omega (arith, ap (λ (ys : List SeatFields). length ys) c.in-Some.ensures.items, length-append xs (last ∷ [])) in
    let callers : length c.args.others.items + 2 ≡ length xs + 3 = omega (arith, len) in
    let number : length xs + 2 ≡ length c.args.others.items + 1 = omega (arith, len) in
    let is : c.caller-observer.result ≡ length c.args.others.items + 1 =
    c.caller-observer.ensures.own ∙ parts.1.caller_is ∙ (let e : 2 + length xs ≡ length c.args.others.items + 1 = omega (arith, len) in e) in
    let joined : HasJoined xs c.args.first lead = search rules in
    let looked : HasLooked at c.caller-observer.result c.in_ok-observer.observer = search rules in
    let done = lead_done at xs c.args.first lead (subst (λ (k : ℕ). IsFirst at k c.args.first) callers c.requires.first)
    (omega (arith, len, c.requires.callers.1)) parts.0 joined in
    record {
      lead = subst (λ (k : ℕ). IsLead at k lead_turns lead) number done;
      looked = subst (λ (k : ℕ). HasLooked at k c.in_ok-observer.observer) is looked;
      seen = search rules;
      room = search rules;
    }
