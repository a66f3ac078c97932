-- Drawing a ticket keeps the rule.
use Rattle.std.proofs.Common.{◌≡◌, ℕ, ◌+◌, ◌-◌, ◌*◌, ◌%◌, ◌^◌, ◌<◌, List, ◌∷◌, get_or, set, sym, refl, subst, arith, Option}
use Rattle.std.specs.Prelude.{sum_by, count_by, is_some}
use mathlib.Core.Logic.{dite}
use mathlib.Core.Option.{none, some}
use native.Mathlib.Decide.{ℕ_discrete}
use lib.ListN.{get_elem?}
use Rattle.atomic_table.specs.Table.{step, Act, keeps, stepped, carried_after, Valid, Allows}
use Rattle.atomic_table.proofs.Lists.{set_here}
use Rattle.turn_lock.specs.declared.view.Summary.{Summary}
use Rattle.turn_lock.specs.declared.view.SeatView.{SeatView}
use Rattle.turn_lock.specs.declared.view.Stage.{Stage}
use Rattle.turn_lock.specs.declared.view.Stage.TheVariants.{Idle}
use Rattle.turn_lock.specs.View.{most_tickets, left_of, ticket_count, HasTicket, IsActive, IsHolding, after_draw}
use Rattle.turn_lock.specs.Rule.{SeatFits, KeepsRule}
use Rattle.turn_lock.specs.Steps.{TableSeat, DrawsTicket}
use Rattle.turn_lock.proofs.Places.{put, put_here, put_else, inside, sum_at}
use Rattle.turn_lock.proofs.OwnCounts.{count_some}
use Rattle.turn_lock.proofs.Stages.{fits_after_draw}
use Rattle.turn_lock.proofs.SeatsStay.{queue_stays, none_held, speaks_stays, each_seat_stays}

module _ {T : Type 0} (summary : T → Summary) (o : Summary) where
  pub draws : (slots id : ℕ) (a : TableSeat T) → a.0.stage ≡ Idle → a.0.turns < most_tickets
      → Allows (KeepsRule summary o) slots id a 0 (λ n. (n + 1) % 2 ^ 64) (DrawsTicket (step slots 0 1 0 none) a)
  draws slots id a idle room s r deep at fit =
      let v : SeatView = a.0 in
      let active : IsActive v.stage = subst IsActive (sym idle) tt in
      let ok = r.each_seat id v at active in
      let left : v.left + v.turns + 0 ≡ most_tickets * count_by is_some v.own =
      subst (λ (stage : Stage). v.left + v.turns + ticket_count stage ≡ most_tickets * count_by is_some v.own) idle ok.left in
      let at_least = count_some v.own v.place ok.speaks.0 ok.speaks.1 in
      let t : ℕ = r.ticket in
      let w : SeatView = after_draw v t in
      let most = r.given.1 in
      let total = r.total in
      let fits : (t + 1) % 2 ^ 64 ≡ t + 1 = omega arith in
      let moved : sum_by left_of (set s.views id w) + v.left ≡ sum_by left_of s.views + (v.left - 1) = sum_at left_of s.views id v w at in
      let order = r.order in
      let new : KeepsRule summary o record { words = (t + 1) ∷ r.serving ∷ r.counts; homes = s.homes; views = set s.views id w } = record {
        ticket = t + 1;
        serving = r.serving;
        counts = r.counts;
        last = r.last;
        holder = put r.holder t id;
        owner = r.owner;
        words = refl;
        places = r.places;
        order = omega arith;
        queue = λ n low high. dite (ℕ_discrete n t)
            (λ e. (
              w,
              subst (λ (j : ℕ). get_elem? (set s.views id w) j ≡ some w) (sym (put_here r.holder t id n e))
                  (set_here s.views id w (inside s.views id v at)),
              sym e,
            ))
            (λ ne. subst (λ (j : ℕ). (u : SeatView) × (get_elem? (set s.views id w) j ≡ some u) × HasTicket u.stage n) (sym (put_else r.holder t id n ne))
            (queue_stays s.views id (r.holder n) n v w at (λ h. absurd (subst (λ (stage : Stage). HasTicket stage n) idle h)) (r.queue n low (omega arith))));
        given = r.given;
        spoken = λ i low. speaks_stays s.views id (r.owner i) i v w at tt (λ n e. (n, e)) (r.spoken i low);
        unused = r.unused;
        total = omega arith;
        each_seat = each_seat_stays (λ j d. IsActive d.stage → SeatFits o (t + 1) r.serving r.last r.counts (put r.holder t id) r.owner j d) s.views id w
            (λ _. record {
              opening = ok.opening;
              stage = (order, omega arith, put_here r.holder t id t refl);
              places = ok.places;
              own = ok.own;
              speaks = ok.speaks;
              seen = ok.seen;
              left = omega arith;
              holds_last = ok.holds_last;
              last_held = ok.last_held;
            })
            (λ j d _ there lives. let k = r.each_seat j d there lives in record {
              opening = k.opening;
              stage = fits_after_draw t r.serving r.counts r.holder id j d.stage k.stage;
              places = k.places;
              own = k.own;
              speaks = k.speaks;
              seen = k.seen;
              left = k.left;
              holds_last = k.holds_last;
              last_held = k.last_held;
            });
        at_home = λ free. r.at_home (none_held s.views id v w at (λ h. absurd (subst IsHolding idle h)) free);
      } in
      let Goal : List ℕ → Type 0 = λ ws. (w : SeatView) × (x : Act (Option T)) × Valid s.homes a.1 x
      × KeepsRule summary o (stepped (record { words = ws; homes = s.homes; views = s.views }) 0 ((get_or ws 0 0 + 1) % 2 ^ 64) id a.1 w x)
      × DrawsTicket (step slots 0 1 0 none) a (get_or ws 0 0) (w, carried_after a.1 x) in
      subst Goal (sym r.words) (
        w,
        keeps,
        tt,
        subst (λ (x : ℕ). KeepsRule summary o record { words = x ∷ r.serving ∷ r.counts; homes = s.homes; views = set s.views id w }) (sym fits) new,
        refl,
      )
