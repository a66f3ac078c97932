-- A step that changes the stage of one seat, and at most the slot besides.
use Rattle.std.proofs.Common.{◌≡◌, ℕ, ◌+◌, List, [], ◌∷◌, set, refl, ap, ◌∙◌, arith, Option, Some}
use mathlib.Core.Option.{some}
use mathlib.Core.Option as maybe
use lib.ListN.{get_elem?}
use Rattle.atomic_table.specs.Table.{State}
use Rattle.turn_lock.specs.declared.view.Summary.{Summary}
use Rattle.turn_lock.specs.declared.view.SeatView.{SeatView}
use Rattle.turn_lock.specs.declared.view.Stage.{Stage}
use Rattle.turn_lock.specs.Summary.{HasGrown}
use Rattle.turn_lock.specs.View.{left_of, ticket_count, HasTicket, IsActive, IsHolding, at_stage}
use Rattle.turn_lock.specs.Rule.{StageFits, SeatFits, NoneHolds, KeepsRule}
use Rattle.turn_lock.proofs.Places.{sum_at}
use Rattle.turn_lock.proofs.SeatsStay.{queue_stays, none_held, speaks_stays, each_seat_stays}

module _ {T : Type 0} (summary : T → Summary) (o : Summary) where
  -- the slot has a value that has grown by the counts
  abbrev pub IsHome : List (maybe.Option (Option T)) → List ℕ → Type 0
  IsHome homes counts = (x : T) × (homes ≡ some (Some x) ∷ []) × HasGrown o counts (summary x)

  pub restages_with : (s : State (Option T) SeatView) (r : KeepsRule summary o s) (id : ℕ) (v : SeatView) (stage : Stage)
      (homes' : List (maybe.Option (Option T)))
      → get_elem? s.views id ≡ some v → IsActive v.stage → IsActive stage → ticket_count stage ≡ ticket_count v.stage
      → ((n : ℕ) → HasTicket v.stage n → HasTicket stage n) → StageFits r.ticket r.serving r.counts r.holder id stage
      → (NoneHolds (set s.views id (at_stage v stage)) → IsHome homes' r.counts)
      → KeepsRule summary o record { words = r.ticket ∷ r.serving ∷ r.counts; homes = homes'; views = set s.views id (at_stage v stage) }
  restages_with s r id v stage homes' at active stays_active as_many has fits home =
      let ok = r.each_seat id v at active in
      let w : SeatView = at_stage v stage in record {
        ticket = r.ticket;
        serving = r.serving;
        counts = r.counts;
        last = r.last;
        holder = r.holder;
        owner = r.owner;
        words = refl;
        places = r.places;
        order = r.order;
        queue = λ n low high. queue_stays s.views id (r.holder n) n v w at (has n) (r.queue n low high);
        given = r.given;
        spoken = λ i low. speaks_stays s.views id (r.owner i) i v w at stays_active (λ n e. (n, e)) (r.spoken i low);
        unused = r.unused;
        total = let e = sum_at left_of s.views id v w at in let now = r.total in omega arith;
        each_seat = each_seat_stays (λ j d. IsActive d.stage → SeatFits o r.ticket r.serving r.last r.counts r.holder r.owner j d) s.views id w
            (λ _. record {
              opening = ok.opening;
              stage = fits;
              places = ok.places;
              own = ok.own;
              speaks = ok.speaks;
              seen = ok.seen;
              left = ap (λ (k : ℕ). v.left + v.turns + k) as_many ∙ ok.left;
              holds_last = ok.holds_last;
              last_held = ok.last_held;
            })
            (λ j d _ there. r.each_seat j d there);
        at_home = home;
      }

  -- the slot stays as it is
  pub restages : (s : State (Option T) SeatView) (r : KeepsRule summary o s) (id : ℕ) (v : SeatView) (stage : Stage)
      → get_elem? s.views id ≡ some v → IsActive v.stage → IsActive stage → ticket_count stage ≡ ticket_count v.stage
      → ((n : ℕ) → HasTicket v.stage n → HasTicket stage n) → (IsHolding v.stage → IsHolding stage)
      → StageFits r.ticket r.serving r.counts r.holder id stage
      → KeepsRule summary o record { words = r.ticket ∷ r.serving ∷ r.counts; homes = s.homes; views = set s.views id (at_stage v stage) }
  restages s r id v stage at active stays_active as_many has holds fits =
      restages_with s r id v stage s.homes at active stays_active as_many has fits (λ free. r.at_home (none_held s.views id v (at_stage v stage) at holds free))
