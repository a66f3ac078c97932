-- Passing on keeps the rule, where the value that is put back has grown by the counts.
use Rattle.std.proofs.Common.{◌≡◌, ℕ, ◌+◌, ◌%◌, ◌^◌, List, [], ◌∷◌, get_or, set, sym, refl, ap, ◌∙◌, subst, arith, Option, Some}
use mathlib.Core.Option.{none, some}
use Rattle.atomic_table.specs.Table.{step, Act, gives, stepped, carried_after, homes_after, put_back, Valid, Allows}
use Rattle.turn_lock.specs.declared.view.Summary.{Summary}
use Rattle.turn_lock.specs.declared.view.SeatView.{SeatView}
use Rattle.turn_lock.specs.declared.view.Stage.{Stage}
use Rattle.turn_lock.specs.declared.view.Stage.TheVariants.{Holding}
use Rattle.turn_lock.specs.Summary.{HasGrown}
use Rattle.turn_lock.specs.View.{left_of, ticket_count, HasTicket, IsActive, after_pass}
use Rattle.turn_lock.specs.Rule.{StageFits, SeatFits, KeepsRule}
use Rattle.turn_lock.specs.Steps.{TableSeat, PassesOn}
use Rattle.turn_lock.proofs.Places.{sum_at, set_one}
use Rattle.turn_lock.proofs.Stages.{fits_after_pass}
use Rattle.turn_lock.proofs.SeatsStay.{queue_stays, speaks_stays, each_seat_stays}

module _ {T : Type 0} (summary : T → Summary) (o : Summary) where
  pub passes_on : (slots id t : ℕ) (counts : List ℕ) (x : T) (a : TableSeat T) → slots ≡ 1 → a.0.stage ≡ Holding t counts
      → a.1 ≡ (0, Some x) ∷ [] → HasGrown a.0.opening counts (summary x)
      → Allows (KeepsRule summary o) slots id a 1 (λ n. (n + 1) % 2 ^ 64) (PassesOn (step slots 1 1 0 none) a)
  passes_on slots id t counts x a one holding carried value s r deep at fit =
      let v : SeatView = a.0 in
      let active : IsActive v.stage = subst IsActive (sym holding) tt in
      let ok = r.each_seat id v at active in
      let mine : StageFits r.ticket r.serving r.counts r.holder id (Holding t counts) =
      subst (StageFits r.ticket r.serving r.counts r.holder id) holding ok.stage in
      let id_is : r.holder r.serving ≡ id = ap r.holder (sym mine.0) ∙ mine.2 in
      let w : SeatView = after_pass v in
      let served : ℕ = r.serving in
      let is_served = mine.0 in
      let drawn = mine.1 in
      let given = r.given in
      let total = r.total in
      let fits : (served + 1) % 2 ^ 64 ≡ served + 1 = omega arith in
      let back : homes_after s.homes a.1 gives ≡ some (Some x) ∷ [] =
      ap (λ (c : List (ℕ × Option T)). put_back s.homes c) carried ∙ set_one s.homes (some (Some x)) (deep ∙ one) in
      let home : HasGrown o r.counts (summary x) = subst (λ (p : Summary × List ℕ). HasGrown p.0 p.1 (summary x)) (λ k. (ok.opening k, mine.3 k)) value in
      let new : KeepsRule summary o record { words = r.ticket ∷ (served + 1) ∷ r.counts; homes = homes_after s.homes a.1 gives; views = set s.views id w } =
      record {
        ticket = r.ticket;
        serving = served + 1;
        counts = r.counts;
        last = r.last;
        holder = r.holder;
        owner = r.owner;
        words = refl;
        places = r.places;
        order = omega arith;
        queue = λ k low high. queue_stays s.views id (r.holder k) k v w at (λ h. let e : t ≡ k =
            subst (λ (z : Stage). HasTicket z k) holding h in absurd (omega arith)) (r.queue k (omega arith) high);
        given = r.given;
        spoken = λ i low. speaks_stays s.views id (r.owner i) i v w at tt (λ n e. (n, e)) (r.spoken i low);
        unused = r.unused;
        total = let e = sum_at left_of s.views id v w at in omega arith;
        each_seat = each_seat_stays (λ j d. IsActive d.stage → SeatFits o r.ticket (served + 1) r.last r.counts r.holder r.owner j d) s.views id w
            (λ _. record {
              opening = ok.opening;
              stage = tt;
              places = ok.places;
              own = ok.own;
              speaks = ok.speaks;
              seen = ok.seen;
              left = let b = ok.left in let k : ticket_count v.stage ≡ 1 = ap ticket_count holding in omega arith;
              holds_last = ok.holds_last;
              last_held = ok.last_held;
            })
            (λ j d other there lives. let k = r.each_seat j d there lives in record {
              opening = k.opening;
              stage = fits_after_pass r.ticket served r.counts r.holder j d.stage (λ e. other (e ∙ id_is)) k.stage;
              places = k.places;
              own = k.own;
              speaks = k.speaks;
              seen = k.seen;
              left = k.left;
              holds_last = k.holds_last;
              last_held = k.last_held;
            });
        at_home = λ _. (x, back, home);
      } in
      let Goal : List ℕ → Type 0 = λ ws. (w : SeatView) × (y : Act (Option T)) × Valid s.homes a.1 y
      × KeepsRule summary o (stepped (record { words = ws; homes = s.homes; views = s.views }) 1 ((get_or ws 1 0 + 1) % 2 ^ 64) id a.1 w y)
      × PassesOn (step slots 1 1 0 none) a (get_or ws 1 0) (w, carried_after a.1 y) in
      subst Goal (sym r.words) (
        w,
        gives,
        tt,
        subst (λ (z : ℕ). KeepsRule summary o record { words = r.ticket ∷ z ∷ r.counts; homes = homes_after s.homes a.1 gives; views = set s.views id w })
            (sym fits) new,
        refl,
      )
