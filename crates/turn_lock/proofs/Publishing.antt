-- Publishing a growth keeps the rule.
use Rattle.std.proofs.Common.{◌≡◌, ℕ, suc, ◌+◌, ◌%◌, ◌^◌, ◌<◌, ◌≤◌, List, ◌∷◌, length, get_or, set, sym, refl, ap, ◌∙◌, subst, arith, Option, Some, None}
use Rattle.std.proofs.Common.{length-set, get_or-set_other, get_or-set_same}
use Rattle.std.specs.Prelude.{sum}
use mathlib.Core.Logic.{dite}
use mathlib.Core.Option.{none}
use native.Mathlib.Decide.{ℕ_discrete}
use Rattle.std.proofs.lemmas.List.Sums.{get_or-le-sum_by}
use Rattle.std.proofs.lemmas.Option.{same_Some}
use Rattle.atomic_table.specs.Table.{step, Act, keeps, stepped, carried_after, Valid, Allows}
use Rattle.atomic_table.proofs.Lists.{set_here}
use Rattle.turn_lock.specs.declared.view.Summary.{Summary}
use Rattle.turn_lock.specs.declared.view.SeatView.{SeatView}
use Rattle.turn_lock.specs.declared.view.Stage.{Stage}
use Rattle.turn_lock.specs.declared.view.Stage.TheVariants.{Holding}
use Rattle.turn_lock.specs.View.{left_of, ticket_count, ticket_of, counts_read, HasTicket, IsActive, after_publish}
use Rattle.turn_lock.specs.Rule.{StageFits, SeatFits, KeepsRule}
use Rattle.turn_lock.specs.Steps.{TableSeat, Publishes}
use Rattle.turn_lock.proofs.Places.{inside, sum_at, sum_set}
use Rattle.turn_lock.proofs.OwnCounts.{count-set}
use Rattle.turn_lock.proofs.Stages.{fits_after_publish}
use Rattle.turn_lock.proofs.SeatsStay.{queue_stays, speaks_stays, each_seat_stays}

module _ {T : Type 0} (summary : T → Summary) (o : Summary) where
  pub publishes : (slots id t word growth : ℕ) (counts : List ℕ) (a : TableSeat T) → a.0.stage ≡ Holding t counts → word ≡ a.0.place + 2
      → a.0.opening.committed + sum counts + growth < 2 ^ 64
      → Allows (KeepsRule summary o) slots id a word (λ n. (n + growth) % 2 ^ 64) (Publishes (step slots word growth 0 none) a)
  publishes slots id t word growth counts a holding is room s r deep at fit =
      let v : SeatView = a.0 in
      let active : IsActive v.stage = subst IsActive (sym holding) tt in
      let ok = r.each_seat id v at active in
      let mine : StageFits r.ticket r.serving r.counts r.holder id (Holding t counts) =
      subst (StageFits r.ticket r.serving r.counts r.holder id) holding ok.stage in
      let c : ℕ = v.place in
      let speaks = ok.speaks in
      let spoken = ok.own c speaks.0 speaks.1 in
      let places = r.places in
      let given = r.given in
      let c_given : c < r.last = spoken.0 in
      let c_inside : c < length r.counts = omega arith in
      let n : ℕ = get_or r.counts c 0 in
      let n' : ℕ = n + growth in
      let cs : List ℕ = set r.counts c n' in
      let sums : sum cs + n ≡ sum r.counts + n' = sum_set r.counts c n' c_inside in
      let same_sum : sum counts ≡ sum r.counts = ap sum mine.3 in
      let part : n ≤ sum r.counts = get_or-le-sum_by (λ (z : ℕ). z) r.counts c 0 c_inside in
      let fits : (n + growth) % 2 ^ 64 ≡ n' = omega arith in
      let w : SeatView = record v { stage = Holding t cs; own = set v.own c (Some n'); seen = v.opening.committed + sum cs } in
      let w_is : w ≡ after_publish v growth =
      ap (λ (z : Stage). let l : List ℕ = set (counts_read z) c (get_or (counts_read z) c 0 + growth) in
      record v { stage = Holding (ticket_of z) l; own = set v.own c (Some (get_or (counts_read z) c 0 + growth)); seen = v.opening.committed + sum l })
      (sym (holding ∙ ap (λ (l : List ℕ). Holding t l) mine.3)) in
      let id_is : r.holder r.serving ≡ id = ap r.holder (sym mine.0) ∙ mine.2 in
      let own_inside : c < length v.own = let h = ok.places in omega arith in
      let new : KeepsRule summary o record { words = r.ticket ∷ r.serving ∷ cs; homes = s.homes; views = set s.views id w } = record {
        ticket = r.ticket;
        serving = r.serving;
        counts = cs;
        last = r.last;
        holder = r.holder;
        owner = r.owner;
        words = refl;
        places = length-set r.counts c n' ∙ r.places;
        order = r.order;
        queue = λ k low high. queue_stays s.views id (r.holder k) k v w at (λ h. subst (λ (z : Stage). HasTicket z k) holding h) (r.queue k low high);
        given = r.given;
        spoken = λ i low. speaks_stays s.views id (r.owner i) i v w at tt
            (λ k e. dite (ℕ_discrete i c) (λ same. (
              n',
              ap (λ (z : ℕ). get_or (set v.own c (Some n')) z None) same
                  ∙ get_or-set_same v.own c (Some n') None own_inside,
            )) (λ other. (k, get_or-set_other v.own c i (Some n') None other ∙ e)))
            (r.spoken i low);
        unused = λ i high. get_or-set_other r.counts c i n' 0 (λ e. omega arith) ∙ r.unused i high;
        total = let e = sum_at left_of s.views id v w at in let now = r.total in omega arith;
        each_seat = each_seat_stays (λ j d. IsActive d.stage → SeatFits o r.ticket r.serving r.last cs r.holder r.owner j d) s.views id w
            (λ _. record {
              opening = ok.opening;
              stage = (mine.0, mine.1, mine.2, refl);
              places = length-set v.own c (Some n') ∙ ok.places;
              own = λ i k e. dite (ℕ_discrete i c)
                  (λ same. let here : Some n' ≡ Some k =
                  sym (ap (λ (z : ℕ). get_or (set v.own c (Some n')) z None) same ∙ get_or-set_same v.own c (Some n') None own_inside) ∙ e in (
                    omega arith,
                    ap r.owner same ∙ spoken.1,
                    ap (λ (z : ℕ). get_or cs z 0) same
                        ∙ (get_or-set_same r.counts c n' 0 c_inside ∙ same_Some n' k here),
                  ))
                  (λ other. let old = ok.own i k (sym (get_or-set_other v.own c i (Some n') None other) ∙ e) in
                  (old.0, old.1, get_or-set_other r.counts c i n' 0 other ∙ old.2));
              speaks = (n', get_or-set_same v.own c (Some n') None own_inside);
              seen = let e : v.opening.committed ≡ o.committed = ap (λ (z : Summary). z.committed) ok.opening in omega arith;
              left = let e = count-set v.own c speaks.0 n' speaks.1 in let b = ok.left in let k : ticket_count v.stage ≡ 1 =
                  ap ticket_count holding in omega arith;
              holds_last = λ k e. dite (ℕ_discrete 0 c)
                  (λ same. ok.holds_last speaks.0 (ap (λ (z : ℕ). get_or v.own z None) same ∙ speaks.1))
                  (λ other. ok.holds_last k (sym (get_or-set_other v.own c 0 (Some n') None other) ∙ e));
              last_held = λ k e. let h = ok.last_held k e in (
                h.0,
                dite (ℕ_discrete 0 c)
                    (λ same. (n', ap (λ (z : ℕ). get_or (set v.own c (Some n')) z None) same ∙ get_or-set_same v.own c (Some n') None own_inside))
                    (λ other. (h.1.0, get_or-set_other v.own c 0 (Some n') None other ∙ h.1.1)),
              );
            })
            (λ j d other there lives. let k = r.each_seat j d there lives in record {
              opening = k.opening;
              stage = fits_after_publish r.ticket r.serving r.counts r.holder cs j d.stage (λ e. other (e ∙ id_is)) k.stage;
              places = k.places;
              own = λ i l e. let old =
                  k.own i l e in (old.0, old.1, get_or-set_other r.counts c i n' 0 (λ same. other (sym old.1 ∙ (ap r.owner same ∙ spoken.1))) ∙ old.2);
              speaks = k.speaks;
              seen = let b = k.seen in omega arith;
              left = k.left;
              holds_last = k.holds_last;
              last_held = k.last_held;
            });
        at_home = λ free. absurd (free id w (set_here s.views id w (inside s.views id v at)) tt);
      } in
      let at_word : suc (suc c) ≡ word = omega arith in
      let Goal : List ℕ × ℕ → Type 0 = λ p. (w : SeatView) × (x : Act (Option T)) × Valid s.homes a.1 x
      × KeepsRule summary o (stepped (record { words = p.0; homes = s.homes; views = s.views }) p.1 ((get_or p.0 p.1 0 + growth) % 2 ^ 64) id a.1 w x)
      × Publishes (step slots p.1 growth 0 none) a (get_or p.0 p.1 0) (w, carried_after a.1 x) in
      subst Goal (λ k. (sym r.words k, at_word k)) (
        w,
        keeps,
        tt,
        subst (λ (z : ℕ). KeepsRule summary o record { words = r.ticket ∷ r.serving ∷ set r.counts c z; homes = s.homes; views = set s.views id w })
            (sym fits) new,
        ap (λ (z : SeatView). (z, a.1)) w_is,
      )
