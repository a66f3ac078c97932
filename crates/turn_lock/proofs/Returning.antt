-- What the steps of `give` say together.
use Rattle.std.proofs.Common.{◌≡◌, ◌≢◌, ℕ, zero, suc, ◌+◌, ◌-◌, ◌%◌, ◌^◌, ◌<◌, ◌≤◌, List, [], ◌∷◌, length, get_or, set, sym, refl, ap, ◌∙◌, subst, arith}
use Rattle.std.proofs.Common.{Option, Some, None, length-set, get_or-set_other, get_or-set_same}
use Rattle.std.specs.Prelude.{sum, IsSomeAnd}
use mathlib.Core.Logic.{dite}
use mathlib.Core.Option.{none}
use native.Mathlib.Decide.{ℕ_discrete}
use Rattle.std.proofs.lemmas.List.Sums.{get_or-le-sum_by}
use Rattle.atomic_table.specs.Table.{rest, step, Allows}
use Rattle.atomic_table.specs.Seated.{TableId}
use Rattle.turn_lock.specs.declared.view.Summary.{Summary}
use Rattle.turn_lock.specs.declared.view.SeatView.{SeatView}
use Rattle.turn_lock.specs.Summary.{Commits, HasGrown}
use Rattle.turn_lock.specs.Seat.{SeatFields, TurnFields, own_of}
use Rattle.turn_lock.specs.View.{ticket_of, counts_read, grown_counts, after_publish, after_pass}
use Rattle.turn_lock.specs.Rule.{KeepsRule}
use Rattle.turn_lock.specs.Steps.{TableSeat, Publishes, PassesOn}
use Rattle.turn_lock.specs.Mirrors.{seat_of, MirrorsSeat, MirrorsTurn}
use Rattle.turn_lock.proofs.Places.{sum_set}
use Rattle.turn_lock.proofs.OwnCounts.{owned_inside}
use Rattle.turn_lock.proofs.Publishing.{publishes}
use Rattle.turn_lock.proofs.Passing.{passes_on}

pub commits_inside : (x : Summary) (t u : TurnFields) → t ≡ u → Commits u.seat.caller u.taken x → Commits t.seat.caller t.taken x
commits_inside x t u e commits = subst (λ (z : TurnFields). Commits z.seat.caller z.taken x) (sym e) commits

-- the value that is given back has grown by the counts with the growth
grown_more : (o : Summary) (counts : List ℕ) (x y : Summary) (c growth : ℕ) → HasGrown o counts y → Commits (suc c) y x → c < 64
    → length counts ≡ 64 → growth ≡ x.committed - y.committed → HasGrown o (set counts c (get_or counts c 0 + growth)) x
grown_more o counts x y c growth grown commits inside long is =
    let k : ℕ = get_or counts c 0 in
    let more = commits.committed in
    let was = grown.committed in
    let c_inside : c < length counts = omega arith in
    let sums : sum (set counts c (k + growth)) + k ≡ sum counts + (k + growth) = sum_set counts c (k + growth) c_inside in record {
      setup = commits.setup ∙ grown.setup;
      committed = omega arith;
      entries = λ i lt. dite (ℕ_discrete i c)
          (λ e. let a = commits.own in let b = grown.entries c inside in let d : get_or (set counts c (k + growth)) c 0 ≡ k + growth =
          get_or-set_same counts c (k + growth) 0 c_inside in
          ap (λ (j : ℕ). get_or x.entries j 0) e ∙ (let h : get_or x.entries c 0
          ≡ get_or o.entries c 0 + get_or (set counts c (k + growth)) c 0 = omega arith in h)
          ∙ ap (λ (j : ℕ). get_or o.entries j 0 + get_or (set counts c (k + growth)) j 0) (sym e))
          (λ other. commits.others (suc i) (omega arith) (omega arith) (λ h. other (omega arith))
          ∙ (grown.entries i lt ∙ ap (λ (z : ℕ). get_or o.entries i 0 + z) (sym (get_or-set_other counts c i (k + growth) 0 other))));
    }

-- the own count of the seat's own caller rose by the growth, and no other changed

own_rose : (s t : SeatFields) (p n growth : ℕ) → s.caller ≡ suc p → get_or s.own p None ≡ Some n → t.own ≡ set s.own p (Some (n + growth))
    → IsSomeAnd (own_of s s.caller) (λ k. own_of t s.caller ≡ Some (k + growth))
own_rose s t p n growth is e own =
    let inside = owned_inside s.own p n e in
    let now : get_or t.own p None ≡ Some (n + growth) =
    ap (λ (l : List (Option ℕ)). get_or l p None) own ∙ get_or-set_same s.own p (Some (n + growth)) None inside in
    subst (λ (c : ℕ). IsSomeAnd (own_of s c) (λ k. own_of t c ≡ Some (k + growth))) (sym is)
    (subst (λ (z : Option ℕ). IsSomeAnd z (λ k. get_or t.own p None ≡ Some (k + growth))) (sym e) now)

own_same : (s t : SeatFields) (p n : ℕ) → s.caller ≡ suc p → t.own ≡ set s.own p (Some n) → (c : ℕ) → c ≢ s.caller → own_of t c ≡ own_of s c
own_same s t p n is own zero other = refl
own_same s t p n is own (suc c) other =
    ap (λ (l : List (Option ℕ)). get_or l c None) own ∙ get_or-set_other s.own p c (Some n) None (λ e. other (ap suc e ∙ sym is))

-- the seat after the turn, where this value was given back
pub record IsGivenBack (turn : TurnFields) (x : Summary) (seat : SeatFields) : Type 0 where
  pub lock : seat.lock ≡ turn.seat.lock
  pub caller : seat.caller ≡ turn.seat.caller
  pub turns : seat.turns ≡ turn.seat.turns + 1
  pub seen : seat.seen ≡ x.committed
  pub last : seat.last_caller ≡ turn.seat.last_caller
  pub own : IsSomeAnd (own_of turn.seat turn.seat.caller) (λ n. own_of seat turn.seat.caller ≡ Some (n + (x.committed - turn.taken.committed)))
  pub others : (c : ℕ) → c ≢ turn.seat.caller → own_of seat c ≡ own_of turn.seat c

pub given_back_as : (t u : TurnFields) (x : Summary) (s s' : SeatFields) → t ≡ u → s ≡ s' → IsGivenBack t x s → IsGivenBack u x s'
given_back_as t u x s s' same_turn same_seat h = subst (λ (p : TurnFields × SeatFields). IsGivenBack p.0 x p.1) (λ k. (same_turn k, same_seat k)) h

module _ {T : Type 0} (a : TableSeat T) (caller turns committed : ℕ) (own : List (Option ℕ)) (x y : Summary)
    (mirrors : MirrorsTurn a caller turns committed own y) (commits : Commits (suc a.0.place) y x) (growth : ℕ)
    (growth_is : growth ≡ x.committed - committed) where
  abbrev counts : List ℕ
  counts = counts_read a.0.stage

  abbrev given_view : SeatView
  given_view = after_pass (after_publish a.0 growth)

  growth_of : growth ≡ x.committed - y.committed
  growth_of = growth_is ∙ ap (λ (z : ℕ). x.committed - z) mirrors.committed_is

  pub place_inside : a.0.place < 64
  place_inside =
      let places = mirrors.places in
      let same = ap length mirrors.own_is in
      let inside = owned_inside a.0.own a.0.place mirrors.speaks.0 mirrors.speaks.1 in
      omega arith

  pub place_is : caller - 1 ≡ a.0.place
  place_is = let e = mirrors.caller_is in omega arith

  count_is : (count : ℕ) → get_or own (caller - 1) None ≡ Some count → get_or counts a.0.place 0 ≡ count
  count_is count e = mirrors.read_own a.0.place count (sym (λ k. get_or (mirrors.own_is k) (place_is k) None) ∙ e)

  growth_fits : a.0.opening.committed + sum counts + growth ≡ x.committed
  growth_fits = let grown = mirrors.grown.committed in let g = growth_of in let more = commits.committed in omega arith

  pub count_fits : (count : ℕ) → get_or own (caller - 1) None ≡ Some count → count + growth ≤ x.committed
  count_fits count e =
      let all = mirrors.read_all in
      let inside = place_inside in
      let is = count_is count e in
      let part : get_or counts a.0.place 0 ≤ sum counts = get_or-le-sum_by (λ (z : ℕ). z) counts a.0.place 0 (omega arith) in
      let total = growth_fits in
      omega arith

  returned : HasGrown a.0.opening (grown_counts a.0 growth) x
  returned = grown_more a.0.opening counts x y a.0.place growth mirrors.grown commits place_inside mirrors.read_all growth_of

  seen_is : given_view.seen ≡ x.committed
  seen_is = sym returned.committed

  pub mirrors_given : (views : List SeatView) (seen count : ℕ) → views ≡ given_view ∷ [] → seen ≡ x.committed
      → get_or own (caller - 1) None ≡ Some count
      → MirrorsSeat views caller (turns + 1) seen (set own (caller - 1) (Some (count + growth)))
  mirrors_given views seen count one is e =
      let p : ℕ = a.0.place in
      let places = mirrors.places in
      let same = ap length mirrors.own_is in
      let own_inside : p < length a.0.own = let h = place_inside in omega arith in
      let given : MirrorsSeat (given_view ∷ []) caller (turns + 1) seen (set own (caller - 1) (Some (count + growth))) = record {
        one = refl;
        idle = refl;
        caller_is = mirrors.caller_is;
        turns_are = ap (λ (z : ℕ). z + 1) mirrors.turns_are;
        seen_is = is ∙ sym seen_is;
        own_is = λ k. set (mirrors.own_is k) (place_is k) (Some (sym (count_is count e) k + growth));
        places = length-set own (caller - 1) (Some (count + growth)) ∙ mirrors.places;
        speaks = (get_or counts p 0 + growth, get_or-set_same a.0.own p (Some (get_or counts p 0 + growth)) None own_inside);
      } in
      subst (λ (l : List SeatView). MirrorsSeat l caller (turns + 1) seen (set own (caller - 1) (Some (count + growth)))) (sym one) given

  pub given_back : (table : TableId) → IsGivenBack (record { seat = seat_of table a.0; taken = y }) x (seat_of table given_view)
  given_back table =
      let s : SeatFields = seat_of table a.0 in
      let t : SeatFields = seat_of table given_view in
      let n : ℕ = mirrors.speaks.0 in
      let rose : t.own ≡ set s.own a.0.place (Some (n + (x.committed - y.committed))) =
      λ k. set a.0.own a.0.place (Some (mirrors.read_own a.0.place n mirrors.speaks.1 k + growth_of k)) in record {
        lock = refl;
        caller = refl;
        turns = refl;
        seen = seen_is;
        last = refl;
        own = own_rose s t a.0.place n (x.committed - y.committed) refl mirrors.speaks.1 rose;
        others = own_same s t a.0.place (n + (x.committed - y.committed)) refl rose;
      }

  -- the steps, where the slot has the value z again

  pub publish_allowed : (summary : T → Summary) (o : Summary) (slots id word : ℕ) (b : TableSeat T) → b.0 ≡ a.0 → word ≡ caller - 1 + 2
      → x.committed < 2 ^ 64
      → Allows (KeepsRule summary o) slots id b word (λ n. (n + growth) % 2 ^ 64) (Publishes (step slots word growth 0 none) b)
  publish_allowed summary o slots id word b e is low =
      let place = place_is in
      let same : b.0.place ≡ a.0.place = ap (λ (v : SeatView). v.place) e in
      let began : b.0.opening.committed ≡ a.0.opening.committed = ap (λ (v : SeatView). v.opening.committed) e in
      let total = growth_fits in
      publishes summary o slots id (ticket_of a.0.stage) word growth counts b (ap (λ (v : SeatView). v.stage) e ∙ mirrors.holding) (omega arith) (omega arith)

  published_seat : (z : T) (b d : TableSeat T) → b ≡ (a.0, (0, Some z) ∷ rest a.1) → d ≡ (after_publish b.0 growth, b.1)
      → d ≡ (after_publish a.0 growth, (0, Some z) ∷ [])
  published_seat z b d hb hd =
      hd ∙ (ap (λ (u : TableSeat T). (after_publish u.0 growth, u.1)) hb
      ∙ ap (λ (l : List (ℕ × Option T)). (after_publish a.0 growth, (0, Some z) ∷ rest l)) mirrors.slot)

  pub pass_allowed : (summary : T → Summary) (o : Summary) (z : T) (slots id : ℕ) (b d : TableSeat T) → summary z ≡ x → slots ≡ 1
      → b ≡ (a.0, (0, Some z) ∷ rest a.1) → d ≡ (after_publish b.0 growth, b.1)
      → Allows (KeepsRule summary o) slots id d 1 (λ n. (n + 1) % 2 ^ 64) (PassesOn (step slots 1 1 0 none) d)
  pass_allowed summary o z slots id b d is one hb hd =
      let now = published_seat z b d hb hd in
      passes_on summary o slots id (ticket_of a.0.stage) (grown_counts a.0 growth) z d one (ap (λ (u : TableSeat T). u.0.stage) now)
      (ap (λ (u : TableSeat T). u.1) now)
      (subst (λ (p : TableSeat T × Summary). HasGrown p.0.0.opening (grown_counts a.0 growth) p.1) (λ k. (sym now k, sym is k)) returned)

  pub given_views : (z : T) (b d e : TableSeat T) (views : List SeatView) → b ≡ (a.0, (0, Some z) ∷ rest a.1)
      → d ≡ (after_publish b.0 growth, b.1) → e ≡ (after_pass d.0, rest d.1) → e.0 ∷ [] ≡ views → views ≡ given_view ∷ []
  given_views z b d e views hb hd he hv = sym hv ∙ ap (λ (u : TableSeat T). u.0 ∷ [])
      (he ∙ ap (λ (u : TableSeat T). (after_pass u.0, rest u.1)) (published_seat z b d hb hd))
