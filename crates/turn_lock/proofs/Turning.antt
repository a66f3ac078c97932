-- What the steps of `take` say together.
use Rattle.std.proofs.Common.{◌≡◌, ℕ, ◌+◌, ◌-◌, ◌<◌, ◌≤◌, List, [], ◌∷◌, length, get_or, sym, refl, ap, ◌∙◌, subst, Option, Some, None}
use Rattle.std.proofs.lemmas.Option.{same_Some}
use Rattle.atomic_table.specs.Table.{rest}
use Rattle.atomic_table.specs.Seated.{TableId}
use Rattle.turn_lock.specs.declared.view.Summary.{Summary}
use Rattle.turn_lock.specs.declared.view.SeatView.{SeatView}
use Rattle.turn_lock.specs.declared.view.Stage.TheVariants.{Called, Holding}
use Rattle.turn_lock.specs.Summary.{entries_by, HasGrown}
use Rattle.turn_lock.specs.Seat.{SeatFields, own_of}
use Rattle.turn_lock.specs.View.{most_tickets, own_at, counts_read, at_stage, after_draw, after_take}
use Rattle.turn_lock.specs.Steps.{TableSeat, SlotTaken}
use Rattle.turn_lock.specs.Mirrors.{view_of, seat_of, MirrorsSeat, MirrorsTurn}
use Rattle.turn_lock.proofs.Entries.{entries_own}

-- the view of a seat that was idle, when it drew this ticket and has read these counts
abbrev pub called_view : SeatView → ℕ → List ℕ → SeatView
called_view v ticket read = record v { stage = Called ticket read; left = v.left - 1 }

abbrev pub holding_view : SeatView → ℕ → List ℕ → SeatView
holding_view v ticket read = record v { stage = Holding ticket read; left = v.left - 1 }

-- what is known of the value that a seat takes
pub record IsTakenBy (seat : SeatFields) (x : Summary) : Type 0 where
  pub setup : x.setup ≡ seat.lock.opening.setup
  pub seen : seat.seen ≤ x.committed
  pub own : (c n : ℕ) → own_of seat c ≡ Some n → entries_by x.entries c ≡ entries_by seat.lock.opening.entries c + n

module _ {T : Type 0} where
  -- an idle seat at the table
  pub idle_seat : (views : List SeatView) (a : TableSeat T) → views ≡ a.0 ∷ [] → a.1 ≡ [] → a ≡ (view_of views, [])
  idle_seat views a one none_held = λ k. (ap view_of (sym one) k, none_held k)

  -- after the draw, the call and the counts
  pub called_seat : (v : SeatView) (a b c d : TableSeat T) (n : ℕ) (read : List ℕ) → a ≡ (v, []) → b ≡ (after_draw a.0 n, a.1)
      → c ≡ (at_stage b.0 (Called n []), b.1) → d ≡ (at_stage c.0 (Called n read), c.1)
      → d ≡ (called_view v n read, [])
  called_seat v a b c d n read ha hb hc hd =
      let draw : TableSeat T → TableSeat T = λ z. (after_draw z.0 n, z.1) in
      let call : TableSeat T → TableSeat T = λ z. (at_stage z.0 (Called n []), z.1) in
      let count : TableSeat T → TableSeat T = λ z. (at_stage z.0 (Called n read), z.1) in
      hd ∙ ap count (hc ∙ ap call (hb ∙ ap draw ha))

  -- the slot that is out comes first
  pub slot_first : (l ks : List (ℕ × Option T)) (x : Option T) → l ≡ (0, x) ∷ ks → l ≡ (0, x) ∷ rest l
  slot_first l ks x e = e ∙ ap (λ (z : List (ℕ × Option T)). (0, x) ∷ z) (sym (ap rest e))

  head_or : Option T → List (ℕ × Option T) → Option T
  head_or d [] = d
  head_or d (x ∷ xs) = x.1

  pub same_value : (l ks ls : List (ℕ × Option T)) (x y : T) → l ≡ (0, Some x) ∷ ks → l ≡ (0, Some y) ∷ ls → x ≡ y
  unfolding head_or
  same_value l ks ls x y p q = same_Some x y (ap (head_or None) (sym p ∙ q))

module _ {T : Type 0} (summary : T → Summary) where
  taken_by : (table : TableId) (v : SeatView) (n : ℕ) (counts : List ℕ) (d e : TableSeat T) (x : T) → d ≡ (called_view v n counts, [])
      → SlotTaken summary d e x → length v.own ≡ 64 → IsTakenBy (seat_of table v) (summary x)
  taken_by table v n counts d e x hd took places =
      let grown : HasGrown v.opening counts (summary x) = subst (λ (z : TableSeat T). HasGrown z.0.opening (counts_read z.0.stage) (summary x)) hd took.value in
      let own : (i k : ℕ) → own_at v i ≡ Some k → get_or counts i 0 ≡ k =
      subst (λ (z : TableSeat T). (i k : ℕ) → own_at z.0 i ≡ Some k → get_or (counts_read z.0.stage) i 0 ≡ k) hd took.own in
      record {
        setup = grown.setup;
        seen = subst (λ (z : TableSeat T). z.0.seen ≤ (summary x).committed) hd took.seen;
        own = entries_own (summary x) table v counts grown places own;
      }

  pub taken_as : (table : TableId) (v : SeatView) (seat : SeatFields) (n : ℕ) (counts : List ℕ) (d e : TableSeat T) (x y : T)
      → seat_of table v ≡ seat → x ≡ y → d ≡ (called_view v n counts, []) → SlotTaken summary d e x → length v.own ≡ 64
      → IsTakenBy seat (summary y)
  taken_as table v seat n counts d e x y is_seat same hd took places =
      subst (λ (p : SeatFields × T). IsTakenBy p.0 (summary p.1)) (λ k. (is_seat k, same k)) (taken_by table v n counts d e x hd took places)

  -- the seat at the table, with the slot empty in its hand
  holding_seat : (v : SeatView) (n : ℕ) (counts : List ℕ) (d e f : TableSeat T) (x : T) → d ≡ (called_view v n counts, [])
      → SlotTaken summary d e x → f ≡ (e.0, (0, None) ∷ rest e.1) → f ≡ (holding_view v n counts, (0, None) ∷ [])
  holding_seat v n counts d e f x hd took hf =
      let he : e ≡ (holding_view v n counts, (0, Some x) ∷ []) = took.seat ∙ ap (λ (z : TableSeat T). (after_take z.0, (0, Some x) ∷ z.1)) hd in
      hf ∙ ap (λ (z : TableSeat T). (z.0, (0, None) ∷ rest z.1)) he

  pub turn_seat : (table table' : TableId) (v : SeatView) (seat : SeatFields) (n : ℕ) (counts : List ℕ) (d e f : TableSeat T) (x : T)
      → seat_of table v ≡ seat → table' ≡ table → d ≡ (called_view v n counts, []) → SlotTaken summary d e x
      → f ≡ (e.0, (0, None) ∷ rest e.1)
      → seat_of table' f.0 ≡ seat
  turn_seat table table' v seat n counts d e f x is_seat same_table hd took hf =
      (λ k. seat_of (same_table k) (holding_seat v n counts d e f x hd took hf k).0) ∙ is_seat

  pub mirrors_turn : (views : List SeatView) (caller turns seen committed : ℕ) (own : List (Option ℕ)) (n : ℕ) (counts : List ℕ) (x value : T)
      (d e f : TableSeat T)
      → MirrorsSeat views caller turns seen own → turns < most_tickets → length counts ≡ 64
      → d ≡ (called_view (view_of views) n counts, []) → SlotTaken summary d e x → x ≡ value → f ≡ (e.0, (0, None) ∷ rest e.1)
      → committed ≡ (summary value).committed → MirrorsTurn f caller turns committed own (summary value)
  mirrors_turn views caller turns seen committed own n counts x value d e f ok room all hd took same hf is =
      let v : SeatView = view_of views in
      let now = holding_seat v n counts d e f x hd took hf in
      let grown : HasGrown v.opening counts (summary value) =
      subst (λ (p : TableSeat T × T). HasGrown p.0.0.opening (counts_read p.0.0.stage) (summary p.1)) (λ k. (hd k, same k)) took.value in
      let read_own : (i k : ℕ) → own_at v i ≡ Some k → get_or counts i 0 ≡ k =
      subst (λ (z : TableSeat T). (i k : ℕ) → own_at z.0 i ≡ Some k → get_or (counts_read z.0.stage) i 0 ≡ k) hd took.own in
      let mirrors : MirrorsTurn (holding_view v n counts, (0, None) ∷ []) caller turns committed own (summary value) = record {
        holding = refl;
        slot = refl;
        caller_is = ok.caller_is;
        turns_are = ok.turns_are;
        room = room;
        own_is = ok.own_is;
        places = ok.places;
        speaks = ok.speaks;
        read_all = all;
        read_own = read_own;
        committed_is = is;
        grown = grown;
      } in
      subst (λ (z : TableSeat T). MirrorsTurn z caller turns committed own (summary value)) (sym now) mirrors
