-- The entries of a value by the numbers of the callers that a view speaks for.
use Rattle.std.proofs.Common.{◌≡◌, ℕ, zero, suc, ◌+◌, ◌≤◌, List, length, get_or, ap, ◌∙◌, arith, Some, None}
use Rattle.std.proofs.lemmas.Option.{none-some}
use Rattle.atomic_table.specs.Seated.{TableId}
use Rattle.turn_lock.specs.declared.view.Summary.{Summary}
use Rattle.turn_lock.specs.declared.view.SeatView.{SeatView}
use Rattle.turn_lock.specs.Summary.{entries_by, HasGrown}
use Rattle.turn_lock.specs.Seat.{own_of}
use Rattle.turn_lock.specs.View.{own_at}
use Rattle.turn_lock.specs.Mirrors.{seat_of}
use Rattle.turn_lock.proofs.OwnCounts.{owned_inside}

module _ (x : Summary) (table : TableId) (v : SeatView) (counts : List ℕ) (grown : HasGrown v.opening counts x) where
  pub entries_own : length v.own ≡ 64 → ((i n : ℕ) → own_at v i ≡ Some n → get_or counts i 0 ≡ n)
      → (c n : ℕ) → own_of (seat_of table v) c ≡ Some n → entries_by x.entries c ≡ entries_by v.opening.entries c + n
  entries_own places alike zero n e = absurd (none-some n e)
  entries_own places alike (suc i) n e = let inside = owned_inside v.own i n e in
      grown.entries i (omega arith) ∙ ap (λ (z : ℕ). get_or v.opening.entries i 0 + z) (alike i n e)

  pub entries_others : ((i : ℕ) → own_at v i ≡ None → get_or counts i 0 ≡ 0)
      → (c : ℕ) → 1 ≤ c → c ≤ 64 → own_of (seat_of table v) c ≡ None → entries_by x.entries c ≡ entries_by v.opening.entries c
  entries_others unused zero least most e = absurd (omega arith)
  entries_others unused (suc i) least most e = let zero_more = unused i e in let all = grown.entries i (omega arith) in
      all ∙ (let h : get_or v.opening.entries i 0 + get_or counts i 0 ≡ get_or v.opening.entries i 0 = omega arith in h)
