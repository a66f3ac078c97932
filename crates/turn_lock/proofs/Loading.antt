-- Loading serving, and loading a count, keep the rule.
use Rattle.std.proofs.Common.{◌≡◌, ℕ, suc, ◌+◌, ◌^◌, ◌<◌, ◌≤◌, List, [], ◌∷◌, ◌++◌, length, get_or, set, take, sym, refl, ap, ◌∙◌, subst, arith, Option}
use Rattle.std.proofs.Common.{length-append}
use Rattle.std.specs.Prelude.{count_by, is_some}
use mathlib.Core.Logic.{dite}
use mathlib.Core.Option.{none}
use native.Mathlib.Decide.{ℕ_discrete}
use lib.Seq.{set-get_or}
use Rattle.std.proofs.Math.Seq.{take-suc}
use Rattle.std.proofs.lemmas.List.Sums.{count_by-le-length}
use Rattle.atomic_table.specs.Table.{step, Act, keeps, stepped, carried_after, Valid, Allows}
use Rattle.turn_lock.specs.declared.view.Summary.{Summary}
use Rattle.turn_lock.specs.declared.view.SeatView.{SeatView}
use Rattle.turn_lock.specs.declared.view.Stage.{Stage}
use Rattle.turn_lock.specs.declared.view.Stage.TheVariants.{Spent, Idle, Waiting, Called, Holding}
use Rattle.turn_lock.specs.View.{ticket_count, ticket_of, counts_read, HasTicket, WaitsFor, IsActive, IsHolding, at_stage, after_call}
use Rattle.turn_lock.specs.Rule.{StageFits, KeepsRule}
use Rattle.turn_lock.specs.Steps.{TableSeat, LoadsServing, LoadsCount}
use Rattle.turn_lock.proofs.Restaging.{restages}

waits_or_not : (stage : Stage) (n : ℕ) → Dec (WaitsFor stage n)
waits_or_not Spent n = no (λ h. h)
waits_or_not Idle n = no (λ h. h)
waits_or_not (Waiting t) n = ℕ_discrete t n
waits_or_not (Called t read) n = no (λ h. h)
waits_or_not (Holding t read) n = no (λ h. h)

waits_active : (stage : Stage) (n : ℕ) → WaitsFor stage n → IsActive stage
waits_active Spent n h = h
waits_active Idle n h = tt
waits_active (Waiting t) n h = tt
waits_active (Called t read) n h = tt
waits_active (Holding t read) n h = tt

-- the seat with this stage is called
called_count : (stage : Stage) (n : ℕ) → WaitsFor stage n → 1 ≡ ticket_count stage
called_count Spent n h = absurd h
called_count Idle n h = absurd h
called_count (Waiting t) n h = refl
called_count (Called t read) n h = absurd h
called_count (Holding t read) n h = absurd h

called_ticket : (stage : Stage) (n k : ℕ) → WaitsFor stage n → HasTicket stage k → ticket_of stage ≡ k
called_ticket Spent n k h t = absurd h
called_ticket Idle n k h t = absurd h
called_ticket (Waiting t) n k h e = e
called_ticket (Called t read) n k h e = absurd h
called_ticket (Holding t read) n k h e = absurd h

not_holding : (stage : Stage) (n : ℕ) → WaitsFor stage n → IsHolding stage → ⊥
not_holding Spent n h held = held
not_holding Idle n h held = held
not_holding (Waiting t) n h held = held
not_holding (Called t read) n h held = held
not_holding (Holding t read) n h held = h

called_fits : (ticket serving : ℕ) (counts : List ℕ) (holder : ℕ → ℕ) (seat : ℕ) (stage : Stage) → WaitsFor stage serving
    → StageFits ticket serving counts holder seat stage → StageFits ticket serving counts holder seat (Called (ticket_of stage) [])
called_fits ticket serving counts holder seat Spent h k = absurd h
called_fits ticket serving counts holder seat Idle h k = absurd h
called_fits ticket serving counts holder seat (Waiting t) h k = (h, k.1, k.2, refl)
called_fits ticket serving counts holder seat (Called t read) h k = absurd h
called_fits ticket serving counts holder seat (Holding t read) h k = absurd h

module _ {T : Type 0} (summary : T → Summary) (o : Summary) where
  pub loads_serving : (slots id : ℕ) (a : TableSeat T) → IsActive a.0.stage
      → Allows (KeepsRule summary o) slots id a 1 (λ n. n) (LoadsServing (step slots 1 0 0 none) a)
  loads_serving slots id a active s r deep at fit =
      let v : SeatView = a.0 in
      let n : ℕ = r.serving in
      let ok = r.each_seat id v at active in
      let left = ok.left in
      let few : count_by is_some v.own ≤ length v.own = count_by-le-length is_some v.own in
      let places = ok.places in
      let turns : v.turns ≤ 2 ^ 46 = omega arith in
      let Goal : List ℕ → Type 0 = λ ws. (w : SeatView) × (x : Act (Option T)) × Valid s.homes a.1 x
      × KeepsRule summary o (stepped (record { words = ws; homes = s.homes; views = s.views }) 1 (get_or ws 1 0) id a.1 w x)
      × LoadsServing (step slots 1 0 0 none) a (get_or ws 1 0) (w, carried_after a.1 x) in
      subst Goal (sym r.words) (dite (waits_or_not v.stage n)
      (λ waits. (
        after_call v,
        keeps,
        tt,
        restages summary o s r id v (Called (ticket_of v.stage) []) at active tt (called_count v.stage n waits) (λ k. called_ticket v.stage n k waits)
            (λ held. absurd (not_holding v.stage n waits held))
            (called_fits r.ticket n r.counts r.holder id v.stage waits ok.stage),
        record { called = λ _. refl; same = λ not_so. absurd (not_so waits); turns = turns },
      ))
      (λ not_so. (
        v,
        keeps,
        tt,
        restages summary o s r id v v.stage at active active refl (λ k h. h) (λ h. h) ok.stage,
        record { called = λ waits. absurd (not_so waits); same = λ _. refl; turns = turns },
      )))

  pub loads_count : (slots id t word : ℕ) (counts : List ℕ) (a : TableSeat T) → a.0.stage ≡ Called t counts → length counts < 64
      → word ≡ length counts + 2
      → Allows (KeepsRule summary o) slots id a word (λ n. n) (LoadsCount (step slots word 0 0 none) a)
  loads_count slots id t word counts a called more is s r deep at fit =
      let v : SeatView = a.0 in
      let active : IsActive v.stage = subst IsActive (sym called) tt in
      let ok = r.each_seat id v at active in
      let mine : StageFits r.ticket r.serving r.counts r.holder id (Called t counts) =
      subst (StageFits r.ticket r.serving r.counts r.holder id) called ok.stage in
      let i : ℕ = length counts in
      let places = r.places in
      let at_word : suc (suc i) ≡ word = omega arith in
      let n : ℕ = get_or r.counts i 0 in
      let stage : Stage = Called t (counts ++ n ∷ []) in
      let stage_is : Called (ticket_of v.stage) (counts_read v.stage ++ n ∷ []) ≡ stage =
      ap (λ (z : Stage). Called (ticket_of z) (counts_read z ++ n ∷ [])) called in
      let longer : length (counts ++ n ∷ []) ≡ suc i = omega (arith, length-append counts (n ∷ [])) in
      let present : counts ++ n ∷ [] ≡ take (length (counts ++ n ∷ [])) r.counts =
      ap (λ (l : List ℕ). l ++ n ∷ []) mine.3 ∙ (sym (take-suc r.counts i 0 (omega arith)) ∙ ap (λ (k : ℕ). take k r.counts) (sym longer)) in
      let new = restages summary o s r id v stage at active tt (ap ticket_count (sym called)) (λ k h. subst (λ (z : Stage). HasTicket z k) called h)
      (λ h. subst IsHolding called h) (mine.0, mine.1, mine.2, present) in
      let Goal : List ℕ × ℕ → Type 0 = λ p. (w : SeatView) × (x : Act (Option T)) × Valid s.homes a.1 x
      × KeepsRule summary o (stepped (record { words = p.0; homes = s.homes; views = s.views }) p.1 (get_or p.0 p.1 0) id a.1 w x)
      × LoadsCount (step slots p.1 0 0 none) a (get_or p.0 p.1 0) (w, carried_after a.1 x) in
      subst Goal (λ k. (sym r.words k, at_word k)) (
        at_stage v stage,
        keeps,
        tt,
        subst (λ (cs : List ℕ). KeepsRule summary o record { words = r.ticket ∷ r.serving ∷ cs; homes = s.homes; views = set s.views id (at_stage v stage) })
            (sym (set-get_or r.counts i 0)) new,
        ap (λ (z : Stage). (at_stage v z, a.1)) (sym stage_is),
      )
