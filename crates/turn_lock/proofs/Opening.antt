-- The table of a new lock meets the rule.
use Rattle.std.proofs.Common.{◌≡◌, ℕ, zero, suc, ◌<◌, List, [], ◌∷◌, get_or, sym, refl, ap, ◌∙◌, subst, arith, Option, Some, None}
use Rattle.atomic_table.specs.Table.{opening}
use Rattle.std.proofs.lemmas.Option.{none-some, same_Some}
use Rattle.turn_lock.specs.declared.view.Summary.{Summary}
use Rattle.turn_lock.specs.declared.view.SeatView.{SeatView}
use Rattle.turn_lock.specs.View.{own_at, first_view}
use Rattle.turn_lock.specs.Rule.{SeatFits, KeepsRule}
use Rattle.turn_lock.proofs.Places.{one_at}
use Rattle.turn_lock.proofs.OwnCounts.{blank, zeros, blank_none, zeros_zero}

module _ {T : Type 0} (summary : T → Summary) where
  starts : (words : List ℕ) (x : T) → words ≡ zeros 66 → KeepsRule summary (summary x) (opening words (Some x ∷ []) (first_view (summary x)))
  starts words x e =
      let o : Summary = summary x in
      let v : SeatView = first_view o in
      let first_fits : SeatFits o 0 0 1 (zeros 64) (λ _. 0) (λ _. 0) 0 v = record {
        opening = refl;
        stage = tt;
        places = refl;
        own = λ i n h. let q = owns i n h in (q.0, refl, q.2);
        speaks = (0, refl);
        seen = omega arith;
        left = refl;
        holds_last = λ _ _. refl;
        last_held = λ k h. (sym (same_Some 1 k h), (0, refl));
      } in record {
        ticket = 0;
        serving = 0;
        counts = zeros 64;
        last = 1;
        holder = λ _. 0;
        owner = λ _. 0;
        words = e;
        places = refl;
        order = omega arith;
        queue = λ t low high. absurd (omega arith);
        given = (omega arith, omega arith);
        spoken = λ i low. (v, refl, tt, (0, let e : 0 ≡ i = omega arith in ap (λ (k : ℕ). own_at v k) (sym e)));
        unused = λ i _. zeros_zero 64 i;
        total = refl;
        each_seat = λ j d h _. let t = one_at v d j h in
            subst (λ (z : ℕ × SeatView). SeatFits o 0 0 1 (zeros 64) (λ _. 0) (λ _. 0) z.0 z.1) (λ k. (sym t.0 k, t.1 k)) first_fits;
        at_home = λ _. (x, refl, record { setup = refl; committed = omega arith; entries = λ i _. let z = zeros_zero 64 i in omega arith });
      }
    where
      owns : (i n : ℕ) → get_or (Some 0 ∷ blank 63) i None ≡ Some n → (i < 1) × (zero ≡ i) × (get_or (zeros 64) i 0 ≡ n)
      owns zero n h = (omega arith, refl, same_Some 0 n h)
      owns (suc i) n h = absurd (none-some n (sym (blank_none 63 i) ∙ h))

  pub opens : (words : List ℕ) (x y : T) (slots : List (Option T)) → y ≡ x → slots ≡ Some x ∷ [] → words ≡ zeros 66
      → KeepsRule summary (summary y) (opening words slots (first_view (summary y)))
  opens words x y slots same slot blank_words =
      subst (λ (p : T × List (Option T)). KeepsRule summary (summary p.0) (opening words p.1 (first_view (summary p.0)))) (λ k. (sym same k, sym slot k))
      (starts words x blank_words)
