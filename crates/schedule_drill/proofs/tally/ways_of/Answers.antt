use Rattle.std.proofs.Common.{◌≡◌, ℕ, ◌+◌, ◌<◌, Bool, List, true, false, sym, ◌∙◌, ap, arith, length, take}
use Rattle.std.specs.Prelude.{Some, count_by, slice_get}
use Rattle.std.proofs.lemmas.List.Sums.{count_by_more_no, count_by_more_yes}
use Rattle.std.proofs.lemmas.Option.{get_or_from_slice_get}
use Rattle.tierra_model.specs.declared.history.Entry.{Entry}
use Rattle.tierra_model.specs.declared.history.How.{How}
use Rattle.schedule_drill.specs.Drill.{is_fresh, is_missing, is_stale}
use Rattle.schedule_drill.proofs.tally.ways_of.Goals.{in-Fresh, in-Missing, in-Stale}
use Rattle.schedule_drill.proofs.tally.ways_of.Goals as goal

-- an entry that is counted, and one that is not
counted : (p : Entry → Bool) (xs : List Entry) (k n : ℕ) (e : Entry) → k < length xs → slice_get xs k ≡ Some e → p e ≡ true → n ≡ count_by p (take k xs)
    → n + 1 ≡ count_by p (take (k + 1) xs)
counted p xs k n e within is here h = ap (λ (m : ℕ). m + 1) h ∙ sym (count_by_more_yes p xs k e within (ap p (get_or_from_slice_get xs k e e is) ∙ here))

uncounted : (p : Entry → Bool) (xs : List Entry) (k n : ℕ) (e : Entry) → k < length xs → slice_get xs k ≡ Some e → p e ≡ false → n ≡ count_by p (take k xs)
    → n ≡ count_by p (take (k + 1) xs)
uncounted p xs k n e within is here h = h ∙ sym (count_by_more_no p xs k e within (ap p (get_or_from_slice_get xs k e e is) ∙ here))

pub loop-place-preserved : goal.loop-place-preserved
loop-place-preserved c =
    let xs : List Entry = c.args.history.now in
    let k : ℕ = c.loop-place.place in
    let e : Entry = c.at.result in
    let within : k < length xs = omega (arith, c.loop-place-test.true, c.len-place-end.ensures) in
    let l = c.loop-place.invariant in
    let with_how : How → Entry = λ h. record e { how = h } in
    elim c.match-at.branch [
      | in-Fresh w ↦
          rw w.ways-is (record {
            fresh = counted is_fresh xs k _ e within c.at.ensures (ap (λ (h : How). is_fresh (with_how h)) w.in-Fresh.is) l.fresh;
            missing = uncounted is_missing xs k _ e within c.at.ensures (ap (λ (h : How). is_missing (with_how h)) w.in-Fresh.is) l.missing;
            stale = uncounted is_stale xs k _ e within c.at.ensures (ap (λ (h : How). is_stale (with_how h)) w.in-Fresh.is) l.stale;
            all = omega (arith, l.all);
          })
      | in-Missing w ↦
          rw w.ways-is (record {
            fresh = uncounted is_fresh xs k _ e within c.at.ensures (ap (λ (h : How). is_fresh (with_how h)) w.in-Missing.is) l.fresh;
            missing = counted is_missing xs k _ e within c.at.ensures (ap (λ (h : How). is_missing (with_how h)) w.in-Missing.is) l.missing;
            stale = uncounted is_stale xs k _ e within c.at.ensures (ap (λ (h : How). is_stale (with_how h)) w.in-Missing.is) l.stale;
            all = omega (arith, l.all);
          })
      | in-Stale w ↦
          rw w.ways-is (record {
            fresh = uncounted is_fresh xs k _ e within c.at.ensures (ap (λ (h : How). is_fresh (with_how h)) w.in-Stale.is) l.fresh;
            missing = uncounted is_missing xs k _ e within c.at.ensures (ap (λ (h : How). is_missing (with_how h)) w.in-Stale.is) l.missing;
            stale = counted is_stale xs k _ e within c.at.ensures (ap (λ (h : How). is_stale (with_how h)) w.in-Stale.is) l.stale;
            all = omega (arith, l.all);
          })
    ]
