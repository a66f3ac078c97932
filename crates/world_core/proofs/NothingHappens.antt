-- No events, and the front's record as it is, fit a sound world before its last quantum: its turn ends, and that is all.
use Rattle.std.proofs.Common.{◌≡◌, ◌≢◌, ◌∙◌, ℕ, ◌+◌, ◌<◌, ◌≤◌, List, [], ◌∷◌, refl, ap, arith, inl, inr, subst, sym}
use Rattle.std.proofs.lemmas.Bool.Decides.{eqb_tells, nat_tests}
use Rattle.tierra_model.specs.declared.creatures.Creature.{Creature}
use Rattle.tierra_model.specs.Counting.{times_in}
use Rattle.tierra_model.specs.Living.{ids_of, one_of, with_record}
use Rattle.tierra_model.specs.World.{World, first_of, front, put}
use Rattle.tierra_model.specs.Events.{turn_end}
use Rattle.tierra_model.specs.Replay.{EventsFit, replay}
use Rattle.tierra_model.specs.Sound.{IsSound, count_limit}
use Rattle.tierra_model.proofs.Commutes.{with_living}
use Rattle.tierra_model.proofs.Owners.{is_here-times, with_record-none}
use Rattle.tierra_model.proofs.Living.{one_of-id}
use Rattle.tierra_model.proofs.Sound.{sound-turn_end, within-start}
use Rattle.world_core.proofs.Within.{running-sound}

own-first : (x : Creature) (xs : List Creature) → times_in (ids_of xs) x.id ≡ 0 → with_record x (x ∷ xs) ≡ x ∷ xs
own-first x xs h = (let rest : with_record x xs ≡ xs = with_record-none x xs h in grind (arith, nat_tests))

own-later : (d x : Creature) (xs : List Creature) → x.id ≢ d.id → with_record d xs ≡ xs → with_record d (x ∷ xs) ≡ x ∷ xs
own-later d x xs n rest = grind (arith, nat_tests)

-- a record put in its own place
own-record : (living : List Creature) (id : ℕ) → 0 < times_in (ids_of living) id → ((k : ℕ) → times_in (ids_of living) k ≤ 1)
    → with_record (one_of living id) living ≡ living
own-record [] id h o = refl
own-record (x ∷ xs) id h o = elim (eqb_tells x.id id) [
  | inl e ↦
      (let gone : times_in (ids_of xs) x.id ≡ 0 = (let once = o x.id in grind (arith, nat_tests)) in
      let found : one_of (x ∷ xs) id ≡ x = rw (e.0) refl in
      subst (λ (c : Creature). with_record c (x ∷ xs) ≡ x ∷ xs) (sym found) (own-first x xs gone))
  | inr e ↦
      (let there : 0 < times_in (ids_of xs) id = grind (arith, nat_tests) in
      let number : (one_of xs id).id ≡ id = one_of-id xs id (is_here-times xs id there) in
      let rest : with_record (one_of xs id) xs ≡ xs = own-record xs id there (λ k. (let once = o k in grind (arith, nat_tests))) in
      let found : one_of (x ∷ xs) id ≡ one_of xs id = rw (e.0) refl in
      subst (λ (c : Creature). with_record c (x ∷ xs) ≡ x ∷ xs) (sym found) (own-later (one_of xs id) x xs (λ same. e.1 (same ∙ number)) rest))
]

pub nothing-fits : (w : World) → IsSound w → w.quanta < 4000000 → EventsFit [] (front w) w
unfolding replay
nothing-fits w s few =
    let r = running-sound w s in
    let same : put (front w) w ≡ w = ap (with_living w) (own-record w.living (first_of w.slicer) r.here r.once) in
    let n : ℕ = count_limit w.quanta in
    let ended : IsSound (turn_end w)
    = sound-turn_end w.settings n n n 0 (w.quanta + 1) w (within-start w s) (omega arith) (omega arith) (omega arith) (omega arith) (omega arith) in
    record {
      each = tt;
      sound = subst (λ (v : World). IsSound (turn_end v)) (sym same) ended;
      record_fits = record { id = refl; own = refl; daughter = refl; errors = refl; genotype = refl };
    }
