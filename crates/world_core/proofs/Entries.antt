-- The entries of a reaper queue, each with the errors of its creature, as creatures err, move, come and go.
use Rattle.std.proofs.Common.{◌≡◌, ℕ, ◌+◌, ◌<◌, ◌≢◌, List, [], ◌∷◌, ◌++◌, refl, sym, ◌∙◌, ap, arith, inl, inr}
use Rattle.std.proofs.lemmas.Bool.Decides.{nat_tests, eqb_tells}
use Rattle.std.specs.Prelude.{Option, filter, find, if◌then◌else◌, map, not, unwrap_or, ◌==◌}
use Rattle.tierra_model.specs.declared.creatures.Creature.{Creature}
use Rattle.tierra_model.specs.Counting.{times_in}
use Rattle.tierra_model.specs.Living.{ids_of, nobody, one_of, with_record, without}
use Rattle.tierra_model.specs.Queue.{error_move, good_move}
use Rattle.tierra_model.proofs.Living.{find-last, find-without}
use Rattle.tierra_model.proofs.Owners.{is_here-times}
use Rattle.tierra_model.proofs.Yards.{map-cong-in, map-error_move, map-filter-cong, map-good_move, one_of-with_other, one_of-with_same}
use Rattle.reaper_queue.specs.Reaper.{errors_of, is_of, with_error, ids_of as entry_ids, errors_in}
use Rattle.world_core.specs.Population.{entries_of}

-- who has which errors, as a list of birth numbers is gone through
abbrev entry : (ℕ → ℕ) → ℕ → ℕ × ℕ
entry errors id = (id, errors id)

abbrev errors_among : List Creature → ℕ → ℕ
errors_among living id = (one_of living id).errors

pub ids-entries : (errors : ℕ → ℕ) (ids : List ℕ) → map (λ x. x.0) (map (entry errors) ids) ≡ ids
ids-entries errors [] = refl
ids-entries errors (x ∷ xs) = ap (λ (l : List ℕ). x ∷ l) (ids-entries errors xs)

-- ---- a record is put in

errors-put : (c : Creature) (living : List Creature) (id : ℕ) → 0 < times_in (ids_of living) c.id
    → errors_among (with_record c living) id ≡ (if id == c.id then c.errors else errors_among living id)
errors-put c living id here = elim (eqb_tells id c.id) [
  | inl e ↦ rw (e.0) (rw (e.1) (ap (λ (d : Creature). d.errors) (one_of-with_same c living (is_here-times living c.id here))))
  | inr e ↦ rw (e.0) (ap (λ (d : Creature). d.errors) (one_of-with_other c living id e.1))
]

errors-same : (c : Creature) (living : List Creature) (id : ℕ) → 0 < times_in (ids_of living) c.id → errors_among living c.id ≡ c.errors
    → errors_among (with_record c living) id ≡ errors_among living id
errors-same c living id here same = errors-put c living id here ∙ elim (eqb_tells id c.id) [
  | inl e ↦ rw (e.0) (rw (e.1) (sym same))
  | inr e ↦ rw (e.0) refl
]

pub entries-put : (c : Creature) (living : List Creature) (ids : List ℕ) → 0 < times_in (ids_of living) c.id → errors_among living c.id ≡ c.errors
    → entries_of (with_record c living) ids ≡ entries_of living ids
entries-put c living ids here same = λ i. map (λ id. (id, errors-same c living id here same i)) ids

-- ---- an error

with_error-entries : (id : ℕ) (before after : ℕ → ℕ) → ((k : ℕ) → after k ≡ (if k == id then before k + 1 else before k)) → (ids : List ℕ)
    → with_error id (map (entry before) ids) ≡ map (entry after) ids
with_error-entries id before after h [] = refl
with_error-entries id before after h (x ∷ xs) = elim (eqb_tells x id) [
  | inl e ↦
      (let same : after x ≡ before x + 1 = h x ∙ rw (e.0) refl in
      rw (e.0) (let rest = with_error-entries id before after h xs in cc))
  | inr e ↦
      (let same : after x ≡ before x = h x ∙ rw (e.0) refl in
      rw (e.0) (let rest = with_error-entries id before after h xs in cc))
]

-- the queue after an error, and who stands in it
pub record Moved (living : List Creature) (ids : List ℕ) (entries : List (ℕ × ℕ)) : Type 0 where
  pub shows : entries ≡ entries_of living ids
  pub holds : entry_ids entries ≡ ids

moved : (living : List Creature) (ids : List ℕ) (entries : List (ℕ × ℕ)) → entries ≡ entries_of living ids → Moved living ids entries
moved living ids entries e = record { shows = e; holds = ap entry_ids e ∙ ids-entries (errors_among living) ids }

pub entries-error : (c : Creature) (living : List Creature) (ids : List ℕ) → 0 < times_in (ids_of living) c.id → c.errors ≡ errors_among living c.id + 1
    → Moved (with_record c living) (error_move (λ id. id == c.id) (errors_among (with_record c living)) ids)
    (error_move (is_of c.id) errors_of (with_error c.id (entries_of living ids)))
entries-error c living ids here one =
    let after : ℕ → ℕ = errors_among (with_record c living) in
    let raised : (k : ℕ) → after k ≡ (if k == c.id then errors_among living k + 1 else errors_among living k)
    = λ k. errors-put c living k here ∙ elim (eqb_tells k c.id) [
      | inl e ↦ rw (e.0) (one ∙ ap (λ (n : ℕ). errors_among living n + 1) (sym e.1))
      | inr e ↦ rw (e.0) refl
    ] in
    moved (with_record c living) (error_move (λ id. id == c.id) after ids) (error_move (is_of c.id) errors_of (with_error c.id (entries_of living ids)))
    (ap (error_move (is_of c.id) errors_of) (with_error-entries c.id (errors_among living) after raised ids)
    ∙ sym (map-error_move (entry after) (is_of c.id) errors_of ids))

-- ---- a good move

pub entries-good : (id : ℕ) (living : List Creature) (ids : List ℕ)
    → Moved living (good_move (λ x. x == id) (errors_among living) ids) (good_move (is_of id) errors_of (entries_of living ids))
entries-good id living ids =
    moved living (good_move (λ x. x == id) (errors_among living) ids) (good_move (is_of id) errors_of (entries_of living ids))
    (sym (map-good_move (entry (errors_among living)) (is_of id) errors_of ids))

-- ---- a death

filter-entries : (id : ℕ) (errors : ℕ → ℕ) (ids : List ℕ)
    → filter (λ (x : ℕ × ℕ). not (x.0 == id)) (map (entry errors) ids) ≡ map (entry errors) (filter (λ x. not (x == id)) ids)
filter-entries id errors [] = refl
filter-entries id errors (x ∷ xs) = elim (eqb_tells x id) [
  | inl e ↦ rw (e.0) (filter-entries id errors xs)
  | inr e ↦ rw (e.0) (ap (λ (l : List (ℕ × ℕ)). (x, errors x) ∷ l) (filter-entries id errors xs))
]

pub entries-removed : (id : ℕ) (living : List Creature) (ids : List ℕ)
    → Moved (without id living) (filter (λ x. not (x == id)) ids) (filter (λ (x : ℕ × ℕ). not (x.0 == id)) (entries_of living ids))
entries-removed id living ids =
    moved (without id living) (filter (λ x. not (x == id)) ids) (filter (λ (x : ℕ × ℕ). not (x.0 == id)) (entries_of living ids))
    (filter-entries id (errors_among living) ids
    ∙ map-filter-cong (entry (errors_among living)) (entry (errors_among (without id living))) id
    (λ x other. ap (λ (o : Option Creature). (x, (unwrap_or o nobody).errors)) (sym (find-without living x id other))) ids)

-- ---- a birth

find-entered : (living : List Creature) (c : Creature) (id : ℕ) → id ≢ c.id → find (λ x. x.id == id) (living ++ c ∷ []) ≡ find (λ x. x.id == id) living
find-entered [] c id other = grind (arith, nat_tests)
find-entered (x ∷ xs) c id other = grind (arith, nat_tests, find-entered xs c id other)

map-append : {X Y : Type 0} (f : X → Y) (xs ys : List X) → map f (xs ++ ys) ≡ map f xs ++ map f ys
map-append f [] ys = refl
map-append f (x ∷ xs) ys = ap (λ (l : List _). f x ∷ l) (map-append f xs ys)

pub entries-entered : (c : Creature) (living : List Creature) (ids : List ℕ) → c.errors ≡ 0 → times_in (ids_of living) c.id ≡ 0 → times_in ids c.id ≡ 0
    → Moved (living ++ c ∷ []) (ids ++ c.id ∷ []) (entries_of living ids ++ (c.id, 0) ∷ [])
entries-entered c living ids none new absent =
    let after : ℕ → ℕ = errors_among (living ++ c ∷ []) in
    let others : entries_of living ids ≡ map (entry after) ids
    = map-cong-in (entry (errors_among living)) (entry after) ids (λ x here.
    let other : x ≢ c.id = λ e. absurd (let gone : times_in ids x ≡ 0 = ap (times_in ids) e ∙ absent in omega arith) in
    ap (λ (o : Option Creature). (x, (unwrap_or o nobody).errors)) (sym (find-entered living c x other))) in
    let last : after c.id ≡ 0 = ap (λ (o : Option Creature). (unwrap_or o nobody).errors) (find-last living c new) ∙ none in
    moved (living ++ c ∷ []) (ids ++ c.id ∷ []) (entries_of living ids ++ (c.id, 0) ∷ [])
    (ap (λ (l : List (ℕ × ℕ)). l ++ (c.id, 0) ∷ []) others
    ∙ ap (λ (n : ℕ). map (entry after) ids ++ (c.id, n) ∷ []) (sym last)
    ∙ sym (map-append (entry after) ids (c.id ∷ [])))

-- ---- what an entry says

pub errors-entries : (living : List Creature) (ids : List ℕ) (id : ℕ) → 0 < times_in ids id → errors_in id (entries_of living ids) ≡ errors_among living id
errors-entries living [] id here = absurd (omega arith)
errors-entries living (x ∷ xs) id here = elim (eqb_tells x id) [
  | inl e ↦ rw (e.0) (ap (errors_among living) e.1)
  | inr e ↦ rw (e.0) (errors-entries living xs id (grind (arith, nat_tests)))
]
