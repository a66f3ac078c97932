-- It is the same to put a record into a world before an event, or to put in what the event leaves of it after the event.
use Rattle.std.proofs.Common.{◌≡◌, ℕ, ◌+◌, ◌<◌, Bool, true, List, [], ◌∷◌, ◌++◌, refl, sym, ◌∙◌, ap, inl, inr, length}
use Rattle.std.specs.Prelude.{Some, None, Option, unwrap_or, ◌==◌, slice_index, slice_range}
use Rattle.std.proofs.lemmas.Bool.Decides.{eqb_tells}
use Rattle.tierra_model.specs.declared.creatures.Block.{Block}
use Rattle.tierra_model.specs.declared.creatures.Creature.{Creature}
use Rattle.tierra_model.specs.declared.events.Event.{Event}
use Rattle.tierra_model.specs.declared.events.Event.TheVariants as event
use Rattle.tierra_model.specs.Queue.{error_move, good_move}
use Rattle.tierra_model.specs.Living.{with_record, newborn}
use Rattle.tierra_model.specs.World.{World, Genotype, front, put, first_of}
use Rattle.tierra_model.specs.Individuals.{with_individual, genotypes_at_birth, with_effort_of}
use Rattle.tierra_model.specs.Events.{apply_event, record_after, with_error_move, with_good_move, with_birth, with_death, errors_in, has_id}
use Rattle.tierra_model.proofs.Shares.{Shares}
use Rattle.tierra_model.proofs.Living.{is_here, find-with_same, find-with_other, with-with, is_here-with, without-with, with-append, one_of-id}

-- the world has a creature at the front
pub record HasFront (w : World) : Type 0 where
  pub line : 0 < length w.slicer
  pub here : is_here w.living (first_of w.slicer) ≡ true

pub front-put : (c : Creature) (w : World) → HasFront w → c.id ≡ first_of w.slicer → front (put c w) ≡ c
front-put c w l e =
    rw (← e) (rw (find-with_same c w.living (rw (← e) at l.here)) refl)

abbrev pub with_living : World → List Creature → World
with_living w l = record w { living = l }

pub put-put : (c d : Creature) (w : World) → c.id ≡ d.id → put c (put d w) ≡ put c w
put-put c d w e = ap (with_living w) (with-with c d w.living e)

-- ---- moves

pub error_move-cong : {X : Type 0} (m n : X → Bool) (e f : X → ℕ) → ((x : X) → m x ≡ n x) → ((x : X) → e x ≡ f x)
    → (xs : List X) → error_move m e xs ≡ error_move n f xs
error_move-cong m n e f hm he xs = λ i. error_move (λ x. hm x i) (λ x. he x i) xs

pub good_move-cong : {X : Type 0} (m n : X → Bool) (e f : X → ℕ) → ((x : X) → m x ≡ n x) → ((x : X) → e x ≡ f x)
    → (xs : List X) → good_move m e xs ≡ good_move n f xs
good_move-cong m n e f hm he xs = λ i. good_move (λ x. hm x i) (λ x. he x i) xs

-- a record with the errors of the front changes nobody's
pub errors-put : (c : Creature) (v : World) (id : ℕ) → HasFront v → c.id ≡ first_of v.slicer → c.errors ≡ (front v).errors
    → errors_in (put c v) id ≡ errors_in v id
errors-put c v id l e h = elim (eqb_tells id c.id) [
  | inl k ↦
      rw (k.1) (ap (λ (o : Option Creature). (unwrap_or o (newborn 0 (record { at = 0; size = 0 }) 0)).errors)
      (find-with_same c v.living (rw (← e) at l.here)) ∙ h ∙ rw e refl)
  | inr k ↦ ap (λ (o : Option Creature). (unwrap_or o (newborn 0 (record { at = 0; size = 0 }) 0)).errors) (find-with_other c v.living id k.1)
]

abbrev pub with_reaper : World → List ℕ → World
with_reaper w l = record w { reaper = l }

pub front-id : (v : World) → HasFront v → (front v).id ≡ first_of v.slicer
front-id v l = one_of-id v.living (first_of v.slicer) l.here

pub with_error_move-put : (c : Creature) (v : World) → HasFront v → c.id ≡ first_of v.slicer → c.errors ≡ (front v).errors
    → with_error_move (put c v) ≡ put c (with_error_move v)
with_error_move-put c v l e h =
    ap (with_reaper (put c v))
    (error_move-cong (has_id (front (put c v))) (has_id (front v)) (errors_in (put c v)) (errors_in v)
    (λ id. ap (λ (n : ℕ). id == n) (ap (λ (d : Creature). d.id) (front-put c v l e) ∙ e ∙ sym (front-id v l)))
    (λ id. errors-put c v id l e h) v.reaper)

pub with_good_move-put : (c : Creature) (v : World) → HasFront v → c.id ≡ first_of v.slicer → c.errors ≡ (front v).errors
    → with_good_move (put c v) ≡ put c (with_good_move v)
with_good_move-put c v l e h =
    ap (with_reaper (put c v))
    (good_move-cong (has_id (front (put c v))) (has_id (front v)) (errors_in (put c v)) (errors_in v)
    (λ id. ap (λ (n : ℕ). id == n) (ap (λ (d : Creature). d.id) (front-put c v l e) ∙ e ∙ sym (front-id v l)))
    (λ id. errors-put c v id l e h) v.reaper)

pub has_front-put : (c : Creature) (v : World) → HasFront v → HasFront (put c v)
has_front-put c v l = record { line = l.line; here = is_here-with c v.living (first_of v.slicer) ∙ l.here }

-- ---- births

pub with_birth-put : (known : List Genotype) (b : Option Block) (mother : ℕ) (c d : Creature) (v : World) → c.id ≡ d.id
    → put c (with_birth known b mother (put d v)) ≡ put c (with_birth known b mother v)
with_birth-put known None mother c d v e = put-put c d v e
with_birth-put known (Some b) mother c d v e =
    ap (with_living (with_birth known (Some b) mother v))
    (let k : ℕ = (with_individual known (slice_range v.soup b.at (b.at + b.size)) (Some mother) (v.quanta + 1)).1 in
    let nb : List Creature = newborn v.next_birth b k ∷ [] in
    with-append c (with_record d v.living) nb ∙ ap (λ (l : List Creature). l ++ with_record c nb) (with-with c d v.living e)
    ∙ sym (with-append c v.living nb))

-- ---- each event

abbrev pub Commutes : World → Creature → Event → Type 0
Commutes v c e = apply_event (put c v) e ≡ put (record_after e c) (apply_event v e)

-- what an event does that changes the running record alone
abbrev pub put_after : Event → World → World
put_after e w = put (record_after e (front w)) w

pub record_after-id : (e : Event) (c : Creature) → (record_after e c).id ≡ c.id
record_after-id event.Err c = refl
record_after-id _ c = refl

pub put_after-put : (e : Event) (v : World) (c : Creature) → HasFront v → c.id ≡ first_of v.slicer → put_after e (put c v) ≡ put (record_after e c) v
put_after-put e v c l n =
    ap (λ (d : Creature). put (record_after e d) (put c v)) (front-put c v l n) ∙ put-put (record_after e c) c v (record_after-id e c)

pub put-put_after : (e : Event) (v : World) (c : Creature) → HasFront v → c.id ≡ first_of v.slicer
    → put (record_after e c) (put_after e v) ≡ put (record_after e c) v
put-put_after e v c l n =
    put-put (record_after e c) (record_after e (front v)) v (record_after-id e c ∙ n ∙ sym (front-id v l) ∙ sym (record_after-id e (front v)))

pub commutes : (v : World) (c : Creature) (e : Event) → HasFront v → c.id ≡ first_of v.slicer → Shares (front v) c → Commutes v c e
unfolding apply_event
commutes v c (event.Write at value) l n f = refl
commutes v c event.Err l n f =
    let e : Event = event.Err in
    let d : Creature = record_after e (front v) in
    ap with_error_move (put_after-put e v c l n ∙ sym (put-put_after e v c l n))
    ∙ with_error_move-put (record_after e c) (put d v) (has_front-put d v l) n
    (ap (λ (k : ℕ). k + 1) f.errors ∙ sym (ap (λ (x : Creature). x.errors) (front-put d v l (front-id v l))))
commutes v c event.Good l n f = with_good_move-put c v l n f.errors
commutes v c event.GiveUp l n f = put_after-put event.GiveUp v c l n ∙ sym (put-put_after event.GiveUp v c l n)
commutes v c (event.Mal at size) l n f = put_after-put (event.Mal at size) v c l n ∙ sym (put-put_after (event.Mal at size) v c l n)
commutes v c (event.Reap place) l n f = ap (with_living (with_death (slice_index v.reaper place) v)) (without-with c v.living (slice_index v.reaper place))
commutes v c (event.Divide ran moved) l n f =
    let e : Event = (event.Divide ran moved) in
    let known : List Genotype = genotypes_at_birth (front v) ran moved v.genotypes in
    let same : genotypes_at_birth c ran moved v.genotypes ≡ known =
    (λ i. with_effort_of (f.genotype i) (f.bred i + 1) (record { ran = ran; moved = moved }) v.genotypes) in
    ap (λ (d : Creature). put (record_after e d) (with_birth (genotypes_at_birth d ran moved v.genotypes) d.daughter d.genotype (put c v))) (front-put c v l n)
    ∙ with_birth-put (genotypes_at_birth c ran moved v.genotypes) c.daughter c.genotype (record_after e c) c v refl
    ∙ ap (λ (b : Option Block). put (record_after e c) (with_birth (genotypes_at_birth c ran moved v.genotypes) b c.genotype v)) f.daughter
    ∙ (λ i. put (record_after e c) (with_birth (same i) (front v).daughter (f.genotype i) v))
    ∙ sym (put-put (record_after e c) (record_after e (front v)) (with_birth known (front v).daughter (front v).genotype v) (n ∙ sym (front-id v l)))
