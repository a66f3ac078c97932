-- The yard after a birth.
use Rattle.std.proofs.Common.{◌≡◌, ℕ, ◌+◌, ◌<◌, true, List, [], ◌∷◌, ◌++◌, refl, sym, ◌∙◌, ap, subst, arith, inl, inr}
use Rattle.std.specs.Prelude.{None, Option, Some, if◌then◌else◌, map, slice_range, unwrap_or, ◌==◌}
use Rattle.std.proofs.lemmas.Bool.Decides.{eqb_tells}
use Rattle.std.proofs.lemmas.List.{map-append}
use Rattle.tierra_model.specs.declared.creatures.Block.{Block}
use Rattle.tierra_model.specs.declared.creatures.Creature.{Creature}
use Rattle.tierra_model.specs.declared.creatures.Standing.{Standing}
use Rattle.tierra_model.specs.declared.events.Event.TheVariants as event
use Rattle.tierra_model.specs.Events.{apply_event, record_after, with_birth}
use Rattle.tierra_model.specs.Individuals.{genotypes_at_birth, with_individual}
use Rattle.tierra_model.specs.Living.{newborn, nobody, one_of, with_record}
use Rattle.tierra_model.specs.World.{Genotype, World, front}
use Rattle.tierra_model.specs.Yard.{standing, with_standing, yard}
use Rattle.tierra_model.proofs.Commutes.{HasFront, front-id}
use Rattle.tierra_model.proofs.EachOnce.{EachOnce}
use Rattle.tierra_model.proofs.Living.{find-append, find-last, is_here, is_here-append, one_of-id}
use Rattle.tierra_model.proofs.Owners.{is_here-times}
use Rattle.tierra_model.proofs.Yards.{map-cong-in, one_of-with_other, one_of-with_same}

-- what one record shows in the place of another, wherever it stands
abbrev replaced : Creature → Standing → Standing
replaced c x = if x.id == c.id then standing c else x

map-twice : (c : Creature) (f : ℕ → Standing) (ids : List ℕ) → with_standing c (map f ids) ≡ map (λ id. replaced c (f id)) ids
map-twice c f [] = refl
map-twice c f (id ∷ ids) = ap (λ (l : List Standing). replaced c (f id) ∷ l) (map-twice c f ids)

-- a record that is put in among the living and a newborn
shown-old : (w : World) (c nb : Creature) → is_here w.living c.id ≡ true → (id : ℕ) → is_here w.living id ≡ true
    → standing (one_of (with_record c (w.living ++ nb ∷ [])) id) ≡ replaced c (standing (one_of w.living id))
shown-old w c nb here id lives =
    let l : List Creature = w.living ++ nb ∷ [] in
    let number : (one_of w.living id).id ≡ id = one_of-id w.living id lives in
    let among : (k : ℕ) → is_here w.living k ≡ true → one_of l k ≡ one_of w.living k =
    λ k h. ap (λ (o : Option Creature). unwrap_or o nobody) (find-append w.living (nb ∷ []) k h) in
    elim (eqb_tells (one_of w.living id).id c.id) [
      | inl e ↦ rw (e.0) (ap standing (ap (one_of (with_record c l)) (sym number ∙ e.1) ∙ one_of-with_same c l (is_here-append w.living (nb ∷ []) c.id here)))
      | inr e ↦ rw (e.0) (ap standing (one_of-with_other c l id (λ same. e.1 (number ∙ same)) ∙ among id lives))
    ]

pub yard-divide : (w : World) (ran moved : ℕ) (b : Block) → HasFront w → EachOnce w → (front w).id < w.next_birth → (front w).daughter ≡ Some b
    → yard (apply_event w (event.Divide ran moved))
    ≡ with_standing (record_after (event.Divide ran moved) (front w)) (yard w)
    ++ record { id = w.next_birth; errors = 0; own = b; daughter = None } ∷ []
unfolding apply_event
yard-divide w ran moved b l t old held =
    ap (λ (d : Option Block). yard (born d)) held
    ∙ map-append shown w.reaper (n ∷ [])
    ∙ ap (λ (s : List Standing). s ++ shown n ∷ []) (map-cong-in shown (λ id. replaced c (standing (one_of w.living id))) w.reaper
    (λ id there. shown-old w c nb here id (is_here-times w.living id (rw (← t.reaper id) there)))
    ∙ sym (map-twice c (λ id. standing (one_of w.living id)) w.reaper))
    ∙ ap (λ (s : Standing). with_standing c (yard w) ++ s ∷ []) newest
  where
    n : ℕ
    n = w.next_birth

    c : Creature
    c = record_after (event.Divide ran moved) (front w)

    known : List Genotype
    known = genotypes_at_birth (front w) ran moved w.genotypes

    born : Option Block → World
    born d = let v = with_birth known d (front w).genotype w in record v { living = with_record c v.living }

    nb : Creature
    nb = newborn n b (with_individual known (slice_range w.soup b.at (b.at + b.size)) (Some (front w).genotype) (w.quanta + 1)).1

    shown : ℕ → Standing
    shown id = standing (one_of (with_record c (w.living ++ nb ∷ [])) id)

    here : is_here w.living c.id ≡ true
    here = subst (λ (id : ℕ). is_here w.living id ≡ true) (sym (front-id w l)) l.here

    newest : shown n ≡ record { id = n; errors = 0; own = b; daughter = None }
    newest =
        ap standing (one_of-with_other c (w.living ++ nb ∷ []) n (λ e. absurd (omega (arith, ap (λ (k : ℕ). k) e, old)))
        ∙ ap (λ (o : Option Creature). unwrap_or o nobody) (find-last w.living nb (t.fresh n (omega arith))))
