-- The soup of a scene shows the cells of the world that are known, after each look and each event.
use Rattle.std.proofs.Common.{◌≡◌, ℕ, zero, suc, Bool, true, false, List, [], ◌∷◌, refl, sym, ◌∙◌, ap, subst, arith, inl, inr, length}
use Rattle.std.specs.Prelude.{◌==◌, ◌||◌, slice_index, slice_set}
use Rattle.std.specs.List.{list_any}
use Rattle.std.proofs.lemmas.List.{get_or-set_other, length-set}
use Rattle.std.proofs.lemmas.List.Folds.{list_any-append}
use Rattle.std.proofs.lemmas.Bool.{or_right}
use Rattle.std.proofs.lemmas.Bool.Decides.{nat_tests, eqb_tells}
use Rattle.tierra_model.specs.declared.events.Event.{Event}
use Rattle.tierra_model.specs.declared.events.Event.TheVariants as event
use Rattle.tierra_model.specs.World.{World}
use Rattle.tierra_model.specs.Events.{apply_event}
use Rattle.tierra_model.specs.Reads.{is_noted, writes}
use Rattle.tierra_model.specs.SceneRun.{SceneRun, scene_machine, is_known, with_noted_cell}
use Rattle.tierra_model.proofs.EventEffects.{soup-event, soup-in_scene}

-- the run after an event
abbrev pub with_event : SceneRun → Event → SceneRun
with_event x e = scene_machine.apply x e

-- The soup was start and is now: a known cell, which the run noted or wrote, is the scene's, and any other is as it was.
pub record ShowsCells (x : SceneRun) (start now : List ℕ) : Type 0 where
  pub known : (p : ℕ) → is_known x p ≡ true → slice_index now p ≡ slice_index x.now.soup p
  pub unknown : (p : ℕ) → is_known x p ≡ false → slice_index now p ≡ slice_index start p
  pub unread : (p : ℕ) → is_known x p ≡ false → slice_index x.now.soup p ≡ slice_index x.start.soup p
  pub sized : length now ≡ length x.now.soup

-- ---- an event

known-event : (x : SceneRun) (e : Event) (p : ℕ) → writes p e ≡ false → is_known (with_event x e) p ≡ is_known x p
known-event x e p h =
    ap (λ (b : Bool). is_noted x.cells p || b)
    (list_any-append (writes p) x.events (e ∷ []) ∙ rw h (or-false (list_any (writes p) x.events)))
  where
    or-false : (b : Bool) → (b || (false || false)) ≡ b
    or-false true = refl
    or-false false = refl

known-write : (x : SceneRun) (at value p : ℕ) → (at == p) ≡ true → is_known (with_event x (event.Write at value)) p ≡ true
known-write x at value p h =
    ap (λ (b : Bool). is_noted x.cells p || b)
    (list_any-append (writes p) x.events (event.Write at value ∷ []) ∙ rw h (or-true (list_any (writes p) x.events)))
    ∙ or_right (is_noted x.cells p) true refl
  where
    or-true : (b : Bool) → (b || (true || false)) ≡ true
    or-true true = refl
    or-true false = refl

set-same : (a b : List ℕ) (at value : ℕ) → length a ≡ length b → slice_index (slice_set a at value) at ≡ slice_index (slice_set b at value) at
set-same [] [] at value h = refl
set-same [] (y ∷ ys) at value h = absurd (omega arith)
set-same (x ∷ xs) [] at value h = absurd (omega arith)
set-same (x ∷ xs) (y ∷ ys) zero value h = refl
set-same (x ∷ xs) (y ∷ ys) (suc k) value h = set-same xs ys k value (omega arith)

abbrev at_cell : ℕ → List ℕ → ℕ
at_cell p soup = slice_index soup p

-- an event that writes no cell
cells-kept : (x : SceneRun) (e : Event) (start now after : List ℕ) → after ≡ now → (with_event x e).now.soup ≡ x.now.soup → ((p : ℕ) → writes p e ≡ false)
    → ShowsCells x start now → ShowsCells (with_event x e) start after
cells-kept x e start now after hv hx hw m =
    let before : (p : ℕ) (b : Bool) → is_known (with_event x e) p ≡ b → is_known x p ≡ b = λ p b k. sym (known-event x e p (hw p)) ∙ k in
    record {
      known = λ p k. ap (at_cell p) hv ∙ m.known p (before p true k) ∙ sym (ap (at_cell p) hx);
      unknown = λ p k. ap (at_cell p) hv ∙ m.unknown p (before p false k);
      unread = λ p k. ap (at_cell p) hx ∙ m.unread p (before p false k);
      sized = ap length hv ∙ m.sized ∙ sym (ap length hx);
    }

cells-written : (x : SceneRun) (at value : ℕ) (start now after : List ℕ) → after ≡ slice_set now at value
    → (with_event x (event.Write at value)).now.soup ≡ slice_set x.now.soup at value
    → ShowsCells x start now → ShowsCells (with_event x (event.Write at value)) start after
cells-written x at value start now after hv hx m =
    let e : Event = event.Write at value in
    let before : (p : ℕ) (b : Bool) → writes p e ≡ false → is_known (with_event x e) p ≡ b → is_known x p ≡ b = λ p b w k. sym (known-event x e p w) ∙ k in
    let other : (soup : List ℕ) (p : ℕ) → (at ≡ p → ⊥) → slice_index (slice_set soup at value) p ≡ slice_index soup p =
    λ soup p n. get_or-set_other soup at p value 0 (λ b. n (sym b)) in
    record {
      known = λ p k. ap (at_cell p) hv ∙ elim (eqb_tells at p) [
        | inl a ↦ subst (λ q. slice_index (slice_set now at value) q ≡ slice_index (slice_set x.now.soup at value) q) a.1
            (set-same now x.now.soup at value m.sized)
        | inr a ↦ other now p a.1 ∙ m.known p (before p true a.0 k) ∙ sym (other x.now.soup p a.1)
      ] ∙ sym (ap (at_cell p) hx);
      unknown = λ p k. ap (at_cell p) hv ∙ elim (eqb_tells at p) [
        | inl a ↦ (let b : true ≡ false = sym (known-write x at value p a.0) ∙ k in cc)
        | inr a ↦ other now p a.1 ∙ m.unknown p (before p false a.0 k)
      ];
      unread = λ p k. ap (at_cell p) hx ∙ elim (eqb_tells at p) [
        | inl a ↦ (let b : true ≡ false = sym (known-write x at value p a.0) ∙ k in cc)
        | inr a ↦ other x.now.soup p a.1 ∙ m.unread p (before p false a.0 k)
      ];
      sized = ap length hv ∙ length-set now at value ∙ m.sized ∙ sym (ap length hx ∙ length-set x.now.soup at value);
    }

pub cells-event : (x : SceneRun) (e : Event) (start : List ℕ) (v : World) → ShowsCells x start v.soup → ShowsCells (with_event x e) start (apply_event v e).soup
cells-event x (event.Write at value) start v m =
    let e : Event = event.Write at value in
    cells-written x at value start v.soup (apply_event v e).soup (soup-event v e) (soup-in_scene x.newborns x.now e) m
cells-event x e start v m = cells-kept x e start v.soup (apply_event v e).soup (soup-event v e) (soup-in_scene x.newborns x.now e) (λ p. refl) m

-- ---- a look

known-other : (p q : ℕ) (x : SceneRun) → (p == q) ≡ false → is_known (with_noted_cell x p) q ≡ is_known x q
unfolding with_noted_cell
known-other p q x e = grind (arith, nat_tests, list_any-append)

known-later : (p q : ℕ) (x : SceneRun) → is_known (with_noted_cell x p) q ≡ false → is_known x q ≡ false
unfolding with_noted_cell
known-later p q x e = grind (arith, nat_tests, list_any-append)

-- A cell that was not known was the same at the start.
abbrev pub WasSame : SceneRun → List ℕ → ℕ → Type 0
WasSame x start p = is_known x p ≡ false → slice_index x.start.soup p ≡ slice_index start p

-- the cell looked at is the scene's
pub cell-seen : (x : SceneRun) (start now : List ℕ) (p : ℕ) → ShowsCells x start now → WasSame x start p → slice_index now p ≡ slice_index x.now.soup p
cell-seen x start now p m h = go (is_known x p) refl
  where
    go : (b : Bool) → is_known x p ≡ b → slice_index now p ≡ slice_index x.now.soup p
    go true k = m.known p k
    go false k = m.unknown p k ∙ sym (h k) ∙ sym (m.unread p k)

pub cells-look : (x : SceneRun) (start now : List ℕ) (p : ℕ) → ShowsCells x start now → WasSame x start p → ShowsCells (with_noted_cell x p) start now
unfolding with_noted_cell
cells-look x start now p m h =
    record {
      known = λ q k. elim (eqb_tells p q) [
        | inl e ↦ subst (λ a. slice_index now a ≡ slice_index x.now.soup a) e.1 (cell-seen x start now p m h)
        | inr e ↦ m.known q (sym (known-other p q x e.0) ∙ k)
      ];
      unknown = λ q k. m.unknown q (known-later p q x k);
      unread = λ q k. m.unread q (known-later p q x k);
      sized = m.sized;
    }
