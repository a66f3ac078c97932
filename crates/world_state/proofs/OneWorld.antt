-- Bytes are those of one sound world.
use Rattle.std.proofs.Common.{◌≡◌, ◌∙◌, refl, sym, ap, ap₂, subst, arith, inl, inr, ℕ, ◌<◌, List, [], ◌∷◌, map}
use Rattle.std.specs.Prelude.{slice_index_or}
use Rattle.std.proofs.lemmas.Bool.Decides.{eqb_tells}
use Rattle.tierra_model.specs.declared.creatures.Creature.{Creature}
use Rattle.tierra_model.specs.declared.parameters.Settings.{Settings}
use Rattle.tierra_model.specs.Counting.{one_if, times_in}
use Rattle.tierra_model.specs.Living.{ids_of, nobody, one_of}
use Rattle.tierra_model.specs.Sound.{IsSound}
use Rattle.tierra_model.specs.World.{World}
use Rattle.tierra_model.proofs.Each.{Each}
use Rattle.world_state.specs.Reading.{StateParts, genotypes_of}
use Rattle.world_state.specs.Restoring.{AreBytesOf}
use Rattle.world_state.specs.Savings.{savings_of}
use Rattle.world_state.proofs.LineOrder.{are-here, each-times, found-again, ids-of_line, line_of, ordered-same}
use Rattle.world_state.proofs.Told.{first_is, genotypes-again, parts_of_world, read_back, savings-again}

same_head : (x y : Creature) (xs ys : List Creature) → x ∷ xs ≡ y ∷ ys → x ≡ y
same_head x y xs ys e = ap (λ (l : List Creature). slice_index_or l 0 nobody) e

same_rest : (x y : Creature) (xs ys : List Creature) → x ∷ xs ≡ y ∷ ys → xs ≡ ys
same_rest x y xs ys e = cc

module _ (f g : ℕ → Creature) where
  -- where two maps of a list are the same, so are the values
  each-value : (ids : List ℕ) → map f ids ≡ map g ids → Each (λ id. f id ≡ g id) ids
  each-value [] same = tt
  each-value (id ∷ ids) same =
      (same_head (f id) (g id) (map f ids) (map g ids) same, each-value ids (same_rest (f id) (g id) (map f ids) (map g ids) same))

  map-same : (ids : List ℕ) → Each (λ id. f id ≡ g id) ids → map f ids ≡ map g ids
  map-same [] each = refl
  map-same (id ∷ ids) each = ap₂ (λ (c : Creature) (l : List Creature). c ∷ l) each.0 (map-same ids each.1)

-- what holds of each number of a list holds of one that it has
one-of-each : (P : ℕ → Type 0) (ids : List ℕ) → Each P ids → (id : ℕ) → 0 < times_in ids id → P id
one-of-each P [] each id some = absurd (omega arith)
one-of-each P (x ∷ xs) each id some = elim (eqb_tells x id) [
  | inl same ↦ subst P same.1 each.0
  | inr other ↦ one-of-each P xs each.1 id (omega (arith, some, ap one_if other.0))
]

-- those who stand the same in the slicer queue live the same
same_living : (v w : World) → IsSound v → IsSound w → v.slicer ≡ w.slicer → line_of v ≡ line_of w → v.living ≡ w.living
same_living v w s t queue line =
    let ids : ids_of v.living ≡ ids_of w.living = ordered-same 1 (ids_of v.living) (ids_of w.living) s.ordered t.ordered
    (λ id. sym (s.slicer id) ∙ ap (λ (l : List ℕ). times_in l id) queue ∙ t.slicer id) in
    let on_line : map (one_of v.living) v.slicer ≡ map (one_of w.living) v.slicer =
    line ∙ ap (map (one_of w.living)) (sym queue) in
    let values = each-value (one_of v.living) (one_of w.living) v.slicer on_line in
    let each = each-times (λ id. one_of v.living id ≡ one_of w.living id) (ids_of v.living)
    (λ id some. one-of-each (λ id. one_of v.living id ≡ one_of w.living id) v.slicer values id (omega (arith, some, s.slicer id))) in
    sym (found-again v.living s.ordered)
    ∙ map-same (one_of v.living) (one_of w.living) (ids_of v.living) each
    ∙ ap (map (one_of w.living)) ids
    ∙ found-again w.living t.ordered

-- two sound worlds with the same settings and the same bytes are the same
pub one_world : (chosen : Settings) (bytes : List ℕ) (v w : World) → AreBytesOf chosen bytes v → AreBytesOf chosen bytes w → v ≡ w
one_world chosen bytes v w a b =
    let same : parts_of_world v ≡ parts_of_world w =
    first_is (parts_of_world v) (parts_of_world w) [] [] (sym (read_back chosen bytes v a) ∙ read_back chosen bytes w b) in
    let line : line_of v ≡ line_of w = ap (λ (p : StateParts). p.1.1.0) same in
    let queue : v.slicer ≡ w.slicer =
    sym (ids-of_line v.living v.slicer (are-here v.living v.slicer a.sound.slicer)) ∙ ap ids_of line
    ∙ ids-of_line w.living w.slicer (are-here w.living w.slicer b.sound.slicer) in
    let living = same_living v w a.sound b.sound queue line in
    let genotypes : v.genotypes ≡ w.genotypes =
    sym (genotypes-again v.genotypes) ∙ ap (λ (p : StateParts). genotypes_of p.1.1.1.1.0) same ∙ genotypes-again w.genotypes in
    let saved : v.saved ≡ w.saved =
    sym (savings-again v.saved) ∙ ap (λ (p : StateParts). savings_of p.1.1.1.1.1) same ∙ savings-again w.saved in
    (λ i. record {
      settings = (a.settings ∙ sym b.settings) i;
      soup = ap (λ (p : StateParts). p.0) same i;
      living = living i;
      slicer = queue i;
      reaper = ap (λ (p : StateParts). p.1.1.1.0) same i;
      genotypes = genotypes i;
      saved = saved i;
      births = ap (λ (p : StateParts). p.1.0.0.1) same i;
      deaths = ap (λ (p : StateParts). p.1.0.1.0) same i;
      next_birth = ap (λ (p : StateParts). p.1.0.1.1) same i;
      quanta = ap (λ (p : StateParts). p.1.0.0.0) same i;
    })
