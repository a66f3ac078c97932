-- The stand-ins of newborns are nobody's, and a yard that lacks a creature stays as its moves.
use Rattle.std.proofs.Common.{◌≡◌, ℕ, Bool, false, cond, List, [], ◌∷◌, refl, ◌∙◌, ap, arith}
use Rattle.std.specs.Prelude.{All, nat_lt}
use Rattle.std.proofs.lemmas.List.Elements.{All-head, All-tail}
use Rattle.tierra_model.specs.declared.creatures.Creature.{Creature}
use Rattle.tierra_model.specs.declared.creatures.Standing.{Standing}
use Rattle.tierra_model.specs.Queue.{error_move, good_move}
use Rattle.tierra_model.specs.Laws.{YardsAreSafe}
use Rattle.tierra_model.specs.Yard.{is_standing_of}

abbrev Lacks : Creature → Standing → Type 0
Lacks c x = is_standing_of c x ≡ false

no_move_up : (c : Creature) (errors : Standing → ℕ) (xs : List Standing) → All (Lacks c) xs → error_move (is_standing_of c) errors xs ≡ xs
no_move_up c errors [] h = refl
no_move_up c errors (x ∷ []) h = refl
no_move_up c errors (x ∷ y ∷ rest) h =
    let other : is_standing_of c y ≡ false = All-head (Lacks c) y rest (All-tail (Lacks c) x (y ∷ rest) h) in
    ap (λ (b : Bool). cond b (cond (nat_lt (errors y) (errors x)) (x ∷ y ∷ rest) (y ∷ x ∷ rest)) (x ∷ error_move (is_standing_of c) errors (y ∷ rest))) other
    ∙ ap (λ (l : List Standing). x ∷ l) (no_move_up c errors (y ∷ rest) (All-tail (Lacks c) x (y ∷ rest) h))

no_move_down : (c : Creature) (errors : Standing → ℕ) (xs : List Standing) → All (Lacks c) xs → good_move (is_standing_of c) errors xs ≡ xs
no_move_down c errors [] h = refl
no_move_down c errors (x ∷ []) h = refl
no_move_down c errors (x ∷ y ∷ rest) h =
    let other : is_standing_of c x ≡ false = All-head (Lacks c) x (y ∷ rest) h in
    ap (λ (b : Bool). cond b (cond (nat_lt (errors y) (errors x)) (x ∷ y ∷ rest) (y ∷ x ∷ rest)) (x ∷ good_move (is_standing_of c) errors (y ∷ rest))) other
    ∙ ap (λ (l : List Standing). x ∷ l) (no_move_down c errors (y ∷ rest) (All-tail (Lacks c) x (y ∷ rest) h))

pub yards_are_safe : YardsAreSafe
yards_are_safe = (
  (λ w k s j c h e. (let born = s.numbers j c h in omega (arith, born.1, s.next_birth, s.quanta, e))),
  (λ c errors xs h. (no_move_up c errors xs h, no_move_down c errors xs h)),
)
