-- The bytes of a list grow by those of one more.
use Rattle.std.proofs.Common.{◌≡◌, ◌∙◌, ℕ, ◌+◌, ◌<◌, List, [], ◌∷◌, ◌++◌, ap, get_or, length, map, take}
use Rattle.std.proofs.lemmas.Grind.{flat_map-append}
use Rattle.std.proofs.lemmas.List.{append-nil, map-append, take_more}
use Rattle.std.specs.List.{flat_map}

pub bytes-more : {X Y : Type 0} (f : Y → List ℕ) (g : X → Y) (xs : List X) (k : ℕ) (d : X) → k < length xs
    → flat_map f (map g (take (k + 1) xs)) ≡ flat_map f (map g (take k xs)) ++ f (g (get_or xs k d))
bytes-more f g xs k d h =
    ap (λ (l : List _). flat_map f (map g l)) (take_more xs k d h)
    ∙ ap (flat_map f) (map-append g (take k xs) (get_or xs k d ∷ []))
    ∙ flat_map-append f (map g (take k xs)) (g (get_or xs k d) ∷ [])
    ∙ ap (λ (l : List ℕ). flat_map f (map g (take k xs)) ++ l) (append-nil (f (g (get_or xs k d))))
