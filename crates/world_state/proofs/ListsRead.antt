-- A loop over a list, and what it has made of the elements so far.
use Rattle.std.proofs.Common.{◌≡◌, ◌∙◌, ◌+◌, ◌<◌, ◌++◌, ◌∷◌, [], List, ap, get_or, length, map, sym, take, ℕ}
use Rattle.std.proofs.lemmas.List.{flat_map_more, map-append, map_more, take_more}
use Rattle.std.specs.List.{flat_map}

-- an image more
pub image_more : {X Y : Type 0} (f : X → Y) (xs : List X) (i : ℕ) (d : X) (before after : List Y) → i < length xs → before ≡ map f (take i xs)
    → after ≡ before ++ f (get_or xs i d) ∷ [] → after ≡ map f (take (i + 1) xs)
image_more f xs i d before after lt so pushed = pushed ∙ ap (λ ys. ys ++ f (get_or xs i d) ∷ []) so ∙ sym (map_more f xs i d lt)

-- a piece more
pub piece_more : {X Y : Type 0} (f : X → List Y) (xs : List X) (i : ℕ) (d : X) (start before after : List Y) → i < length xs
    → before ≡ start ++ flat_map f (take i xs) → after ≡ before ++ f (get_or xs i d) → after ≡ start ++ flat_map f (take (i + 1) xs)
piece_more f xs i d start before after lt so pushed =
    pushed ∙ ap (λ ys. ys ++ f (get_or xs i d)) so ∙ flat_map_more f start (take i xs) (get_or xs i d)
    ∙ ap (λ ys. start ++ flat_map f ys) (sym (take_more xs i d lt))

-- an image of an image more
pub images_more : {X Y Z : Type 0} (g : Y → Z) (f : X → Y) (xs : List X) (i : ℕ) (d : X) (before after : List Z) → i < length xs
    → before ≡ map g (map f (take i xs)) → after ≡ before ++ g (f (get_or xs i d)) ∷ [] → after ≡ map g (map f (take (i + 1) xs))
images_more g f xs i d before after lt so pushed =
    pushed ∙ ap (λ zs. zs ++ g (f (get_or xs i d)) ∷ []) so ∙ sym (map-append g (map f (take i xs)) (f (get_or xs i d) ∷ []))
    ∙ ap (map g) (sym (map_more f xs i d lt))

-- a piece of an image more
pub pieces_more : {X Y Z : Type 0} (g : Y → List Z) (f : X → Y) (xs : List X) (i : ℕ) (d : X) (start before after : List Z) → i < length xs
    → before ≡ start ++ flat_map g (map f (take i xs)) → after ≡ before ++ g (f (get_or xs i d)) → after ≡ start ++ flat_map g (map f (take (i + 1) xs))
pieces_more g f xs i d start before after lt so pushed =
    pushed ∙ ap (λ zs. zs ++ g (f (get_or xs i d))) so ∙ flat_map_more g start (map f (take i xs)) (f (get_or xs i d))
    ∙ ap (λ ys. start ++ flat_map g ys) (sym (map_more f xs i d lt))
