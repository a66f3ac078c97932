-- Which pages are the soup's own, when one of them is put in another's place.
use Rattle.std.proofs.Common.{◌≡◌, ◌∙◌, ◌<◌, ℕ, zero, suc, Bool, true, false, List, [], ◌∷◌, ap, get_or, length, map, set, subst, sym}
use Rattle.std.proofs.lemmas.List.{get_or-map, get_or-set_same, length-map, map-set}
use Rattle.std.specs.Prelude.{OnOk, Result, Ok, Err}

flag-kept : (flags : List Bool) (k j : ℕ) (flag : Bool) → (get_or flags k false ≡ true → flag ≡ true) → get_or flags j false ≡ true
    → get_or (set flags k flag) j false ≡ true
flag-kept [] k j flag up h = h
flag-kept (f ∷ flags) zero zero flag up h = up h
flag-kept (f ∷ flags) zero (suc j) flag up h = h
flag-kept (f ∷ flags) (suc k) zero flag up h = h
flag-kept (f ∷ flags) (suc k) (suc j) flag up h = flag-kept flags k j flag up h

pub own-set : {X : Type 0} (f : X → Bool) (pages : List X) (k : ℕ) (x : X) → k < length pages → f x ≡ true → get_or (map f (set pages k x)) k false ≡ true
own-set f pages k x l is =
    ap (λ (flags : List Bool). get_or flags k false) (map-set f pages k x)
    ∙ get_or-set_same (map f pages) k (f x) false (subst (λ (n : ℕ). k < n) (sym (length-map pages f)) l)
    ∙ is

pub own-kept : {X : Type 0} (f : X → Bool) (pages : List X) (k j : ℕ) (x y : X) → k < length pages → x ≡ get_or pages k x → (f x ≡ true → f y ≡ true)
    → get_or (map f pages) j false ≡ true → get_or (map f (set pages k y)) j false ≡ true
own-kept f pages k j x y l e up is =
    ap (λ (flags : List Bool). get_or flags j false) (map-set f pages k y)
    ∙ flag-kept (map f pages) k j (f y) (λ h. up (ap f e ∙ sym (get_or-map f pages k x false l) ∙ h)) is

pub on-ok : {T E : Type 0} (r : Result T E) {P Q : Type 0} → (P → Q) → OnOk r P → OnOk r Q
on-ok (Ok x) f h = f h
on-ok (Err e) f h = tt
