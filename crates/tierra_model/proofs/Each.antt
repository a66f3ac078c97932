-- What holds of each element of a list, and of each creature as records and creatures come and go.
use Rattle.std.proofs.Common.{◌≡◌, ℕ, Bool, true, cond, List, [], ◌∷◌, ◌++◌, sym, ap, subst, inl, inr}
use Rattle.std.specs.Prelude.{Some, All, not, find, unwrap_or, ◌==◌}
use Rattle.std.proofs.lemmas.Bool.{cond_both}
use Rattle.std.proofs.lemmas.Bool.Decides.{eqb_tells}
use Rattle.std.proofs.lemmas.List.Elements.{All-nil, All-cons, All-head, All-tail}
use Rattle.tierra_model.specs.declared.creatures.Creature.{Creature}
use Rattle.tierra_model.specs.Living.{one_of, with_record, without, nobody}
use Rattle.tierra_model.proofs.Living.{is_here}

abbrev pub Each : {X : Type 0} → (X → Type 0) → List X → Type 0
Each P [] = Unit {0}
Each P (x ∷ xs) = P x × Each P xs

pub each_from_all : {X : Type 0} (P : X → Type 0) (xs : List X) → All P xs → Each P xs
each_from_all P [] h = tt
each_from_all P (x ∷ xs) h = (All-head P x xs h, each_from_all P xs (All-tail P x xs h))

pub all_from_each : {X : Type 0} (P : X → Type 0) (xs : List X) → Each P xs → All P xs
all_from_each P [] h = All-nil P
all_from_each P (x ∷ xs) h = All-cons P x xs h.0 (all_from_each P xs h.1)

pub each-map : {X : Type 0} (P Q : X → Type 0) → ((x : X) → P x → Q x) → (xs : List X) → Each P xs → Each Q xs
each-map P Q f [] h = tt
each-map P Q f (x ∷ xs) h = (f x h.0, each-map P Q f xs h.1)

pub each-append : {X : Type 0} (P : X → Type 0) (xs ys : List X) → Each P xs → Each P ys → Each P (xs ++ ys)
each-append P [] ys h k = k
each-append P (x ∷ xs) ys h k = (h.0, each-append P xs ys h.1 k)

pub each-with : (P : Creature → Type 0) (c : Creature) (xs : List Creature) → P c → Each P xs → Each P (with_record c xs)
each-with P c [] h k = tt
each-with P c (x ∷ xs) h k = (cond_both (x.id == c.id) c x P (λ e. h) (λ e. k.0), each-with P c xs h k.1)

pub each-without : (P : Creature → Type 0) (id : ℕ) (xs : List Creature) → Each P xs → Each P (without id xs)
each-without P id [] h = tt
each-without P id (x ∷ xs) h =
    cond_both (not (x.id == id)) (x ∷ without id xs) (without id xs) (Each P) (λ e. (h.0, each-without P id xs h.1)) (λ e. each-without P id xs h.1)

pub each-one : (P : Creature → Type 0) (xs : List Creature) (id : ℕ) → is_here xs id ≡ true → Each P xs → P (one_of xs id)
each-one P [] id h k = cc
each-one P (x ∷ xs) id h k = elim (eqb_tells x.id id) [
  | inl e ↦ subst P (sym (ap (λ (b : Bool). unwrap_or (cond b (Some x) (find (λ c. c.id == id) xs)) nobody) e.0)) k.0
  | inr e ↦ subst P (sym (ap (λ (b : Bool). unwrap_or (cond b (Some x) (find (λ c. c.id == id) xs)) nobody) e.0)) (each-one P xs id (rw (e.0) at h) k.1)
]
