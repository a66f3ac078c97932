-- Ways to put fields together, so that the whole is read exactly where it is written.
use Rattle.std.proofs.Common.{◌≡◌, ◌∙◌, refl, sym, ap, subst, ℕ, zero, suc, ◌+◌, ◌<◌, arith, Bool, true, false, List, [], ◌∷◌, ◌++◌, All, length}
use Rattle.std.proofs.Common.{take, drop, Option, Some, None, append_assoc, inl, inr}
use Rattle.std.specs.List.{flat_map}
use Rattle.std.proofs.lemmas.Bool.{cases_lt}
use Rattle.std.proofs.lemmas.List.{drop_at, length-take, get_or-drop, get_or-take, get_or_past}
use Rattle.std.proofs.lemmas.List.Concat.{flat_map-cons}
use Rattle.std.proofs.lemmas.List.Elements.{All-cons, All-head, All-nil, All-tail}
use Rattle.byte_fields.specs.Exact.{IsBytes, Reads}
use Rattle.byte_fields.specs.Reading.{only_if, ◌>>=◌, both, counted_at, list_at, made, made_if, second}

pub IsBytes-drop : (n : ℕ) (bytes : List ℕ) → IsBytes bytes → IsBytes (drop n bytes)
IsBytes-drop n bytes h i = rw get_or-drop (h (n + i))

pub IsBytes-take : (n : ℕ) (bytes : List ℕ) → IsBytes bytes → IsBytes (take n bytes)
IsBytes-take n bytes h i =
    elim (cases_lt i n) [
      | inl lt ↦ rw (get_or-take n bytes i 0 lt) (h i)
      | inr le ↦ rw (get_or_past (take n bytes) i 0 (omega (arith, length-take n bytes))) (omega arith)
    ]

pub rest_bytes : (bytes front rest : List ℕ) → IsBytes bytes → bytes ≡ front ++ rest → IsBytes rest
rest_bytes bytes front rest h e =
    subst IsBytes (drop_at front rest (length front) refl) (IsBytes-drop (length front) (front ++ rest) (subst IsBytes e h))

-- the value of a step that found one
pub bind_some : {A B : Type 0} (o : Option A) (f : A → Option B) (y : B) → (o >>= f) ≡ Some y
    → (x : A) × (o ≡ Some x) × (f x ≡ Some y)
bind_some (Some x) f y e = (x, refl, e)
bind_some None f y e = absurd cc

abbrev there : {A : Type 0} → A → Option A
there x = Some x

pub some_is : {A : Type 0} (x y : A) → there x ≡ there y → x ≡ y
some_is x y e = cc

-- a test that passed, and one that passes
pub passed : {A : Type 0} (b : Bool) (x y : A) → only_if b x ≡ Some y → (b ≡ true) × (x ≡ y)
passed true x y e = (refl, cc)
passed false x y e = absurd cc

-- one field after another
pub reads_both : {X Y : Type 0} (P : X → Type 0) (text : X → List ℕ) (first : List ℕ → Option (X × List ℕ))
    (Q : X → Y → Type 0) (text' : Y → List ℕ) (next : X → List ℕ → Option (Y × List ℕ))
    → Reads P text first → ((x : X) → Reads (Q x) text' (next x))
    → Reads (λ (p : X × Y). P p.0 × Q p.0 p.1) (λ (p : X × Y). text p.0 ++ text' p.1) (both first next)
reads_both {X = X} {Y = Y} P text first Q text' next one two = record {
  takes = λ bytes x h e.
      let a = bind_some (first bytes) (λ p. next p.0 p.1 >>= λ q. Some ((p.0, q.0), q.1)) x e in
      let b = bind_some (next a.0.0 a.0.1) (λ q. Some ((a.0.0, q.0), q.1)) x a.2 in
      let t = one.takes bytes a.0 h a.1 in
      let u = (two a.0.0).takes a.0.1 b.0 (rest_bytes bytes (text a.0.0) a.0.1 h t.0) b.1 in
      let found : (X × Y) × List ℕ = ((a.0.0, b.0.0), b.0.1) in
      let parts = t.0 ∙ ap (λ (r : List ℕ). text a.0.0 ++ r) u.0 ∙ sym (append_assoc (text a.0.0) (text' b.0.0) b.0.1) in
      subst (λ (y : (X × Y) × List ℕ). (bytes ≡ (text y.0.0 ++ text' y.0.1) ++ y.1) × (P y.0.0 × Q y.0.0 y.0.1))
      (some_is found x b.2) (parts, (t.1, u.1));
  again = λ x rest p.
      ap (both first next) (append_assoc (text x.0) (text' x.1) rest)
      ∙ rw (one.again x.0 (text' x.1 ++ rest) p.0, (two x.0).again x.1 rest p.1) refl;
}

-- one field after another, which does not depend on it
pub reads_pair : {X Y : Type 0} (P : X → Type 0) (text : X → List ℕ) (first : List ℕ → Option (X × List ℕ))
    (Q : Y → Type 0) (text' : Y → List ℕ) (next : List ℕ → Option (Y × List ℕ))
    → Reads P text first → Reads Q text' next
    → Reads (λ (p : X × Y). P p.0 × Q p.1) (λ (p : X × Y). text p.0 ++ text' p.1) (both first (λ _. next))
reads_pair P text first Q text' next one two = reads_both P text first (λ _. Q) text' (λ _. next) one (λ _. two)

-- A value that can be made of another, with the same text.
pub record MakesIf {X Y : Type 0} (P : X → Type 0) (text : X → List ℕ) (make : X → Option Y) (Q : Y → Type 0)
    (text' : Y → List ℕ) : Type 0 where
  pub from : (x : X) (y : Y) → P x → make x ≡ Some y → Q y × (text x ≡ text' y)
  pub back : (y : Y) → Q y → (x : X) × P x × (make x ≡ Some y) × (text x ≡ text' y)

pub reads_made_if : {X Y : Type 0} (P : X → Type 0) (text : X → List ℕ) (make : X → Option Y) (Q : Y → Type 0)
    (text' : Y → List ℕ) (field : List ℕ → Option (X × List ℕ)) → MakesIf P text make Q text' → Reads P text field
    → Reads Q text' (made_if make field)
reads_made_if {X = X} {Y = Y} P text make Q text' field makes reads = record {
  takes = λ bytes y h e.
      let a = bind_some (field bytes) (λ p. make p.0 >>= λ q. Some (q, p.1)) y e in
      let b = bind_some (make a.0.0) (λ q. Some (q, a.0.1)) y a.2 in
      let t = reads.takes bytes a.0 h a.1 in
      let m = makes.from a.0.0 b.0 t.1 b.1 in
      let found : Y × List ℕ = (b.0, a.0.1) in
      subst (λ (z : Y × List ℕ). (bytes ≡ text' z.0 ++ z.1) × Q z.0) (some_is found y b.2)
      (t.0 ∙ ap (λ (l : List ℕ). l ++ a.0.1) m.1, m.0);
  again = λ y rest q.
      let m = makes.back y q in
      ap (λ (l : List ℕ). made_if make field (l ++ rest)) (sym m.3) ∙ rw (reads.again m.0 rest m.1, m.2) refl;
}

-- A value that is made of any other, with the same text.
pub record Makes {X Y : Type 0} (P : X → Type 0) (text : X → List ℕ) (make : X → Y) (Q : Y → Type 0)
    (text' : Y → List ℕ) : Type 0 where
  pub from : (x : X) → P x → Q (make x) × (text x ≡ text' (make x))
  pub back : (y : Y) → Q y → (x : X) × P x × (make x ≡ y) × (text x ≡ text' y)

pub reads_made : {X Y : Type 0} (P : X → Type 0) (text : X → List ℕ) (make : X → Y) (Q : Y → Type 0)
    (text' : Y → List ℕ) (field : List ℕ → Option (X × List ℕ)) → Makes P text make Q text' → Reads P text field
    → Reads Q text' (made make field)
reads_made {X = X} {Y = Y} P text make Q text' field makes =
    reads_made_if P text (λ x. there (make x)) Q text' field (record {
      from = λ x y p e. subst (λ (z : Y). Q z × (text x ≡ text' z)) (some_is (make x) y e) (makes.from x p);
      back = λ y q.
          let m = makes.back y q in
          (m.0, m.1, ap there m.2, m.3);
    })

-- ---- lists

abbrev pub Listed : {X : Type 0} → (X → Type 0) → ℕ → List X → Type 0
Listed P n xs = (length xs ≡ n) × All P xs

list_takes : {X : Type 0} (P : X → Type 0) (text : X → List ℕ) (field : List ℕ → Option (X × List ℕ)) → Reads P text field
    → (n : ℕ) (bytes : List ℕ) (x : List X × List ℕ) → IsBytes bytes → list_at field n bytes ≡ Some x
    → (bytes ≡ flat_map text x.0 ++ x.1) × Listed P n x.0
unfolding list_at
list_takes {X = X} P text field one zero bytes x h e =
    let found : List X × List ℕ = ([], bytes) in
    subst (λ (y : List X × List ℕ). (bytes ≡ flat_map text y.0 ++ y.1) × Listed P 0 y.0) (some_is found x e) (refl, (refl, All-nil P))
list_takes {X = X} P text field one (suc n) bytes x h e =
    let a = bind_some (field bytes) (λ p. list_at field n p.1 >>= λ q. Some (p.0 ∷ q.0, q.1)) x e in
    let b = bind_some (list_at field n a.0.1) (λ q. Some (a.0.0 ∷ q.0, q.1)) x a.2 in
    let s = one.takes bytes a.0 h a.1 in
    let more = list_takes P text field one n a.0.1 b.0 (rest_bytes bytes (text a.0.0) a.0.1 h s.0) b.1 in
    let found : List X × List ℕ = (a.0.0 ∷ b.0.0, b.0.1) in
    let whole : bytes ≡ flat_map text (a.0.0 ∷ b.0.0) ++ b.0.1 =
    s.0 ∙ ap (λ (r : List ℕ). text a.0.0 ++ r) more.0 ∙ sym (append_assoc (text a.0.0) (flat_map text b.0.0) b.0.1)
    ∙ ap (λ (l : List ℕ). l ++ b.0.1) (sym (flat_map-cons text a.0.0 b.0.0)) in
    subst (λ (y : List X × List ℕ). (bytes ≡ flat_map text y.0 ++ y.1) × Listed P (suc n) y.0) (some_is found x b.2)
    (whole, (ap suc more.1.0, All-cons P a.0.0 b.0.0 s.1 more.1.1))

list_again : {X : Type 0} (P : X → Type 0) (text : X → List ℕ) (field : List ℕ → Option (X × List ℕ)) → Reads P text field
    → (xs : List X) (rest : List ℕ) → All P xs → list_at field (length xs) (flat_map text xs ++ rest) ≡ Some (xs, rest)
unfolding list_at
list_again P text field one [] rest all = refl
list_again P text field one (x ∷ xs) rest all =
    let more = flat_map text xs in
    let whole : flat_map text (x ∷ xs) ++ rest ≡ text x ++ (more ++ rest) =
    ap (λ (l : List ℕ). l ++ rest) (flat_map-cons text x xs) ∙ append_assoc (text x) more rest in
    ap (list_at field (suc (length xs))) whole
    ∙ rw (one.again x (more ++ rest) (All-head P x xs all), list_again P text field one xs rest (All-tail P x xs all)) refl

-- n of them, one after another
pub reads_list : {X : Type 0} (P : X → Type 0) (text : X → List ℕ) (field : List ℕ → Option (X × List ℕ)) → Reads P text field
    → (n : ℕ) → Reads (Listed P n) (flat_map text) (list_at field n)
reads_list {X = X} P text field one n = record {
  takes = list_takes P text field one n;
  again = λ xs rest p.
      subst (λ k. list_at field k (flat_map text xs ++ rest) ≡ Some (xs, rest)) p.0 (list_again P text field one xs rest p.1);
}

abbrev pub Counted : {X : Type 0} → ℕ → (X → Type 0) → List X → Type 0
Counted limit P xs = (length xs < limit) × All P xs

-- a list after its length
pub reads_counted : {X : Type 0} (limit : ℕ) (number : ℕ → List ℕ) (number_at : List ℕ → Option (ℕ × List ℕ))
    (P : X → Type 0) (text : X → List ℕ) (field : List ℕ → Option (X × List ℕ))
    → Reads (λ n. n < limit) number number_at → Reads P text field
    → Reads (Counted limit P) (λ xs. number (length xs) ++ flat_map text xs) (counted_at number_at field)
unfolding counted_at
reads_counted {X = X} limit number number_at P text field one two =
    reads_made (λ (p : ℕ × List X). (p.0 < limit) × Listed P p.0 p.1) (λ p. number p.0 ++ flat_map text p.1) second
    (Counted limit P) (λ xs. number (length xs) ++ flat_map text xs) (both number_at (list_at field))
    (record {
      from = λ p h.
          let len = sym h.1.0 in
          ((subst (λ n. n < limit) len h.0, h.1.1), ap (λ (n : ℕ). number n ++ flat_map text p.1) len);
      back = λ xs h. ((length xs, xs), (h.0, (refl, h.1)), refl, refl);
    })
    (reads_both (λ n. n < limit) number number_at (Listed P) (flat_map text) (list_at field) one (reads_list P text field two))
