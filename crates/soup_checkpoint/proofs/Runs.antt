-- Bytes have one list of frames after open gates.
use Rattle.std.proofs.Common.{◌≡◌, ◌≢◌, ◌∙◌, ◌⊎◌, inl, inr, refl, sym, ap, ap₂, ℕ, List, [], ◌∷◌, ◌++◌, All, append_assoc, append-nil, length}
use Rattle.std.specs.List.{flat_map}
use Rattle.std.proofs.lemmas.Grind.{flat_map-append}
use Rattle.std.proofs.lemmas.List.Concat.{flat_map-cons}
use Rattle.std.proofs.lemmas.List.Elements.{All-head, All-tail}
use Rattle.file_journal.specs.Files.{ClosesAfter}
use Rattle.soup_checkpoint.specs.Frames.{spelling, IsShort, opened, IsClosedAfter, BreaksAfter, NoFrame}
use Rattle.soup_checkpoint.proofs.Spelled.{read_back}

abbrev behind_gate : List ℕ → List ℕ
behind_gate s = 1 ∷ spelling s

pub opened-cons : (s : List ℕ) (ss : List (List ℕ)) (x : List ℕ)
    → opened (s ∷ ss) ++ x ≡ 1 ∷ (spelling s ++ (opened ss ++ x))
unfolding opened
opened-cons s ss x =
    ap (λ (l : List ℕ). l ++ x) (flat_map-cons behind_gate s ss)
    ∙ append_assoc (behind_gate s) (flat_map behind_gate ss) x

pub opened-none : (x : List ℕ) → opened [] ++ x ≡ x
unfolding opened
opened-none x = refl

pub length-opened_none : length (opened []) ≡ 0
unfolding opened
length-opened_none = refl

pub opened-push : (ss : List (List ℕ)) (s : List ℕ) → opened (ss ++ s ∷ []) ≡ opened ss ++ 1 ∷ spelling s
unfolding opened
opened-push ss s =
    flat_map-append behind_gate ss (s ∷ [])
    ∙ ap (λ (l : List ℕ). flat_map behind_gate ss ++ l) (flat_map-cons behind_gate s [] ∙ append-nil (behind_gate s))

-- bytes at which a list of frames ends
record Closed (x : List ℕ) : Type 0 where
  gate : ℕ
  rest : List ℕ
  text : x ≡ gate ∷ rest
  closed : gate ≢ 1

record Broken (x : List ℕ) : Type 0 where
  rest : List ℕ
  text : x ≡ 1 ∷ rest
  none : NoFrame rest

abbrev Ends : List ℕ → Type 0
Ends x = Closed x ⊎ Broken x

record Begins (x : List ℕ) : Type 0 where
  first : ℕ
  others : List ℕ
  text : x ≡ first ∷ others

begins : (ss : List (List ℕ)) (x : List ℕ) → Ends x → Begins (opened ss ++ x)
begins [] x (inl c) = record { first = c.gate; others = c.rest; text = opened-none x ∙ c.text }
begins [] x (inr b) = record { first = 1; others = b.rest; text = opened-none x ∙ b.text }
begins (s ∷ ss) x ends = record { first = 1; others = spelling s ++ (opened ss ++ x); text = opened-cons s ss x }

one_is : (gate : ℕ) (xs ys : List ℕ) → gate ∷ xs ≡ 1 ∷ ys → (gate ≡ 1) × (xs ≡ ys)
one_is gate xs ys e = (cc, cc)

-- where they end no frame is opened
no_more : (t : List ℕ) (ts : List (List ℕ)) (x y : List ℕ) → Ends x → Ends y → IsShort t → x ≡ opened (t ∷ ts) ++ y → ⊥
no_more t ts x y (inl c) ends is e =
    c.closed (one_is c.gate c.rest (spelling t ++ (opened ts ++ y)) (sym c.text ∙ e ∙ opened-cons t ts y)).0
no_more t ts x y (inr b) ends is e =
    let more = begins ts y ends in
    let same = (one_is 1 b.rest (spelling t ++ (opened ts ++ y)) (sym b.text ∙ e ∙ opened-cons t ts y)).1 in
    b.none t more.first more.others is (same ∙ ap (λ (l : List ℕ). spelling t ++ l) more.text)

same_states : (ss ts : List (List ℕ)) (x y : List ℕ) → All IsShort ss → All IsShort ts → Ends x → Ends y
    → opened ss ++ x ≡ opened ts ++ y → (ss ≡ ts) × (x ≡ y)
same_states [] [] x y ashort bshort ex ey e = (refl, sym (opened-none x) ∙ e ∙ opened-none y)
same_states [] (t ∷ ts) x y ashort bshort ex ey e =
    absurd (no_more t ts x y ex ey (All-head IsShort t ts bshort) (sym (opened-none x) ∙ e))
same_states (s ∷ ss) [] x y ashort bshort ex ey e =
    absurd (no_more s ss y x ey ex (All-head IsShort s ss ashort) (sym (opened-none y) ∙ sym e))
same_states (s ∷ ss) (t ∷ ts) x y ashort bshort ex ey e =
    let behind = (one_is 1 (spelling s ++ (opened ss ++ x)) (spelling t ++ (opened ts ++ y)) (sym (opened-cons s ss x) ∙ e ∙ opened-cons t ts y)).1 in
    let first = read_back s t (opened ss ++ x) (opened ts ++ y) (All-head IsShort s ss ashort) (All-head IsShort t ts bshort) behind in
    let more = same_states ss ts x y (All-tail IsShort s ss ashort) (All-tail IsShort t ts bshort) ex ey first.1 in
    (ap₂ (λ (k : List ℕ) (ks : List (List ℕ)). k ∷ ks) first.0 more.0, more.1)

closed_ends : (front bytes : List ℕ) (c : ClosesAfter front bytes) → Ends (c.gate ∷ c.rest)
closed_ends front bytes c = inl (record { gate = c.gate; rest = c.rest; text = refl; closed = c.closed })

broken_ends : (bytes : List ℕ) (ss : List (List ℕ)) (b : BreaksAfter bytes ss) → Ends (1 ∷ b.rest)
broken_ends bytes ss b = inr (record { rest = b.rest; text = refl; none = b.none })

pub closed-closed : (bytes : List ℕ) (ss ts : List (List ℕ)) → IsClosedAfter bytes ss → IsClosedAfter bytes ts → ss ≡ ts
closed-closed bytes ss ts c d =
    (same_states ss ts (c.closes.gate ∷ c.closes.rest) (d.closes.gate ∷ d.closes.rest) c.each d.each
    (closed_ends (opened ss) bytes c.closes) (closed_ends (opened ts) bytes d.closes) (sym c.closes.text ∙ d.closes.text)).0

pub closed-breaks : (bytes : List ℕ) (ss ts : List (List ℕ)) → IsClosedAfter bytes ss → BreaksAfter bytes ts → ⊥
closed-breaks bytes ss ts c b =
    let same = same_states ss ts (c.closes.gate ∷ c.closes.rest) (1 ∷ b.rest) c.each b.each (closed_ends (opened ss) bytes c.closes) (broken_ends bytes ts b)
    (sym c.closes.text ∙ b.text) in
    c.closes.closed (one_is c.closes.gate c.closes.rest b.rest same.1).0

pub breaks-breaks : (bytes : List ℕ) (ss ts : List (List ℕ)) → BreaksAfter bytes ss → BreaksAfter bytes ts → ss ≡ ts
breaks-breaks bytes ss ts b d =
    (same_states ss ts (1 ∷ b.rest) (1 ∷ d.rest) b.each d.each (broken_ends bytes ss b) (broken_ends bytes ts d)
    (sym b.text ∙ d.text)).0
