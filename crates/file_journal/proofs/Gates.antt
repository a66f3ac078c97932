-- What a crash leaves in each of the two steps of an append.
use Rattle.std.proofs.Common.{◌≡◌, ◌≢◌, ◌∙◌, ◌⊎◌, inl, inr, ⊎_elim, sym, ap, subst, ℕ, ◌+◌, ◌≤◌, arith, List, [], ◌∷◌, ◌++◌, length, get_or, take, drop}
use Rattle.std.proofs.Common.{append_assoc, length-append}
use Rattle.std.proofs.lemmas.Bool.{cases_eq}
use Rattle.std.proofs.lemmas.List.{take_at, length-take}
use Rattle.desk_io.specs.Desk.{spliced, Torn}
use Rattle.file_journal.specs.Files.{ClosesAfter, IsBeforeOrAfter, IsClosedAt, IsStaged, Stages, with_record}
use Rattle.file_journal.proofs.Shapes.{torn_front, torn_byte, spliced_behind, spliced_byte}

-- the gate stands in the file
pub gate_inside : (at : ℕ) (file : List ℕ) → IsClosedAt at file → length (take at file) ≡ at
gate_inside at file c =
    let front = take at file in
    omega (arith, ap length c.text, length-append front (c.gate ∷ c.rest), length-take at file)

pub behind_inside : (at : ℕ) (file : List ℕ) → IsClosedAt at file → at + 1 ≤ length file
behind_inside at file c =
    omega (arith, ap length c.text, length-append (take at file) (c.gate ∷ c.rest), gate_inside at file c)

-- in each outcome of the first write the gate is closed
pub stage_torn : (at n : ℕ) (file image : List ℕ) → IsClosedAt at file → Torn (at + 1) n file image
    → ClosesAfter (take at file) image
stage_torn at n file image c torn =
    let front = take at file in
    let closed = front ++ c.gate ∷ [] in
    let text : file ≡ closed ++ c.rest = c.text ∙ sym (append_assoc front (c.gate ∷ []) c.rest) in
    let place : at + 1 ≡ length closed = omega (arith, gate_inside at file c, length-append front (c.gate ∷ [])) in
    let here = subst (λ (k : ℕ). Torn k n (closed ++ c.rest) image) place (subst (λ (f : List ℕ). Torn (at + 1) n f image) text torn) in
    let rest = drop (length closed) image in
    record {
      gate = c.gate;
      rest = rest;
      text = torn_front closed c.rest image n here ∙ append_assoc front (c.gate ∷ []) rest;
      closed = c.closed;
    }

pub stage_written : (at : ℕ) (piece file : List ℕ) → IsClosedAt at file
    → Stages at piece file (spliced file (at + 1) (piece ++ 0 ∷ []))
stage_written at piece file c =
    let front = take at file in
    let written = piece ++ 0 ∷ [] in
    let closed = front ++ c.gate ∷ [] in
    let now = spliced file (at + 1) written in
    let text : file ≡ closed ++ c.rest = c.text ∙ sym (append_assoc front (c.gate ∷ []) c.rest) in
    let len = gate_inside at file c in
    let place : at + 1 ≡ length closed = omega (arith, len, length-append front (c.gate ∷ [])) in
    let rest = drop (length closed + length written) (closed ++ c.rest) in
    let at_place : now ≡ spliced (closed ++ c.rest) (length closed) written =
    ap (λ (f : List ℕ). spliced f (at + 1) written) text ∙ ap (λ (k : ℕ). spliced (closed ++ c.rest) k written) place in
    let whole : now ≡ front ++ c.gate ∷ (piece ++ 0 ∷ rest) =
    at_place ∙ spliced_behind closed c.rest written
    ∙ append_assoc front (c.gate ∷ []) (written ++ rest)
    ∙ ap (λ (l : List ℕ). front ++ c.gate ∷ l) (append_assoc piece (0 ∷ []) rest) in
    let same : take at now ≡ front = ap (take at) whole ∙ take_at front (c.gate ∷ (piece ++ 0 ∷ rest)) at len in (
      same,
      record {
        gate = c.gate;
        rest = rest;
        text = whole ∙ ap (λ (l : List ℕ). l ++ c.gate ∷ (piece ++ 0 ∷ rest)) (sym same);
        closed = c.closed;
      },
    )

pub staged_len : (at : ℕ) (piece file : List ℕ) → IsStaged at piece file → length (take at file) ≡ at
staged_len at piece file s =
    omega (arith, ap length s.text, length-append (take at file) (s.gate ∷ (piece ++ 0 ∷ s.rest)), length-take at file)

pub staged_inside : (at : ℕ) (piece file : List ℕ) → IsStaged at piece file → at ≤ length file
staged_inside at piece file s =
    omega (arith, ap length s.text, length-append (take at file) (s.gate ∷ (piece ++ 0 ∷ s.rest)), staged_len at piece file s)

-- an open gate, the record and a closed gate after it
after : (front piece rest image : List ℕ) → image ≡ front ++ 1 ∷ (piece ++ 0 ∷ rest) → ClosesAfter (front ++ 1 ∷ piece) image
after front piece rest image text = record {
  gate = 0;
  rest = rest;
  text = text ∙ sym (append_assoc front (1 ∷ piece) (0 ∷ rest));
  closed = λ e. omega (arith, e);
}

-- in each outcome of the second write the record stands whole after its gate
pub gate_torn : (at : ℕ) (piece file image : List ℕ) → IsStaged at piece file → Torn at 1 file image
    → IsBeforeOrAfter at piece file image
gate_torn at piece file image s torn =
    let front = take at file in
    let behind = piece ++ 0 ∷ s.rest in
    let here = subst (λ (k : ℕ). Torn k 1 (front ++ s.gate ∷ behind) image) (sym (staged_len at piece file s))
    (subst (λ (f : List ℕ). Torn at 1 f image) s.text torn) in
    let gate = get_or image (length front) 0 in
    let whole = torn_byte front behind image s.gate here in
    ⊎_elim
    (λ (is : gate ≡ 1). inr (after front piece s.rest image (whole ∙ ap (λ (b : ℕ). front ++ b ∷ behind) is)))
    (λ (isnt : gate ≢ 1). inl (record { gate = gate; rest = behind; text = whole; closed = isnt }))
    (cases_eq gate 1)

pub gate_written : (at : ℕ) (piece file : List ℕ) → IsStaged at piece file
    → ClosesAfter (with_record at piece file) (spliced file at (1 ∷ []))
gate_written at piece file s =
    let front = take at file in
    let behind = piece ++ 0 ∷ s.rest in
    let now = spliced file at (1 ∷ []) in
    let at_place : now ≡ spliced (front ++ s.gate ∷ behind) (length front) (1 ∷ []) =
    ap (λ (f : List ℕ). spliced f at (1 ∷ [])) s.text
    ∙ ap (λ (k : ℕ). spliced (front ++ s.gate ∷ behind) k (1 ∷ [])) (sym (staged_len at piece file s)) in
    after front piece s.rest now (at_place ∙ spliced_byte front behind s.gate 1)

-- what is said of the staged file is said of the file before
pub since_stage : (at : ℕ) (piece file between image : List ℕ) → Stages at piece file between
    → IsBeforeOrAfter at piece between image → IsBeforeOrAfter at piece file image
since_stage at piece file between image s = subst (λ (f : List ℕ). ClosesAfter f image ⊎ ClosesAfter (f ++ 1 ∷ piece) image) s.0
