-- Every image of bytes says something.
use Rattle.std.proofs.Common.{◌≡◌, ◌≢◌, ◌∙◌, ◌⊎◌, inl, inr, ⊎_elim, refl, sym, ap, subst, ℕ, zero, suc, ◌+◌, ◌<◌, ◌≤◌, ◌^◌, arith, List, [], ◌∷◌, ◌++◌, length}
use Rattle.std.proofs.Common.{get_or, take, drop, Option, Some, None, Result, Ok, Err, append_assoc}
use Rattle.std.specs.Int.{w32, from_be_bytes, to_be_bytes}
use Rattle.std.proofs.lemmas.Bool.{cases_eq, cases_lt}
use Rattle.std.proofs.lemmas.List.{drop_at, length-drop, length-take-le}
use Rattle.std.proofs.lemmas.List.Elements.{All-drop, All-head, All-tail, All-take}
use Rattle.std.proofs.lemmas.Nat.{be_bytes_4}
use Rattle.sha2.specs.Sha256.{sha256}
use Rattle.desk_io.specs.Desk.{AreBytes}
use Rattle.bank_format.proofs.Deciding.{same_or_not}
use Rattle.world_state.specs.Restoring.{IsStateOf}
use Rattle.world_state.proofs.Decided.{state-or-not}
use Rattle.file_journal.specs.Files.{IsBegun, IsFresh, IsTitled, behind_header, digest_in}
use Rattle.soup_checkpoint.specs.declared.faults.HoldFault.{HoldFault}
use Rattle.soup_checkpoint.specs.declared.faults.HoldFault.TheVariants as fault
use Rattle.soup_checkpoint.specs.declared.frames.Frames.{Frames}
use Rattle.soup_checkpoint.specs.declared.owner.Owner.{Owner}
use Rattle.soup_checkpoint.specs.Frames.{AreRead, BeginsWithFrame, BreaksAfter, IsClosedAfter, NoFrame, opened, spelling}
use Rattle.soup_checkpoint.specs.Hold.{EndsWith, IsOwned, Says, title}
use Rattle.soup_checkpoint.proofs.Passing.{breaks_there, closes_there, next, none_read, one_more, state_there}
use Rattle.soup_checkpoint.proofs.Runs.{opened-push}
use Rattle.soup_checkpoint.proofs.Spelled.{begins, other_digest, parts_of, too_short, unfit}

each_is : (bytes : List ℕ) → AreBytes bytes → (i : ℕ) → get_or bytes i 0 < 256
each_is [] are i = omega arith
each_is (x ∷ xs) are zero = All-head (λ b. b < 256) x xs are
each_is (x ∷ xs) are (suc i) = each_is xs (All-tail (λ b. b < 256) x xs are) i

AreBytes-drop : (n : ℕ) (bytes : List ℕ) → AreBytes bytes → AreBytes (drop n bytes)
AreBytes-drop n bytes are = All-drop (λ b. b < 256) n bytes are

-- a frame with a next gate
record Next (bytes : List ℕ) : Type 0 where
  len : ℕ
  frame : BeginsWithFrame bytes len

module _ (bytes : List ℕ) (are : AreBytes bytes) (long : 36 < length bytes) where
  four : (i : ℕ) → get_or (take 4 bytes) i 0 < 256
  four = each_is (take 4 bytes) (All-take (λ b. b < 256) 4 bytes are)

  abbrev told_len : ℕ
  told_len = from_be_bytes w32 (take 4 bytes)

  field : to_be_bytes w32 told_len ≡ take 4 bytes
  field = be_bytes_4 (take 4 bytes) told_len (length-take-le 4 bytes (omega (arith, long))) four refl

  fits : told_len < 2 ^ 32
  fits = omega (arith, four 0, four 1, four 2, four 3)

  next_inside : told_len < 2 ^ 31 → told_len + 36 < length bytes → Next bytes ⊎ NoFrame bytes
  next_inside short inside = ⊎_elim
      (λ (same : take 32 (drop (4 + told_len) bytes) ≡ sha256 (take told_len (drop 4 bytes))).
      inl (record { len = told_len; frame = begins bytes told_len field short inside same }))
      (λ (other : take 32 (drop (4 + told_len) bytes) ≡ sha256 (take told_len (drop 4 bytes)) → ⊥).
      inr (other_digest bytes told_len fits field other))
      (same_or_not (take 32 (drop (4 + told_len) bytes)) (sha256 (take told_len (drop 4 bytes))))

  next_long : Next bytes ⊎ NoFrame bytes
  next_long = ⊎_elim
      (λ (short : told_len < 2 ^ 31). ⊎_elim
      (λ (inside : told_len + 36 < length bytes). next_inside short inside)
      (λ (past : length bytes ≤ told_len + 36).
      inr (unfit bytes told_len fits field (λ s i. omega (arith, past, i))))
      (cases_lt (told_len + 36) (length bytes)))
      (λ (large : 2 ^ 31 ≤ told_len). inr (unfit bytes told_len fits field (λ s i. omega (arith, large, s))))
      (cases_lt told_len (2 ^ 31))

next_or_none : (bytes : List ℕ) → AreBytes bytes → Next bytes ⊎ NoFrame bytes
next_or_none bytes are = ⊎_elim
    (λ (long : 36 < length bytes). next_long bytes are long)
    (λ (le : length bytes ≤ 36). inr (too_short bytes le))
    (cases_lt 36 (length bytes))

-- the frames end at a closed gate, or break at an open one
abbrev Ends : List ℕ → Type 0
Ends bytes = ((states : List (List ℕ)) × IsClosedAfter bytes states) ⊎ ((states : List (List ℕ)) × BreaksAfter bytes states)

scanned : (fuel : ℕ) (bytes : List ℕ) (f : Frames) (states : List (List ℕ)) → AreBytes bytes → length bytes ≤ f.gate + fuel
    → AreRead bytes f states → Ends bytes
scanned zero bytes f states are le read = absurd (omega (arith, read.inside, le))
scanned (suc fuel) bytes f states are le read = ⊎_elim
    (λ (gate : get_or bytes f.gate 0 ≡ 1). ⊎_elim
    (λ (n : Next (drop (f.gate + 1) bytes)).
    scanned fuel bytes (next bytes f states read n.len) (states ++ state_there bytes f states read n.len ∷ []) are
    (omega (arith, le)) (one_more bytes f states read n.len gate n.frame))
    (λ (none : NoFrame (drop (f.gate + 1) bytes)). inr (states, breaks_there bytes f states read gate none))
    (next_or_none (drop (f.gate + 1) bytes) (AreBytes-drop (f.gate + 1) bytes are)))
    (λ (closed : get_or bytes f.gate 0 ≢ 1). inl (states, closes_there bytes f states read closed))
    (cases_eq (get_or bytes f.gate 0) 1)

-- a list has a last element, or none at all
record HasLast (states : List (List ℕ)) : Type 0 where
  earlier : List (List ℕ)
  state : List ℕ
  text : states ≡ earlier ++ state ∷ []

last_or_none : (states : List (List ℕ)) → HasLast states ⊎ (states ≡ [])
last_or_none [] = inr refl
last_or_none (s ∷ ss) = inl (⊎_elim
    (λ (l : HasLast ss). record {
      earlier = s ∷ l.earlier;
      state = l.state;
      text = ap (λ (ts : List (List ℕ)). s ∷ ts) l.text;
    })
    (λ (none : ss ≡ []). record { earlier = []; state = s; text = ap (λ (ts : List (List ℕ)). s ∷ ts) none })
    (last_or_none ss))

fresh_or_not : (image : List ℕ) → IsFresh title image ⊎ (IsFresh title image → ⊥)
fresh_or_not image = ⊎_elim
    (λ (short : length image < 45). inl (inl short))
    (λ (long : 45 ≤ length image). ⊎_elim
    (λ (zero_first : get_or image 0 0 ≡ 0). inl (inr (inl zero_first)))
    (λ (other : get_or image 0 0 ≢ 0). ⊎_elim
    (λ (t : get_or image 0 0 ≡ 0x54). inr (⊎_elim
    (λ (s : length image < 45). omega (arith, s, long))
    (⊎_elim (λ (z : get_or image 0 0 ≡ 0). other z) (λ (b : IsBegun title image). b.first t))))
    (λ (not_t : get_or image 0 0 ≢ 0x54). ⊎_elim
    (λ (others : take 11 (drop 1 image) ≡ drop 1 title). inl (inr (inr (record { first = not_t; others = others }))))
    (λ (no_others : take 11 (drop 1 image) ≡ drop 1 title → ⊥). inr (⊎_elim
    (λ (s : length image < 45). omega (arith, s, long))
    (⊎_elim (λ (z : get_or image 0 0 ≡ 0). other z) (λ (b : IsBegun title image). no_others b.others))))
    (same_or_not (take 11 (drop 1 image)) (drop 1 title)))
    (cases_eq (get_or image 0 0) 0x54))
    (cases_eq (get_or image 0 0) 0))
    (cases_lt (length image) 45)

-- an owned file whose frames end with a state
record HasState (image : List ℕ) (owner : Owner) : Type 0 where
  owned : IsOwned image owner.digest
  state : List ℕ
  ends : EndsWith image state

-- that state is made of bytes, as the image is
state_are : (image state : List ℕ) → AreBytes image → EndsWith image state → AreBytes state
state_are image state are e =
    let c = e.frames.closes in
    let behind = behind_header image in
    let front = opened e.earlier ++ 1 ∷ [] in
    let more = spelling state ++ c.gate ∷ c.rest in
    let text : behind ≡ front ++ more =
    c.text ∙ ap (λ (l : List ℕ). l ++ c.gate ∷ c.rest) (opened-push e.earlier state)
    ∙ append_assoc (opened e.earlier) (1 ∷ spelling state) (c.gate ∷ c.rest) ∙ sym (append_assoc (opened e.earlier) (1 ∷ []) more) in
    let here : drop (length front) behind ≡ more = ap (drop (length front)) text ∙ drop_at front more (length front) refl in
    let there : AreBytes more = subst AreBytes here (AreBytes-drop (length front) behind (AreBytes-drop 44 image are)) in
    subst AreBytes (parts_of more state (c.gate ∷ c.rest) refl).state
    (All-take (λ b. b < 256) (length state) (drop 4 more) (AreBytes-drop 4 more there))

abbrev Answer : List ℕ → Owner → Type 0
Answer image owner = (r : Result (Option (List ℕ)) HoldFault) × Says image owner r

module _ (image : List ℕ) (owner : Owner) where
  closed_says : IsOwned image owner.digest → (states : List (List ℕ)) → IsClosedAfter (behind_header image) states
      → Answer image owner ⊎ HasState image owner
  closed_says owned states closed = ⊎_elim
      (λ (l : HasLast states).
      inr (record {
        owned = owned;
        state = l.state;
        ends = record { earlier = l.earlier; frames = subst (IsClosedAfter (behind_header image)) l.text closed };
      }))
      (λ (none : states ≡ []). inl (Ok None, inr (owned, subst (IsClosedAfter (behind_header image)) none closed)))
      (last_or_none states)

  ends_says : IsOwned image owner.digest → Ends (behind_header image) → Answer image owner ⊎ HasState image owner
  ends_says owned (inl closed) = closed_says owned closed.0 closed.1
  ends_says owned (inr breaks) =
      inl (
        Err (fault.Damaged (length breaks.0)),
        (owned, inl (record { states = breaks.0; breaks = breaks.1; number = refl })),
      )

  titled_says : AreBytes image → IsTitled title image → Answer image owner ⊎ HasState image owner
  titled_says are titled = ⊎_elim
      (λ (same : digest_in image ≡ owner.digest).
      let behind = behind_header image in
      let some : 0 < length behind = omega (arith, length-drop 44 image, titled.long) in
      ends_says (titled, same)
      (scanned (length behind) behind (record { count = 0; last = None; gate = 0 }) [] (AreBytes-drop 44 image are)
      (omega arith) (none_read behind some)))
      (λ (other : digest_in image ≡ owner.digest → ⊥). inl (Err fault.Foreign, (titled, other)))
      (same_or_not (digest_in image) owner.digest)

  says_or_ends : AreBytes image → Answer image owner ⊎ HasState image owner
  says_or_ends all = ⊎_elim
      (λ (fresh : IsFresh title image). inl (Ok None, inl fresh))
      (λ (old : IsFresh title image → ⊥). ⊎_elim
      (λ (title_is : take 12 image ≡ title). titled_says all (record { long = long old; title_is = title_is }))
      (λ (other : take 12 image ≡ title → ⊥). inl (Err fault.NotAHold, (old, other)))
      (same_or_not (take 12 image) title))
      (fresh_or_not image)
    where
      long : (IsFresh title image → ⊥) → 45 ≤ length image
      long old = ⊎_elim
          (λ (short : length image < 45). absurd (old (inl short)))
          (λ (le : 45 ≤ length image). le)
          (cases_lt (length image) 45)

  state_says : (h : HasState image owner) → IsStateOf owner.settings h.state ⊎ (IsStateOf owner.settings h.state → ⊥)
      → Answer image owner
  state_says h (inl sound) = (Ok (Some h.state), (h.owned, h.ends, sound))
  state_says h (inr none) = (
    Err (fault.Damaged (length h.ends.earlier)),
    (h.owned, inr (record { state = h.state; last = h.ends; number = refl; no_state = none })),
  )

  pub always_says : AreBytes image → Answer image owner
  always_says all = ⊎_elim
      (λ (a : Answer image owner). a)
      (λ (h : HasState image owner).
      state_says h (state-or-not owner.settings h.state (each_is h.state (state_are image h.state all h.ends))))
      (says_or_ends all)
