-- An image says one thing.
use Rattle.std.proofs.Common.{◌≡◌, ◌∙◌, ◌⊎◌, inl, inr, refl, sym, ap, subst, ℕ, arith, List, [], ◌∷◌, ◌++◌, length, get_or, Option, Some, None, Result, Ok, Err}
use Rattle.std.proofs.lemmas.List.{get_or-take}
use Rattle.world_state.specs.Restoring.{IsStateOf}
use Rattle.file_journal.specs.Files.{IsFresh, IsTitled, behind_header}
use Rattle.soup_checkpoint.specs.declared.faults.HoldFault.{HoldFault}
use Rattle.soup_checkpoint.specs.declared.faults.HoldFault.TheVariants as fault
use Rattle.soup_checkpoint.specs.declared.owner.Owner.{Owner}
use Rattle.soup_checkpoint.specs.Frames.{IsClosedAfter}
use Rattle.soup_checkpoint.specs.Hold.{EndsWith, IsBroken, IsUnsound, Says, title}
use Rattle.soup_checkpoint.proofs.Runs.{closed-closed, closed-breaks, breaks-breaks}

titled_first : (image : List ℕ) → IsTitled title image → get_or image 0 0 ≡ 0x54
titled_first image is = sym (get_or-take 12 image 0 0 (omega arith)) ∙ ap (λ (l : List ℕ). get_or l 0 0) is.title_is

pub fresh-titled : (image : List ℕ) → IsFresh title image → IsTitled title image → ⊥
fresh-titled image (inl short) is = omega (arith, short, is.long)
fresh-titled image (inr (inl zero)) is = omega (arith, zero, titled_first image is)
fresh-titled image (inr (inr begun)) is = begun.first (titled_first image is)

-- lists that end in the same way
last_is : (ps qs : List (List ℕ)) (s t : List ℕ) → ps ++ s ∷ [] ≡ qs ++ t ∷ [] → (ps ≡ qs) × (s ≡ t)
last_is [] [] s t e = (refl, cc)
last_is [] (q ∷ []) s t e = absurd cc
last_is [] (q ∷ (r ∷ qs)) s t e = absurd cc
last_is (p ∷ []) [] s t e = absurd cc
last_is (p ∷ (r ∷ ps)) [] s t e = absurd cc
last_is (p ∷ ps) (q ∷ qs) s t e =
    let tail : ps ++ s ∷ [] ≡ qs ++ t ∷ [] = cc in
    let head : p ≡ q = cc in
    let more = last_is ps qs s t tail in
    (cc (head, more.0), more.1)

not_none : (ps : List (List ℕ)) (s : List ℕ) → ps ++ s ∷ [] ≡ [] → ⊥
not_none [] s e = absurd cc
not_none (p ∷ ps) s e = absurd cc

pub ends-ends : (image s t : List ℕ) (a : EndsWith image s) (b : EndsWith image t) → (a.earlier ≡ b.earlier) × (s ≡ t)
ends-ends image s t a b =
    last_is a.earlier b.earlier s t
    (closed-closed (behind_header image) (a.earlier ++ s ∷ []) (b.earlier ++ t ∷ []) a.frames b.frames)

pub none-ends : (image s : List ℕ) → IsClosedAfter (behind_header image) [] → EndsWith image s → ⊥
none-ends image s none a =
    not_none a.earlier s (closed-closed (behind_header image) (a.earlier ++ s ∷ []) [] a.frames none)

ends-broken : (image s : List ℕ) (k : ℕ) → EndsWith image s → IsBroken image k → ⊥
ends-broken image s k a b = closed-breaks (behind_header image) (a.earlier ++ s ∷ []) b.states a.frames b.breaks

module _ (image : List ℕ) (owner : Owner) where
  none-damaged : (k : ℕ) → IsClosedAfter (behind_header image) [] → IsBroken image k ⊎ IsUnsound image owner k → ⊥
  none-damaged k none (inl b) = closed-breaks (behind_header image) [] b.states none b.breaks
  none-damaged k none (inr u) = none-ends image u.state none u.last

  some-damaged : (s : List ℕ) (k : ℕ) → EndsWith image s → IsStateOf owner.settings s
      → IsBroken image k ⊎ IsUnsound image owner k → ⊥
  some-damaged s k a sound (inl b) = ends-broken image s k a b
  some-damaged s k a sound (inr u) =
      u.no_state (subst (IsStateOf owner.settings) (ends-ends image s u.state a u.last).1 sound)

  damaged-damaged : (j k : ℕ) → IsBroken image j ⊎ IsUnsound image owner j → IsBroken image k ⊎ IsUnsound image owner k
      → j ≡ k
  damaged-damaged j k (inl a) (inl b) =
      sym a.number ∙ ap length (breaks-breaks (behind_header image) a.states b.states a.breaks b.breaks) ∙ b.number
  damaged-damaged j k (inl a) (inr u) = absurd (ends-broken image u.state j u.last a)
  damaged-damaged j k (inr u) (inl b) = absurd (ends-broken image u.state k u.last b)
  damaged-damaged j k (inr u) (inr v) =
      sym u.number ∙ ap length (ends-ends image u.state v.state u.last v.last).0 ∙ v.number

  ok-ok : (a b : Option (List ℕ)) → Says image owner (Ok a) → Says image owner (Ok b) → a ≡ b
  ok-ok None None p q = refl
  ok-ok None (Some t) (inl fresh) q = absurd (fresh-titled image fresh q.0.0)
  ok-ok None (Some t) (inr p) q = absurd (none-ends image t p.1 q.1)
  ok-ok (Some s) None p (inl fresh) = absurd (fresh-titled image fresh p.0.0)
  ok-ok (Some s) None p (inr q) = absurd (none-ends image s q.1 p.1)
  ok-ok (Some s) (Some t) p q = ap Some (ends-ends image s t p.1 q.1).1

  ok-err : (a : Option (List ℕ)) (f : HoldFault) → Says image owner (Ok a) → Says image owner (Err f) → ⊥
  ok-err None fault.NotAHold (inl fresh) q = q.0 fresh
  ok-err None fault.NotAHold (inr p) q = q.1 p.0.0.title_is
  ok-err None fault.Foreign (inl fresh) q = fresh-titled image fresh q.0
  ok-err None fault.Foreign (inr p) q = q.1 p.0.1
  ok-err None (fault.Damaged k) (inl fresh) q = fresh-titled image fresh q.0.0
  ok-err None (fault.Damaged k) (inr p) q = none-damaged k p.1 q.1
  ok-err None (fault.Beyond held) p q = q
  ok-err None (fault.TooLarge quantum bytes) p q = q
  ok-err (Some s) fault.NotAHold p q = q.1 p.0.0.title_is
  ok-err (Some s) fault.Foreign p q = q.1 p.0.1
  ok-err (Some s) (fault.Damaged k) p q = some-damaged s k p.1 p.2 q.1
  ok-err (Some s) (fault.Beyond held) p q = q
  ok-err (Some s) (fault.TooLarge quantum bytes) p q = q

  err-err : (f g : HoldFault) → Says image owner (Err f) → Says image owner (Err g) → f ≡ g
  err-err fault.NotAHold fault.NotAHold p q = refl
  err-err fault.NotAHold fault.Foreign p q = absurd (p.1 q.0.title_is)
  err-err fault.NotAHold (fault.Damaged k) p q = absurd (p.1 q.0.0.title_is)
  err-err fault.Foreign fault.NotAHold p q = absurd (q.1 p.0.title_is)
  err-err fault.Foreign fault.Foreign p q = refl
  err-err fault.Foreign (fault.Damaged k) p q = absurd (p.1 q.0.1)
  err-err (fault.Damaged j) fault.NotAHold p q = absurd (q.1 p.0.0.title_is)
  err-err (fault.Damaged j) fault.Foreign p q = absurd (q.1 p.0.1)
  err-err (fault.Damaged j) (fault.Damaged k) p q = ap fault.Damaged (damaged-damaged j k p.1 q.1)
  err-err (fault.Beyond held) g p q = absurd p
  err-err (fault.TooLarge quantum bytes) g p q = absurd p
  err-err f (fault.Beyond held) p q = absurd q
  err-err f (fault.TooLarge quantum bytes) p q = absurd q

  pub says_one : (a b : Result (Option (List ℕ)) HoldFault) → Says image owner a → Says image owner b → a ≡ b
  says_one (Ok a) (Ok b) p q = ap Ok (ok-ok a b p q)
  says_one (Ok a) (Err g) p q = absurd (ok-err a g p q)
  says_one (Err f) (Ok b) p q = absurd (ok-err b f q p)
  says_one (Err f) (Err g) p q = ap Err (err-err f g p q)
