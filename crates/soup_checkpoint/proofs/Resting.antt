-- What files at rest say.
use Rattle.std.proofs.Common.{◌≡◌, ◌∙◌, inl, inr, refl, sym, ap, subst, ℕ, ◌+◌, ◌≤◌, arith, List, [], ◌∷◌, ◌++◌, length, take, drop, All, Option, Some, None}
use Rattle.std.proofs.Common.{Result, Ok, Err, append_assoc, append-nil, length-append, take-append-drop}
use Rattle.std.proofs.lemmas.List.{drop-take, take-take, take_at, drop_at}
use Rattle.std.proofs.lemmas.List.Elements.{All-nil, All-push}
use Rattle.std.proofs.Math.Seq.{take-add}
use Rattle.world_state.specs.Restoring.{IsStateOf}
use Rattle.file_journal.specs.Creating.{IsMade, IsMaking}
use Rattle.file_journal.specs.Files.{ClosesAfter, IsBeforeOrAfter, IsClosedAt, IsFresh, behind_header, with_record}
use Rattle.soup_checkpoint.specs.declared.faults.HoldFault.{HoldFault}
use Rattle.soup_checkpoint.specs.declared.faults.HoldFault.TheVariants as fault
use Rattle.soup_checkpoint.specs.declared.owner.Owner.{Owner}
use Rattle.soup_checkpoint.specs.Frames.{IsClosedAfter, IsShort, opened, spelling}
use Rattle.soup_checkpoint.specs.Hold.{EndsWith, IsOwned, Says, header_for, title}
use Rattle.soup_checkpoint.specs.Shelf.{Holds, HoldsUpTo, IsAtRest, SaysAsBefore, SaysBeforeOrAfter, SaysSame}
use Rattle.soup_checkpoint.proofs.OneHold.{fresh-titled, says_one}
use Rattle.soup_checkpoint.proofs.Runs.{closed-closed, closed-breaks, length-opened_none, opened-none, opened-push}

-- what the file of a digest and these states is
pub record Rests (digest : List ℕ) (states : List (List ℕ)) (file : List ℕ) : Type 0 where
  pub owned : IsOwned file digest
  pub closed : IsClosedAfter (behind_header file) states

-- what stands in front of the closed gate
abbrev pub front_of : List ℕ → List (List ℕ) → List ℕ
front_of digest states = (title ++ digest) ++ opened states

-- an owned file, by its parts
pub owned_text : (digest file : List ℕ) (states : List (List ℕ)) → Rests digest states file
    → ClosesAfter (front_of digest states) file
owned_text digest file states r =
    let c = r.closed.closes in
    let header : take 44 file ≡ title ++ digest =
    take-add 12 32 file ∙ ap (λ (l : List ℕ). l ++ take 32 (drop 12 file)) r.owned.0.title_is
    ∙ ap (λ (l : List ℕ). title ++ l) r.owned.1 in
    record {
      gate = c.gate;
      rest = c.rest;
      text =
          sym (take-append-drop 44 file) ∙ ap (λ (l : List ℕ). l ++ drop 44 file) header
          ∙ ap (λ (l : List ℕ). (title ++ digest) ++ l) c.text
          ∙ sym (append_assoc (title ++ digest) (opened states) (c.gate ∷ c.rest));
      closed = c.closed;
    }

module _ (digest : List ℕ) (len : length digest ≡ 32) where
  pub length-header : length (title ++ digest) ≡ 44
  length-header = omega (arith, length-append title digest, len)

  pub length-front : (states : List (List ℕ)) → length (front_of digest states) ≡ 44 + length (opened states)
  length-front states = omega (arith, length-append (title ++ digest) (opened states), length-header)

  pub rests : (states : List (List ℕ)) (file : List ℕ) → All IsShort states → ClosesAfter (front_of digest states) file
      → Rests digest states file
  rests states file each c =
      let behind = opened states ++ c.gate ∷ c.rest in
      let text : file ≡ (title ++ digest) ++ behind = c.text ∙ append_assoc (title ++ digest) (opened states) (c.gate ∷ c.rest) in
      let header : take 44 file ≡ title ++ digest = ap (take 44) text ∙ take_at (title ++ digest) behind 44 length-header in
      let long : 45 ≤ length file =
      omega (arith, ap length text, length-append (title ++ digest) behind, length-header, length-append (opened states) (c.gate ∷ c.rest)) in
      record {
        owned = (
          record {
            long = long;
            title_is = sym (take-take 12 44 file (omega arith)) ∙ ap (take 12) header ∙ take_at title digest 12 refl;
          },
          sym (drop-take 12 32 file) ∙ ap (drop 12) header ∙ drop_at title digest 12 refl,
        );
        closed = record {
          closes = record {
            gate = c.gate;
            rest = c.rest;
            text = ap (drop 44) text ∙ drop_at (title ++ digest) behind 44 length-header;
            closed = c.closed;
          };
          each = each;
        };
      }

-- two files with the same states say the same
module _ (owner : Owner) (states : List (List ℕ)) (file image : List ℕ) (f : Rests owner.digest states file)
    (i : Rests owner.digest states image) where
  ends_too : (s : List ℕ) (e : EndsWith file s) → (d : EndsWith image s) × (d.earlier ≡ e.earlier)
  ends_too s e =
      let same : states ≡ e.earlier ++ s ∷ [] = closed-closed (behind_header file) states (e.earlier ++ s ∷ []) f.closed e.frames in
      (record { earlier = e.earlier; frames = subst (IsClosedAfter (behind_header image)) same i.closed }, refl)

  says_too : (r : Result (Option (List ℕ)) HoldFault) → Says file owner r → Says image owner r
  says_too (Ok None) (inl fresh) = absurd (fresh-titled file fresh f.owned.0)
  says_too (Ok None) (inr says) =
      let same : states ≡ [] = closed-closed (behind_header file) states [] f.closed says.1 in
      inr (i.owned, subst (IsClosedAfter (behind_header image)) same i.closed)
  says_too (Ok (Some s)) says = (i.owned, (ends_too s says.1).0, says.2)
  says_too (Err fault.NotAHold) says = absurd (says.1 f.owned.0.title_is)
  says_too (Err fault.Foreign) says = absurd (says.1 f.owned.1)
  says_too (Err (fault.Damaged k)) (is, inl b) = absurd (closed-breaks (behind_header file) states b.states f.closed b.breaks)
  says_too (Err (fault.Damaged k)) (is, inr u) =
      let d = ends_too u.state u.last in (
        i.owned,
        inr (record {
          state = u.state;
          last = d.0;
          number = ap length d.1 ∙ u.number;
          no_state = u.no_state;
        }),
      )
  says_too (Err (fault.Beyond held)) says = says
  says_too (Err (fault.TooLarge quantum bytes)) says = says

pub same_says : (owner : Owner) (states : List (List ℕ)) (file image : List ℕ) → Rests owner.digest states file
    → Rests owner.digest states image → SaysSame owner file image
same_says owner states file image f i r = (says_too owner states file image f i r, says_too owner states image file i f r)

-- so do two that hold the same
pub same_when_held : (owner : Owner) (held : Option (List ℕ)) (file image : List ℕ) → Holds owner held file → Holds owner held image
    → SaysSame owner file image
same_when_held owner held file image f i r = (
  λ says. subst (λ (x : Result (Option (List ℕ)) HoldFault). Says image owner x) (sym (says_one file owner r (Ok held) says f)) i,
  λ says. subst (λ (x : Result (Option (List ℕ)) HoldFault). Says file owner x) (sym (says_one image owner r (Ok held) says i)) f,
)

module _ (owner : Owner) (len : length owner.digest ≡ 32) where
  pub rest_of : (gate : ℕ) (file : List ℕ) (r : IsAtRest owner gate file) → Rests owner.digest r.states file
  rest_of gate file r = rests owner.digest len r.states file r.each r.closes

  -- the bytes up to the gate
  pub front_is : (gate : ℕ) (file : List ℕ) (r : IsAtRest owner gate file) → take gate file ≡ front_of owner.digest r.states
  front_is gate file r =
      ap (take gate) r.closes.text
      ∙ take_at (front_of owner.digest r.states) (r.closes.gate ∷ r.closes.rest) gate (length-front owner.digest len r.states ∙ sym r.place)

  pub closed_at : (gate : ℕ) (file : List ℕ) → IsAtRest owner gate file → IsClosedAt gate file
  closed_at gate file r = subst (λ (x : List ℕ). ClosesAfter x file) (sym (front_is gate file r)) r.closes

  -- with one state more
  pub rest_after : (gate : ℕ) (s file image : List ℕ) → IsShort s → IsAtRest owner gate file
      → ClosesAfter (with_record gate (spelling s) file) image → (next : ℕ) → next ≡ gate + 1 + length (spelling s)
      → (r : IsAtRest owner next image) × EndsWith image s
  rest_after gate s file image short r c next place =
      let states = r.states ++ s ∷ [] in
      let front : with_record gate (spelling s) file ≡ front_of owner.digest states =
      ap (λ (l : List ℕ). l ++ 1 ∷ spelling s) (front_is gate file r)
      ∙ append_assoc (title ++ owner.digest) (opened r.states) (1 ∷ spelling s)
      ∙ ap (λ (l : List ℕ). (title ++ owner.digest) ++ l) (sym (opened-push r.states s)) in
      let closes = subst (λ (x : List ℕ). ClosesAfter x image) front c in
      let each = All-push IsShort r.states s r.each short in
      let more : length (opened states) ≡ length (opened r.states) + (1 + length (spelling s)) =
      omega (arith, ap length (opened-push r.states s), length-append (opened r.states) (1 ∷ spelling s)) in
      let rest : IsAtRest owner next image = record {
        states = states;
        closes = closes;
        each = each;
        place = omega (arith, place, r.place, more);
      } in
      (rest, record { earlier = r.states; frames = (rests owner.digest len states image each closes).closed })

  pub holds_after : (gate : ℕ) (s file image : List ℕ) → IsShort s → IsStateOf owner.settings s → IsAtRest owner gate file
      → ClosesAfter (with_record gate (spelling s) file) image → Holds owner (Some s) image
  holds_after gate s file image short sound r c =
      let after = rest_after gate s file image short r c (gate + 1 + length (spelling s)) refl in
      ((rest_of (gate + 1 + length (spelling s)) image after.0).owned, after.1, sound)

  pub holds_up_to : (gate : ℕ) (s file image : List ℕ) → IsShort s → IsStateOf owner.settings s → IsAtRest owner gate file
      → ClosesAfter (with_record gate (spelling s) file) image → HoldsUpTo owner (gate + 1 + length (spelling s)) s image
  holds_up_to gate s file image short sound r c =
      ((rest_after gate s file image short r c (gate + 1 + length (spelling s)) refl).0, holds_after gate s file image short sound r c)

  pub before_or_after : (gate : ℕ) (s file image : List ℕ) → IsShort s → IsStateOf owner.settings s
      → IsAtRest owner gate file → IsBeforeOrAfter gate (spelling s) file image → SaysBeforeOrAfter owner s file image
  before_or_after gate s file image short sound r (inl before) =
      let closes = subst (λ (x : List ℕ). ClosesAfter x image) (front_is gate file r) before in
      inl (same_says owner r.states file image (rest_of gate file r) (rests owner.digest len r.states image r.each closes))
  before_or_after gate s file image short sound r (inr after) = inr (holds_after gate s file image short sound r after)

  -- a file that was made
  made_closes : (image : List ℕ) → IsMade (header_for owner) image → ClosesAfter (front_of owner.digest []) image
  made_closes image made =
      let none : opened [] ≡ [] = sym (append-nil (opened [])) ∙ opened-none [] in
      let front : front_of owner.digest [] ≡ title ++ owner.digest =
      ap (λ (l : List ℕ). (title ++ owner.digest) ++ l) none ∙ append-nil (title ++ owner.digest) in
      subst (λ (x : List ℕ). ClosesAfter x image) (sym front) made

  pub made_rest : (image : List ℕ) → IsMade (header_for owner) image → IsAtRest owner 44 image
  made_rest image made = record {
    states = [];
    closes = made_closes image made;
    each = All-nil IsShort;
    place = omega (arith, length-opened_none);
  }

  pub made_holds : (image : List ℕ) → IsMade (header_for owner) image → Holds owner None image
  made_holds image made =
      let r = rests owner.digest len [] image (All-nil IsShort) (made_closes image made) in
      inr (r.owned, r.closed)

  pub making_holds : (image : List ℕ) → IsMaking (header_for owner) image → Holds owner None image
  making_holds image (inl fresh) = inl fresh
  making_holds image (inr made) = made_holds image made

-- a fresh file, and one that holds nothing
pub same_when_fresh : (owner : Owner) (file image : List ℕ) → IsFresh title file → Holds owner None image
    → SaysSame owner file image
same_when_fresh owner file image fresh holds = same_when_held owner None file image (inl fresh) holds

-- an image that a crash might have left at the start
pub as_left : (owner : Owner) (may_leave : List ℕ → Type 0) (file image : List ℕ) → may_leave image
    → SaysAsBefore owner may_leave file image
as_left owner may_leave file image left = (image, inl left, λ r. (λ says. says, λ says. says))

-- one that says what was read
pub as_read : (owner : Owner) (may_leave : List ℕ → Type 0) (file image : List ℕ) → SaysSame owner file image
    → SaysAsBefore owner may_leave file image
as_read owner may_leave file image same = (file, inr refl, same)
