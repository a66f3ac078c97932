-- How frames are read one after the other.
use Rattle.std.proofs.Common.{◌≡◌, ◌≢◌, ◌∙◌, refl, sym, ap, ℕ, ◌+◌, ◌<◌, ◌≤◌, arith, List, [], ◌∷◌, ◌++◌, length, get_or, take, drop, Some, None, append_assoc}
use Rattle.std.proofs.Common.{length-append, take-append-drop}
use Rattle.std.proofs.lemmas.List.{drop_more, drop-drop, length-drop, length-take-le}
use Rattle.std.proofs.lemmas.List.Elements.{All-nil, All-push}
use Rattle.soup_checkpoint.specs.Frames.{AreRead, BeginsWithFrame, BreaksAfter, IsClosedAfter, IsShort, NoFrame, opened, spelling}
use Rattle.soup_checkpoint.specs.declared.frames.Frames.{Frames}
use Rattle.soup_checkpoint.proofs.Runs.{length-opened_none, opened-none, opened-push}
use Rattle.soup_checkpoint.proofs.Spelled.{length-spelling}

-- no frame was read yet
pub none_read : (bytes : List ℕ) → 0 < length bytes → AreRead bytes (record { count = 0; last = None; gate = 0 }) []
none_read bytes some = record {
  text = sym (opened-none bytes);
  place = sym length-opened_none;
  each = All-nil IsShort;
  count = refl;
  last = refl;
  inside = some;
}

module _ (bytes : List ℕ) (f : Frames) (states : List (List ℕ)) (read : AreRead bytes f states) where
  -- at the gate
  pub at_gate : bytes ≡ opened states ++ get_or bytes f.gate 0 ∷ drop (f.gate + 1) bytes
  at_gate = read.text ∙ ap (λ (l : List ℕ). opened states ++ l) (drop_more bytes f.gate 0 read.inside)

  pub closes_there : get_or bytes f.gate 0 ≢ 1 → IsClosedAfter bytes states
  closes_there closed = record {
    closes = record { gate = get_or bytes f.gate 0; rest = drop (f.gate + 1) bytes; text = at_gate; closed = closed };
    each = read.each;
  }

  open_there : get_or bytes f.gate 0 ≡ 1 → bytes ≡ opened states ++ 1 ∷ drop (f.gate + 1) bytes
  open_there is = at_gate ∙ ap (λ (b : ℕ). opened states ++ b ∷ drop (f.gate + 1) bytes) is

  pub breaks_there : get_or bytes f.gate 0 ≡ 1 → NoFrame (drop (f.gate + 1) bytes) → BreaksAfter bytes states
  breaks_there is none =
      record { rest = drop (f.gate + 1) bytes; text = open_there is; each = read.each; none = none }

  -- one frame more
  abbrev pub next : ℕ → Frames
  next n = record {
    count = f.count + 1;
    last = Some (record { at = f.gate + 1 + 4; len = n });
    gate = f.gate + 1 + 36 + n;
  }

  abbrev pub state_there : ℕ → List ℕ
  state_there n = take n (drop (f.gate + 1 + 4) bytes)

  pub one_more : (n : ℕ) → get_or bytes f.gate 0 ≡ 1 → BeginsWithFrame (drop (f.gate + 1) bytes) n
      → AreRead bytes (next n) (states ++ state_there n ∷ [])
  one_more n is frame =
      let at = f.gate + 1 in
      let behind = drop at bytes in
      let state = state_there n in
      let less : at ≤ length bytes = omega (arith, read.inside) in
      let inside : at + (n + 36) < length bytes = omega (arith, frame.inside, length-drop at bytes, less) in
      let here : take n (drop 4 behind) ≡ state = ap (take n) (drop-drop 4 at bytes) in
      let len : length state ≡ n =
      length-take-le n (drop (at + 4) bytes) (omega (arith, inside, length-drop (at + 4) bytes)) in
      let spelled : take (n + 36) behind ≡ spelling state = frame.text ∙ ap spelling here in
      let sum : at + (n + 36) ≡ at + 36 + n = omega arith in
      let rest : drop (n + 36) behind ≡ drop (at + 36 + n) bytes =
      drop-drop (n + 36) at bytes ∙ ap (λ (k : ℕ). drop k bytes) sum in
      let after = drop (at + 36 + n) bytes in
      let whole : behind ≡ spelling state ++ after =
      sym (take-append-drop (n + 36) behind) ∙ ap (λ (l : List ℕ). l ++ drop (n + 36) behind) spelled
      ∙ ap (λ (l : List ℕ). spelling state ++ l) rest in
      record {
        text =
            open_there is ∙ ap (λ (l : List ℕ). opened states ++ 1 ∷ l) whole
            ∙ sym (append_assoc (opened states) (1 ∷ spelling state) after)
            ∙ ap (λ (l : List ℕ). l ++ after) (sym (opened-push states state));
        place = omega (arith, read.place, ap length (opened-push states state), length-append (opened states) (1 ∷ spelling state), length-spelling state, len);
        each = All-push IsShort states state read.each (omega (arith, len, frame.short));
        count = omega (arith, read.count, length-append states (state ∷ []));
        last = ((states, refl), omega (arith, inside));
        inside = omega (arith, inside);
      }
