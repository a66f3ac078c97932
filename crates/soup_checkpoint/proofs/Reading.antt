-- What frames say that were read after a header.
use Rattle.std.proofs.Common.{◌≡◌, ◌≢◌, ap, subst, ℕ, ◌+◌, ◌-◌, ◌<◌, ◌≤◌, arith, List, [], ◌∷◌, ◌++◌, length, get_or, Some, None, length-append}
use Rattle.std.proofs.lemmas.List.{length-drop}
use Rattle.file_journal.specs.Files.{behind_header}
use Rattle.soup_checkpoint.specs.declared.frames.Frames.{Frames}
use Rattle.soup_checkpoint.specs.declared.frames.Span.{Span}
use Rattle.soup_checkpoint.specs.declared.owner.Owner.{Owner}
use Rattle.soup_checkpoint.specs.Frames.{AreRead, IsClosedAfter, IsLast, bytes_at}
use Rattle.soup_checkpoint.specs.Hold.{EndsWith, IsOwned}
use Rattle.soup_checkpoint.specs.Shelf.{IsAtRest}
use Rattle.soup_checkpoint.proofs.Passing.{closes_there}
use Rattle.soup_checkpoint.proofs.Resting.{owned_text}

module _ (image : List ℕ) (f : Frames) (states : List (List ℕ)) (read : AreRead (behind_header image) f states)
    (closed : get_or (behind_header image) f.gate 0 ≢ 1) where
  closes : IsClosedAfter (behind_header image) states
  closes = closes_there (behind_header image) f states read closed

  -- where there is no frame
  pub none_there : f.last ≡ None → IsClosedAfter (behind_header image) []
  none_there none =
      let last = subst (IsLast (behind_header image) states) none read.last in
      subst (IsClosedAfter (behind_header image)) last closes

  -- the last frame, and its number
  pub last_there : (span : Span) → f.last ≡ Some span
      → ((e : EndsWith image (bytes_at (behind_header image) span)) × (length e.earlier ≡ f.count - 1))
      × (span.at + span.len ≤ length (behind_header image)) × (0 < f.count)
  last_there span some =
      let last = subst (IsLast (behind_header image) states) some read.last in
      let earlier = last.0.0 in
      let state = bytes_at (behind_header image) span in
      let same : states ≡ earlier ++ state ∷ [] = last.0.1 in
      let number : length earlier + 1 ≡ f.count = omega (arith, ap length same, length-append earlier (state ∷ []), read.count) in
      let ends : EndsWith image state = record {
        earlier = earlier;
        frames = subst (IsClosedAfter (behind_header image)) same closes;
      } in
      ((ends, omega (arith, number)), last.1, omega (arith, number))

  pub rest_there : (owner : Owner) → IsOwned image owner.digest → IsAtRest owner (44 + f.gate) image
  rest_there owner owned = record {
    states = states;
    closes = owned_text owner.digest image states (record { owned = owned; closed = closes });
    each = read.each;
    place = ap (λ (n : ℕ). 44 + n) read.place;
  }

  pub inside_there : 45 ≤ length image → 44 + f.gate < length image
  inside_there long = omega (arith, read.inside, length-drop 44 image, long)
