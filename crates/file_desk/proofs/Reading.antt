-- What a read of an input does as a read of a source, where the input's bytes stay known or unknown.
use Rattle.std.proofs.Common.{◌≡◌, ◌∙◌, refl, sym, ap, subst, arith, ℕ, ◌<◌, ◌≤◌, is_some, List, [], ◌++◌, length, take, drop, Option, None, Some, Result}
use Rattle.std.proofs.Common.{Ok, Err}
use Rattle.std.proofs.Common.{IfSome, IsErr, length-append}
use Rattle.std.proofs.lemmas.List.{length-take-le}
use Rattle.std.proofs.Math.Seq.{take-append_seam, drop-append_seam}
use Rattle.std.specs.Io.KnownBytes.{Consumes, IsAtEnd, ReadConsumes}
use Rattle.desk_io.specs.Source.{Gives, IfGot, IsReadCall, untold}
use Rattle.desk_io.specs.declared.source.Piece.{Piece}
use Rattle.desk_io.specs.declared.source.Piece.TheVariants.{Got, End, Failed}
use Rattle.file_desk.proofs.Known.{keeps_same}

gives : (n : ℕ) (buf : List ℕ) (was now : Option (List ℕ)) → n ≤ length buf → Consumes was now (take n buf)
    → IfSome was (λ xs. Gives n buf xs now)
gives n buf None now fits consumes = tt
gives n buf (Some xs) None fits consumes = absurd consumes
gives n buf (Some xs) (Some ys) fits consumes =
    let len = length-take-le n buf fits in
    let front = subst (λ k. take k (take n buf ++ ys) ≡ take n buf) len (take-append_seam (take n buf) ys) in
    let rest = subst (λ k. drop k (take n buf ++ ys) ≡ ys) len (drop-append_seam (take n buf) ys) in
    subst (λ zs. Gives n buf zs (Some ys)) (sym consumes) (record {
      enough = enough (take n buf) ys n len;
      bytes = sym front;
      rest = ap (λ (zs : List ℕ). Some zs) (sym rest);
    })
  where
    enough : (front rest : List ℕ) (k : ℕ) → length front ≡ k → k ≤ length (front ++ rest)
    enough front rest k len = omega (arith, len, length-append front rest)

-- a read of nothing is at the end
record Ended (was now : Option (List ℕ)) : Type 0 where
  none : IfSome was (λ xs. xs ≡ [])
  kept : now ≡ was

ended : (was now : Option (List ℕ)) → is_some was ≡ is_some now → Consumes was now [] → IsAtEnd now → Ended was now
ended None None steady consumes end = record { none = tt; kept = refl }
ended None (Some ys) steady consumes end = cc
ended (Some xs) None steady consumes end = absurd consumes
ended (Some xs) (Some ys) steady consumes end =
    record { none = consumes ∙ end; kept = ap (λ (zs : List ℕ). Some zs) (sym consumes) }

failed : {E : Type 0} (read : Result ℕ E) (was now : Option (List ℕ)) (buf : List ℕ) → is_some was ≡ is_some now
    → ReadConsumes was now read buf → IsErr read → now ≡ was
failed (Ok n) was now buf steady bytes is = cc
failed (Err e) was now buf steady bytes is = keeps_same was now steady bytes

pub is_read_call : {E : Type 0} (read : Result ℕ E) (piece : Piece) (buf : List ℕ) (was now : Option (List ℕ)) (f g : ℕ)
    → is_some was ≡ is_some now → 0 < length buf → ReadConsumes was now read buf
    → IsReadCall piece buf (untold f) (untold g) → IfGot piece (λ n. read ≡ Ok n) → (piece ≡ End → read ≡ Ok 0)
    → (piece ≡ Failed → IsErr read)
    → IsReadCall piece buf (record { left = was; faults = f }) (record { left = now; faults = g })
is_read_call read (Got n) buf was now f g steady room bytes call got end err =
    let consumed = subst (λ r. ReadConsumes was now r buf) got bytes in record {
      some = call.some;
      fits = call.fits;
      bytes = gives n buf was now call.fits consumed.0;
      steady = call.steady;
    }
is_read_call read End buf was now f g steady room bytes call got end err =
    let consumed = subst (λ r. ReadConsumes was now r buf) (end refl) bytes in
    let at_end = ended was now steady consumed.0 (consumed.1 refl room) in
    record { none = at_end.none; kept = at_end.kept; steady = call.steady }
is_read_call read Failed buf was now f g steady room bytes call got end err =
    record { kept = failed read was now buf steady bytes (err refl); cause = call.cause }
