-- A file with a piece at a place.
use Rattle.std.proofs.Common.{◌≡◌, refl, subst, arith, ℕ, ◌+◌, ◌<◌, ◌≤◌, max, List, ◌++◌, length, take, drop}
use Rattle.std.proofs.Common.{length-append, length-drop, append_assoc}
use Rattle.std.proofs.lemmas.List.{length-take-le}
use Rattle.std.proofs.lemmas.List.Elements.{All-append, All-take, All-drop}
use Rattle.std.proofs.Math.Seq.{take-append_seam, drop-append_seam}
use Rattle.desk_io.specs.Desk.{AreBytes, spliced, Torn}

pub length-spliced : (file : List ℕ) (at : ℕ) (piece : List ℕ) → at ≤ length file
    → length (spliced file at piece) ≡ max (length file) (at + length piece)
length-spliced file at piece le =
    let rest = drop (at + length piece) file in
    let front = length-append (take at file) piece in
    omega (
      arith,
      length-append (take at file ++ piece) rest,
      front,
      length-take-le at file le,
      length-drop
          (at + length piece) file,
    )

pub spliced-bytes : (file : List ℕ) (at : ℕ) (piece : List ℕ) → AreBytes file → AreBytes piece
    → AreBytes (spliced file at piece)
spliced-bytes file at piece are piece_are =
    All-append (λ b. b < 256) (take at file ++ piece) (drop (at + length piece) file)
    (All-append (λ b. b < 256) (take at file) piece (All-take (λ b. b < 256) at file are) piece_are)
    (All-drop (λ b. b < 256) (at + length piece) file are)

take-spliced : (file : List ℕ) (at : ℕ) (piece : List ℕ) → at ≤ length file
    → take at (spliced file at piece) ≡ take at file
take-spliced file at piece le =
    let front = take at file in
    let rest = piece ++ drop (at + length piece) file in
    let len = length-take-le at file le in
    rw append_assoc (subst (λ n. take n (front ++ rest) ≡ front) len (take-append_seam front rest))

drop-spliced : (file : List ℕ) (at : ℕ) (piece : List ℕ) → at ≤ length file
    → drop (at + length piece) (spliced file at piece) ≡ drop (at + length piece) file
drop-spliced file at piece le =
    let front = take at file ++ piece in
    let rest = drop (at + length piece) file in
    let len : length front ≡ at + length piece =
    omega (arith, length-append (take at file) piece, length-take-le at file le) in
    subst (λ n. drop n (front ++ rest) ≡ rest) len (drop-append_seam front rest)

-- a write that was not cut short is one of those that a crash may leave of it
pub torn_whole : (file : List ℕ) (at n : ℕ) (piece : List ℕ) → at ≤ length file → length piece ≡ n
    → AreBytes file → AreBytes piece → Torn at n file (spliced file at piece)
torn_whole file at n piece le len are piece_are =
    subst (λ k. Torn at k file (spliced file at piece)) len (record {
      before = take-spliced file at piece le;
      after = drop-spliced file at piece le;
      no_shorter = omega (arith, length-spliced file at piece le);
      no_longer = omega (arith, length-spliced file at piece le);
      bytes = spliced-bytes file at piece are piece_are;
    })

-- and so is one of which nothing was done
pub torn_none : (file : List ℕ) (at n : ℕ) → AreBytes file → Torn at n file file
torn_none file at n are = record {
  before = refl;
  after = refl;
  no_shorter = omega arith;
  no_longer = omega arith;
  bytes = are;
}
