-- What some calls make of a file, with each piece changed within its range, is one of those that a crash may leave.
use Rattle.std.proofs.Common.{◌≡◌, ◌∙◌, refl, sym, ap, subst, ℕ, ◌+◌, ◌<◌, max, Bool, true, false, if◌then◌else◌, ◌==◌}
use Rattle.std.proofs.Common.{lit<, replicate, List, [], ◌∷◌, ◌++◌}
use Rattle.std.proofs.Common.{length}
use Rattle.std.proofs.lemmas.List.{length-replicate}
use Rattle.std.proofs.lemmas.List.Elements.{All-replicate}
use Rattle.desk_io.specs.Desk.{AreBytes}
use Rattle.test_desks.specs.Calls.{written_with, file_with, picked_piece, AfterCrash, CrashLeaves}
use Rattle.test_desks.specs.Fits.{IsInside, grown, Fits}
use Rattle.test_desks.specs.declared.call.Call.{Call}
use Rattle.test_desks.specs.declared.call.Call.TheVariants.{Write}
use Rattle.test_desks.specs.declared.call.CallRecord.{CallRecord}
use Rattle.test_desks.specs.Splices.{length-spliced, spliced-bytes, torn_whole, torn_none}

-- a change of pieces that keeps their length, and bytes bytes
pub record KeepsRange (change : List ℕ → List ℕ) : Type 0 where
  pub len : (piece : List ℕ) → length (change piece) ≡ length piece
  pub bytes : (piece : List ℕ) → AreBytes piece → AreBytes (change piece)

module _ (change : List ℕ → List ℕ) (keeps : KeepsRange change) where
  length-written : (file : List ℕ) (call : Call) → IsInside (length file) call
      → length (written_with change file call) ≡ grown (length file) call
  length-written file (Write at piece) inside =
      length-spliced file at (change piece) inside.0 ∙ ap (λ n. max (length file) (at + n)) (keeps.len piece)
  length-written file _ inside = refl

  written-bytes : (file : List ℕ) (call : Call) → AreBytes file → IsInside (length file) call
      → AreBytes (written_with change file call)
  written-bytes file (Write at piece) are inside =
      spliced-bytes file at (change piece) are (keeps.bytes piece inside.1)
  written-bytes file _ are inside = are

  -- a crash may leave the whole of one call
  crash-written : (file : List ℕ) (call : Call) → AreBytes file → IsInside (length file) call
      → AfterCrash file call (written_with change file call)
  crash-written file (Write at piece) are inside =
      torn_whole file at (length piece) (change piece) inside.0 (keeps.len piece) are (keeps.bytes piece inside.1)
  crash-written file _ are inside = refl

  fits-written : (file : List ℕ) (r : CallRecord) (rs : List CallRecord) → Fits (length file) (r ∷ rs)
      → Fits (length (written_with change file r.call)) rs
  fits-written file r rs fits = subst (λ n. Fits n rs) (sym (length-written file r.call fits.0)) fits.1

  -- and the whole of some calls
  pub leaves_with : (file : List ℕ) (rs : List CallRecord) → AreBytes file → Fits (length file) rs
      → CrashLeaves file rs (file_with change file rs)
  leaves_with file [] are fits = refl
  leaves_with file (r ∷ rs) are fits =
      let torn = written_with change file r.call in
      let torn_are = written-bytes file r.call are fits.0 in
      (torn, crash-written file r.call are fits.0, leaves_with torn rs torn_are (fits-written file r rs fits))

  pub bytes_with : (file : List ℕ) (rs : List CallRecord) → AreBytes file → Fits (length file) rs
      → AreBytes (file_with change file rs)
  bytes_with file [] are fits = are
  bytes_with file (r ∷ rs) are fits =
      let torn_are = written-bytes file r.call are fits.0 in
      bytes_with (written_with change file r.call) rs torn_are (fits-written file r rs fits)

  -- one more write after the others
  pub fits_push : (file : List ℕ) (rs : List CallRecord) (r : CallRecord) → Fits (length file) rs
      → IsInside (length (file_with change file rs)) r.call → Fits (length file) (rs ++ r ∷ [])
  fits_push file [] r fits inside = (inside, tt)
  fits_push file (q ∷ rs) r fits inside =
      let more = fits_push (written_with change file q.call) rs r (fits-written file q rs fits) inside in
      (fits.0, subst (λ n. Fits n (rs ++ r ∷ [])) (length-written file q.call fits.0) more)

-- a crash may leave nothing of one call
crash-unwritten : (file : List ℕ) (call : Call) → AreBytes file → AfterCrash file call file
crash-unwritten file (Write at piece) are = torn_none file at (length piece) are
crash-unwritten file _ are = refl

-- and nothing of some calls
pub leaves_without : (file : List ℕ) (rs : List CallRecord) → AreBytes file → CrashLeaves file rs file
leaves_without file [] are = refl
leaves_without file (r ∷ rs) are = (file, crash-unwritten file r.call are, leaves_without file rs are)

-- what a crash leaves are bytes
left-bytes-one : (file : List ℕ) (call : Call) (image : List ℕ) → AreBytes file → AfterCrash file call image
    → AreBytes image
left-bytes-one file (Write at piece) image are torn = torn.bytes
left-bytes-one file _ image are same = subst AreBytes (sym same) are

pub left_bytes : (file : List ℕ) (rs : List CallRecord) (image : List ℕ) → AreBytes file
    → CrashLeaves file rs image → AreBytes image
left_bytes file [] image are same = subst AreBytes (sym same) are
left_bytes file (r ∷ rs) image are left =
    left_bytes left.0 rs image (left-bytes-one file r.call left.0 are left.1) left.2

-- no change keeps a piece's range
pub keeps_piece : KeepsRange (λ piece. piece)
keeps_piece = record { len = λ piece. refl; bytes = λ piece are. are }

-- and so does filling it
filled : Bool → Bool → List ℕ → List ℕ
filled full ones piece =
    if full then replicate (length piece) 0xff else (if ones then replicate (length piece) 0x01 else piece)

keeps_filled : (full ones : Bool) → KeepsRange (filled full ones)
unfolding filled
keeps_filled true ones = record {
  len = λ piece. length-replicate (length piece) 0xff;
  bytes = λ piece are. All-replicate (λ b. b < 256) (length piece) 0xff (lit< tt);
}
keeps_filled false true = record {
  len = λ piece. length-replicate (length piece) 0x01;
  bytes = λ piece are. All-replicate (λ b. b < 256) (length piece) 0x01 (lit< tt);
}
keeps_filled false false = keeps_piece

pub keeps_picked : (pick : ℕ) → KeepsRange (picked_piece pick)
unfolding filled
keeps_picked pick = keeps_filled (pick == 2) (pick == 3)
