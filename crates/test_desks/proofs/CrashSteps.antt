-- What a crash may leave after one more call.
use Rattle.std.proofs.Common.{refl, sym, subst, List, [], ◌∷◌, ◌++◌, ℕ}
use Rattle.test_desks.specs.Calls.{AfterCrash, CrashLeaves}
use Rattle.test_desks.specs.declared.call.CallRecord.{CallRecord}

pub leaves_push : (file : List ℕ) (rs : List CallRecord) (r : CallRecord) (was image : List ℕ)
    → CrashLeaves file rs was → AfterCrash was r.call image → CrashLeaves file (rs ++ r ∷ []) image
leaves_push file [] r was image e step = (image, subst (λ f. AfterCrash f r.call image) e step, refl)
leaves_push file (q ∷ rs) r was image left step = (left.0, left.1, leaves_push left.0 rs r was image left.2 step)

pub leaves_pop : (file : List ℕ) (rs : List CallRecord) (r : CallRecord) (image : List ℕ)
    → CrashLeaves file (rs ++ r ∷ []) image → (was : List ℕ) × CrashLeaves file rs was × AfterCrash was r.call image
leaves_pop file [] r image left = (file, refl, subst (AfterCrash file r.call) (sym left.2) left.1)
leaves_pop file (q ∷ rs) r image left =
    let more = leaves_pop left.0 rs r image left.2 in
    (more.0, (left.0, left.1, more.1), more.2)
