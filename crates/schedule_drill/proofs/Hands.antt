-- What the hands hold goes on fitting the book.
use Rattle.std.proofs.Common.{◌≡◌, ℕ, zero, suc, ◌+◌, ◌-◌, ◌<◌, ◌≤◌, List, refl, sym, ◌∙◌, ap, subst, arith, length-set}
use Rattle.std.specs.Prelude.{All, None, Option, Some, slice_index_or, slice_set}
use Rattle.std.proofs.Math.ListN.{get_or}
use Rattle.std.proofs.lemmas.List.{set-get_or}
use Rattle.std.proofs.lemmas.List.Elements.{All-from_get_or, All-get_or, All-set}
use Rattle.tierra_model.specs.Findings.{Finding, finding_of}
use Rattle.tierra_model.specs.Scene.{scene_of}
use Rattle.commit_book.specs.Book.{BookFields, after_commits, with_finding, world_of}
use Rattle.commit_book.specs.Claims.{HasJob, next_job}
use Rattle.commit_book.specs.Offers.{StopsShort, window_end}
use Rattle.schedule_drill.specs.declared.tally.Answered.{Answered}
use Rattle.schedule_drill.specs.Drill.{DrillFields}
use Rattle.schedule_drill.specs.AtBook.{FitsBook, IsAtBook}

-- a later book of the same run
pub record GoesOn (old new : BookFields) : Type 0 where
  pub setup : new.setup ≡ old.setup
  pub quanta : new.quanta ≡ old.quanta
  pub window : new.window ≡ old.window
  pub stopped : new.stopped ≡ old.stopped
  pub committed : old.committed ≤ new.committed

pub commits-go_on : (by k : ℕ) (b : BookFields) → GoesOn b (after_commits by k b)
commits-go_on by zero b = record { setup = refl; quanta = refl; window = refl; stopped = refl; committed = omega arith }
commits-go_on by (suc k) b =
    let h : GoesOn b (after_commits by k b) = commits-go_on by k b in
    record { setup = h.setup; quanta = h.quanta; window = h.window; stopped = h.stopped; committed = omega (arith, h.committed) }

-- the book after an offer that commits k quanta
pub offer-goes_on : (by k : ℕ) (f : Finding) (b : BookFields) → GoesOn b (after_commits by k (with_finding f b))
offer-goes_on by k f b =
    let h : GoesOn (with_finding f b) (after_commits by k (with_finding f b)) = commits-go_on by k (with_finding f b) in
    record { setup = h.setup; quanta = h.quanta; window = h.window; stopped = h.stopped; committed = h.committed }

-- and after one that a want of memory cuts short
pub short-goes_on : (by t u : ℕ) (f : Finding) (b new : BookFields) → StopsShort by (with_finding f b) new t u → GoesOn b new
short-goes_on by t u f b new h =
    let g : GoesOn b (after_commits by h.done (with_finding f b)) = offer-goes_on by h.done f b in
    subst (GoesOn b) (sym h.book)
    (record { setup = g.setup; quanta = g.quanta; window = g.window; stopped = g.stopped; committed = g.committed })

fits-later : (old new : BookFields) (o : Option Finding) → GoesOn old new → FitsBook old o → FitsBook new o
fits-later old new None g h = tt
fits-later old new (Some f) g h =
    (h.0 ∙ ap (λ s. s.settings) (sym g.setup), (let n : f.quantum ≤ window_end new = omega (arith, h.1, g.quanta, g.window, g.committed) in n))

all-later : (old new : BookFields) (hands : List (Option Finding)) → GoesOn old new → All (FitsBook old) hands → All (FitsBook new) hands
all-later old new hands g h =
    All-from_get_or (FitsBook new) hands None (λ i within. fits-later old new (get_or hands i None) g (All-get_or (FitsBook old) hands i None within h))

pub at_later_book : (d : DrillFields) (new : BookFields) (answered : Answered) → IsAtBook d → GoesOn d.book new
    → IsAtBook (record { book = new; hands = d.hands; answered = answered })
at_later_book d new answered k g =
    record {
      four = k.four;
      window = g.window ∙ k.window;
      goes_on = g.stopped ∙ k.goes_on;
      fit = all-later d.book new d.hands g k.fit;
    }

pub at_with_held : (d : DrillFields) (place : ℕ) (o : Option Finding) (answered : Answered) → IsAtBook d → FitsBook d.book o
    → IsAtBook (record { book = d.book; hands = slice_set d.hands place o; answered = answered })
at_with_held d place o answered k h =
    record {
      four = length-set d.hands place o ∙ k.four;
      window = k.window;
      goes_on = k.goes_on;
      fit = All-set (FitsBook d.book) d.hands place o h k.fit;
    }

pub held-fits : (d : DrillFields) (place : ℕ) → IsAtBook d → place < 4 → FitsBook d.book (slice_index_or d.hands place None)
held-fits d place k few = All-get_or (FitsBook d.book) d.hands place None (omega (arith, k.four, few)) k.fit

-- an empty hand that is emptied is as it was
pub emptied-same : (hands : List (Option Finding)) (place : ℕ) → slice_index_or hands place None ≡ None → slice_set hands place None ≡ hands
emptied-same hands place is = ap (λ o. slice_set hands place o) (sym is) ∙ set-get_or hands place None

-- a claimed job's finding is held
pub at_claim : (d : DrillFields) (place : ℕ) (f : Finding) (new : BookFields) (answered : Answered) → IsAtBook d → HasJob d.book
    → f ≡ finding_of (next_job d.book) → (world_of d.book).settings ≡ d.book.setup.settings → d.book.committed ≤ d.book.quanta
    → new ≡ record d.book { handed = d.book.handed + 1 } → IsAtBook (record { book = new; hands = slice_set d.hands place (Some f); answered = answered })
unfolding scene_of
at_claim d place f new answered k job is same few later =
    let later_book : BookFields = record d.book { handed = d.book.handed + 1 } in
    let g : GoesOn d.book later_book = record { setup = refl; quanta = refl; window = refl; stopped = refl; committed = omega arith } in
    let number : f.quantum ≡ d.book.handed + 1 - 1 + 1 = ap (λ (x : Finding). x.quantum) is in
    let ours : f.settings ≡ d.book.setup.settings = ap (λ (x : Finding). x.settings) is ∙ same in
    let within : f.quantum ≤ window_end later_book = omega (arith, number, job.room, few) in
    subst (λ (b : BookFields). IsAtBook (record { book = b; hands = slice_set d.hands place (Some f); answered = answered })) (sym later)
    (at_with_held (record { book = later_book; hands = d.hands; answered = answered }) place (Some f) answered
    (at_later_book d later_book answered k g) (ours, within))
