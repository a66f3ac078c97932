use Rattle.std.proofs.Common.{rules, ◌≡◌, ◌∙◌, ap, refl, subst, sym, ℕ, false, List, ◌∷◌, length, take, Option, Some, None}
use Rattle.std.specs.Prelude.{IfNone, IfSome, is_some}
use Rattle.std.proofs.lemmas.List.{take_at}
use Rattle.desk_io.specs.Desk.{DeskState}
use Rattle.file_journal.specs.Creating.{IsMade}
use Rattle.file_journal.specs.Files.{ClosesAfter, IsClosedAt, header_of}
use Rattle.file_journal.specs.Opening.{IsNew}
use Rattle.file_journal.specs.declared.header.Header.{Header}
use Rattle.file_journal.proofs.Times.{becomes_now}
use Rattle.test_desks.specs.MemDesk.{state_of}
use Rattle.disk_tests.proofs.journals.append_two.Goals as goal

-- the gate of record 0 stands behind the header
closed_made : (h : Header) (image : List ℕ) → length (header_of h) ≡ 44 → IsMade h image → IsClosedAt 44 image
closed_made h image long made =
    let front : take 44 image ≡ header_of h = ap (take 44) made.text ∙ take_at (header_of h) (made.gate ∷ made.rest) 44 long in
    subst (λ (f : List ℕ). ClosesAfter f image) (sym front) made

closed_new : {X : Type 0} (o : Option X) (h : Header) (old new : DeskState) → is_some o ≡ false → length (header_of h) ≡ 44
    → IfNone o (IsNew h old new) → IfSome new.reads (IsClosedAt 44)
closed_new None h old new none long is =
    becomes_now old new (λ file. IsMade h) (IsClosedAt 44) (λ file now made. closed_made h now long made) is.made
closed_new (Some x) h old new none long is = absurd cc

pub append-requires-clause-closed : goal.append-requires-clause-closed
append-requires-clause-closed c =
    let none : is_some c.in_ok-open.field-0 ≡ false = search rules in
    closed_new c.in_ok-open.field-0 _ (state_of c.args.desk.now) (state_of c.open.new.desk) none refl c.in_ok-open.ensures.new
