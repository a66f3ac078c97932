-- What crash images say, and what a read gives, after the calls of a shelf and at each moment of them.
use Rattle.std.proofs.Common.{◌≡◌, ◌⊎◌, inl, inr, sym, subst, ℕ, List, Option, Some, Result, Ok}
use Rattle.std.specs.Prelude.{IfSome, IsSomeAnd}
use Rattle.desk_io.specs.Desk.{DeskState, HasNoFault, IsDiskCall, IsDurable, IsSettled, Untouched, UsesDisk}
use Rattle.desk_io.proofs.Time.{UsesDisk-weaker}
use Rattle.file_journal.specs.Steps.{IfTold}
use Rattle.file_journal.proofs.Times.{IsDiskCall-weaker, at_file, each_file, now_told, told_now}
use Rattle.world_core.specs.Running.{WorldFields}
use Rattle.soup_checkpoint.specs.declared.faults.HoldFault.{HoldFault}
use Rattle.soup_checkpoint.specs.declared.owner.Owner.{Owner}
use Rattle.soup_checkpoint.specs.Hold.{Says}
use Rattle.soup_checkpoint.specs.Shelf.{Appends, Attaches, Holds, IsAtRest, IsAttached, SaysAsBefore, SaysBeforeOrAfter, SaysSame, ShelfState, held_of}
use Rattle.soup_checkpoint.proofs.Resting.{same_when_held}

-- a crash of a settled desk leaves what a read gives
pub settled_leaves : (d : DeskState) (P : List ℕ → Type 0) (image : List ℕ) → IsSettled d → IsSomeAnd d.reads P
    → d.may_leave image → P image
settled_leaves d P image settled is left =
    let now = told_now d.reads P is in
    let same : image ≡ now.0 = at_file d.reads (λ (file : List ℕ). (i : List ℕ) → d.may_leave i → i ≡ file) now.0 now.1 settled.durable image left in
    subst P (sym same) now.2

-- what a read gives, and all that a crash may leave, holds this
pub record AllHold (owner : Owner) (held : Option (List ℕ)) (d : DeskState) : Type 0 where
  pub read : IsSomeAnd d.reads (Holds owner held)
  pub left : (image : List ℕ) → d.may_leave image → Holds owner held image

-- they still do where the disk was left alone, as while a text is told
pub AllHold-untouched : (owner : Owner) (held : Option (List ℕ)) (old new : DeskState) → Untouched old new → AllHold owner held old
    → AllHold owner held new
AllHold-untouched owner held old new same all = record {
  read = subst (λ (o : Option (List ℕ)). IsSomeAnd o (Holds owner held)) (sym same.reads) all.read;
  left = λ image left. all.left image ((same.crash image).0 left);
}

durable-untouched : (old new : DeskState) → Untouched old new → IsDurable old → IsDurable new
durable-untouched old new same durable =
    subst (λ (o : Option (List ℕ)). IfSome o (λ file. (image : List ℕ) → new.may_leave image → image ≡ file)) (sym same.reads)
    (each_file old.reads (λ (file : List ℕ). (image : List ℕ) → old.may_leave image → image ≡ file)
    (λ (file : List ℕ). (image : List ℕ) → new.may_leave image → image ≡ file)
    (λ file is d image left. d image ((same.crash image).0 left)) durable)

pub IsAttached-untouched : (s : ShelfState) (old new : DeskState) → Untouched old new → HasNoFault new → IsAttached s old
    → IsAttached s new
IsAttached-untouched s old new same sound a = record {
  settled = record { sound = sound; durable = durable-untouched old new same a.settled.durable };
  at_rest = subst (λ (o : Option (List ℕ)). IfSome o (IsAtRest s.owner s.gate)) (sym same.reads) a.at_rest;
}

-- after an append they hold the new state
pub appended_holds : (was : ShelfState) (state : List ℕ) (old new : DeskState) (s : ShelfState) (file : List ℕ)
    → Appends was state old new s → old.reads ≡ Some file → AllHold was.owner (Some state) new
appended_holds was state old new s file a is =
    let read = at_file old.reads (λ (f : List ℕ). IsSomeAnd new.reads (Holds was.owner (Some state))) file is a.held in
    record { read = read; left = λ image left. settled_leaves new (Holds was.owner (Some state)) image a.attached.settled read left }

-- after an attach they hold the state of its world, as the file did that was read
pub attached_holds : (owner : Owner) (old new : DeskState) (s : ShelfState) (world : Option WorldFields) (file : List ℕ)
    → Attaches owner old new s world → old.reads ≡ Some file
    → Holds owner (held_of world) file × AllHold owner (held_of world) new
attached_holds owner old new s world file a is =
    let held = held_of world in
    let read = at_file old.reads (λ (f : List ℕ). IsSomeAnd new.reads (Holds owner held)) file is a.still in (
      at_file old.reads (Holds owner held) file is a.held,
      record { read = read; left = λ image left. settled_leaves new (Holds owner held) image a.attached.settled read left },
    )

-- what says the same as what says the same
pub same_then : (owner : Owner) (was file image : List ℕ) → SaysSame owner was file → SaysSame owner file image → SaysSame owner was image
same_then owner was file image first second r = (λ says. (second r).0 ((first r).0 says), λ says. (first r).1 ((second r).1 says))

-- so a read gives what says the same as that file
pub attached_reads : (owner : Owner) (old new : DeskState) (s : ShelfState) (world : Option WorldFields) (file : List ℕ)
    → Attaches owner old new s world → old.reads ≡ Some file → IsSomeAnd new.reads (SaysSame owner file)
attached_reads owner old new s world file a is =
    let holds = attached_holds owner old new s world file a is in
    now_told new.reads (Holds owner (held_of world)) (SaysSame owner file)
    (λ now held. same_when_held owner (held_of world) file now holds.0 held) holds.1.read

-- and so does all that a crash may leave
pub attached_same : (owner : Owner) (old new : DeskState) (s : ShelfState) (world : Option WorldFields) (file image : List ℕ)
    → Attaches owner old new s world → old.reads ≡ Some file → new.may_leave image → SaysSame owner file image
attached_same owner old new s world file image a is left =
    let holds = attached_holds owner old new s world file a is in
    same_when_held owner (held_of world) file image holds.0 (holds.1.left image left)

-- where all images said one thing at the start of an attach, each moment of it says that
pub attaching_says : (owner : Owner) (may_leave : List ℕ → Type 0) (r : Result (Option (List ℕ)) HoldFault) (file image : List ℕ)
    → ((was : List ℕ) → may_leave was → Says was owner r) → Says file owner r → SaysAsBefore owner may_leave file image
    → Says image owner r
attaching_says owner may_leave r file image left read before = (before.2 r).0 (from before.0 before.1)
  where
    from : (was : List ℕ) → may_leave was ⊎ (was ≡ file) → Says was owner r
    from was (inl l) = left was l
    from was (inr is) = subst (λ (x : List ℕ). Says x owner r) (sym is) read

-- each moment of an append says what the file held, or holds the new state
pub appending_says : (owner : Owner) (state : List ℕ) (r : Result (Option (List ℕ)) HoldFault) (file image : List ℕ)
    → Says file owner r → SaysBeforeOrAfter owner state file image → Says image owner r ⊎ Holds owner (Some state) image
appending_says owner state r file image read (inl same) = inl ((same r).0 read)
appending_says owner state r file image read (inr after) = inr after

-- so it is for whole calls
pub attach_moments : (owner : Owner) (held : Option (List ℕ)) (old new : DeskState) → AllHold owner held old
    → UsesDisk old new (IfTold old (SaysAsBefore owner old.may_leave)) → UsesDisk old new (Holds owner held)
attach_moments owner held old new all uses =
    let now = told_now old.reads (Holds owner held) all.read in
    UsesDisk-weaker (λ image told.
    attaching_says owner old.may_leave (Ok held) now.0 image all.left now.2
    (at_file old.reads (λ (file : List ℕ). SaysAsBefore owner old.may_leave file image) now.0 now.1 told)) uses

pub append_moments : {T E : Type 0} {result : Result T E} (owner : Owner) (held : Option (List ℕ)) (state : List ℕ) (old new : DeskState)
    → AllHold owner held old → IsDiskCall old new result (IfTold old (SaysBeforeOrAfter owner state))
    → IsDiskCall old new result (λ image. Holds owner held image ⊎ Holds owner (Some state) image)
append_moments owner held state old new all call =
    let now = told_now old.reads (Holds owner held) all.read in
    IsDiskCall-weaker (λ image told.
    appending_says owner state (Ok held) now.0 image now.2
    (at_file old.reads (λ (file : List ℕ). SaysBeforeOrAfter owner state file image) now.0 now.1 told)) call
