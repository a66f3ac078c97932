-- The state of a world is appended, and its line told.
use Rattle.std.proofs.Common.{◌≡◌, ◌∙◌, ◌⊎◌, inl, inr, sym, subst, ℕ, ◌<◌, ◌^◌, List, length, append-nil, Option, Some, Result}
use Rattle.std.specs.Prelude.{IfSome, IsSomeAnd}
use Rattle.desk_io.specs.Desk.{DeskState, Elapses, IsDurable, Tells, UsesDisk, WithText}
use Rattle.desk_io.proofs.Time.{Elapses-then, Elapses-weaker, UsesDisk-weaker}
use Rattle.file_journal.specs.Steps.{IfTold}
use Rattle.file_journal.proofs.Times.{at_file, each_file, for_file, now_told, told_now, told_weaker}
use Rattle.soup_checkpoint.specs.declared.owner.Owner.{Owner}
use Rattle.soup_checkpoint.specs.Shelf.{Appends, Holds, SaysBeforeOrAfter, SaysSame, ShelfState}
use Rattle.soup_hold.specs.Holding.{HoldsWorld}
use Rattle.soup_hold.specs.Steps.{HoldsNext, IsHoldingNext}
use Rattle.tierra_model.specs.World.{World}
use Rattle.world_state.specs.Restoring.{AreBytesOf}
use Rattle.world_state.specs.StateBytes.{state_bytes}

-- the shelf's file holds the world
pub holds_next : (was : ShelfState) (w : World) (state : List ℕ) (old new : DeskState) (s : ShelfState)
    → state ≡ state_bytes w → AreBytesOf was.owner.settings state w → length state < 2 ^ 31
    → Appends was state old new s → HoldsNext was w old new s
holds_next was w state old new s is are small a =
    let own : AreBytesOf was.owner.settings (state_bytes w) w = subst (λ (b : List ℕ). AreBytesOf was.owner.settings b w) is are in
    record {
      owner_is = a.owner_is;
      attached = a.attached;
      holds = each_file old.reads (λ (file : List ℕ). IsSomeAnd new.reads (Holds was.owner (Some state)))
          (λ (file : List ℕ). IsSomeAnd new.reads (HoldsWorld was.owner w))
          (λ file there has. now_told new.reads (Holds was.owner (Some state)) (HoldsWorld was.owner w)
          (λ now h. (subst (λ (b : List ℕ). Holds was.owner (Some b) now) is h, own)) has)
          a.held;
      small = rw (← is) small;
    }

-- of a shelf with the same owner
pub holds_next_of : (was now : ShelfState) (w : World) (old new : DeskState) (s : ShelfState) → was.owner ≡ now.owner
    → HoldsNext was w old new s → HoldsNext now w old new s
holds_next_of was now w old new s same h = record {
  owner_is = h.owner_is ∙ same;
  attached = h.attached;
  holds = subst (λ (o : Owner). IfSome old.reads (λ file. IsSomeAnd new.reads (HoldsWorld o w))) same h.holds;
  small = h.small;
}

-- what each moment of the append holds
pub says_next : (owner : Owner) (w : World) (state : List ℕ) (old new : DeskState) → state ≡ state_bytes w
    → AreBytesOf owner.settings state w → UsesDisk old new (IfTold old (SaysBeforeOrAfter owner state))
    → UsesDisk old new (IfTold old (λ file image. SaysSame owner file image ⊎ HoldsWorld owner w image))
says_next owner w state old new is are =
    UsesDisk-weaker (told_weaker old (SaysBeforeOrAfter owner state) (λ file image. SaysSame owner file image ⊎ HoldsWorld owner w image)
    (λ file image there says. step file image says))
  where
    step : (file image : List ℕ) → SaysBeforeOrAfter owner state file image → SaysSame owner file image ⊎ HoldsWorld owner w image
    step file image (inl same) = inl same
    step file image (inr held) = inr (
      subst (λ (b : List ℕ). Holds owner (Some b) image) is held,
      subst (λ (b : List ℕ). AreBytesOf owner.settings b w) is are,
    )

module _ (owner : Owner) (w : World) (line : List ℕ) where
  untold : (file : List ℕ) (before : Option (List ℕ)) (image text : List ℕ)
      → WithText before (λ i. SaysSame owner file i ⊎ HoldsWorld owner w i) image text
      → IsHoldingNext owner file w line before image text
  untold file before image text (inl same, told) = inl (same, told)
  untold file before image text (inr holds, told) = inr (holds, (0, (text, told, sym (append-nil text))))

  -- while it is appended
  pub appending : (old new : DeskState)
      → UsesDisk old new (IfTold old (λ file image. SaysSame owner file image ⊎ HoldsWorld owner w image))
      → IfSome old.reads (λ file. Elapses old new (IsHoldingNext owner file w line old.told))
  appending old new uses =
      for_file old.reads (λ (file : List ℕ). Elapses old new (IsHoldingNext owner file w line old.told))
      (λ file is. Elapses-weaker (λ image text m.
      untold file old.told image text
      (at_file old.reads (λ (f : List ℕ). SaysSame owner f image ⊎ HoldsWorld owner w image) file is m.0, m.1)) uses.time)

  -- while its line is told
  telling : {T E : Type 0} {result : Result T E} (file : List ℕ) (before : Option (List ℕ)) (mid new : DeskState)
      → IsSomeAnd mid.reads (HoldsWorld owner w) → IsDurable mid → mid.told ≡ before → Tells mid new line result
      → Elapses mid new (IsHoldingNext owner file w line before)
  telling file before mid new holds only told_is tells =
      let there = told_now mid.reads (HoldsWorld owner w) holds in
      Elapses-weaker (λ image text m.
      let image_is = at_file mid.reads (λ (f : List ℕ). (i : List ℕ) → mid.may_leave i → i ≡ f) there.0 there.1 only image
      ((tells.untouched.crash image).0 m.0) in
      inr (subst (HoldsWorld owner w) (sym image_is) there.2, (m.1.1, (m.1.0, sym told_is ∙ m.1.2, m.1.3)))) tells.time

  pub appended_and_telling : {T E : Type 0} {result : Result T E} (was s : ShelfState) (old mid new : DeskState) → was.owner ≡ owner
      → IfSome old.reads (λ file. Elapses old mid (IsHoldingNext owner file w line old.told)) → HoldsNext was w old mid s
      → mid.told ≡ old.told → Tells mid new line result
      → IfSome old.reads (λ file. Elapses old new (IsHoldingNext owner file w line old.told))
  appended_and_telling was s old mid new owner_is first held told_is tells =
      let holds = subst (λ (o : Owner). IfSome old.reads (λ file. IsSomeAnd mid.reads (HoldsWorld o w))) owner_is held.holds in
      for_file old.reads (λ (file : List ℕ). Elapses old new (IsHoldingNext owner file w line old.told))
      (λ file is.
      let now = at_file old.reads (λ (f : List ℕ). IsSomeAnd mid.reads (HoldsWorld owner w)) file is holds in
      Elapses-then (at_file old.reads (λ (f : List ℕ). Elapses old mid (IsHoldingNext owner f w line old.told)) file is first)
      (telling file old.told mid new now held.attached.settled.durable told_is tells))

-- what was appended stays so while the line is told
pub still_holds : {T E : Type 0} {result : Result T E} (line : List ℕ) (was s : ShelfState) (w : World) (old mid new : DeskState) → HoldsNext was w old mid s
    → Tells mid new line result → IsSomeAnd mid.reads (HoldsWorld was.owner w) → IsSomeAnd new.reads (HoldsWorld was.owner w)
still_holds line was s w old mid new held tells holds =
    subst (λ (o : Option (List ℕ)). IsSomeAnd o (HoldsWorld was.owner w)) (sym tells.untouched.reads) holds
