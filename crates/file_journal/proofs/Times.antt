-- How what is said of files and moments goes on from call to call.
use Rattle.std.proofs.Common.{◌≡◌, ◌∙◌, refl, sym, ap, subst, ℕ, List, Option, Some, None, Result, Ok, Err, OnOk}
use Rattle.std.specs.Prelude.{IfSome, IsSomeAnd, option_map}
use Rattle.desk_io.specs.Desk.{spliced, DeskState, Follows, IsDiskCall, IsDurable, Torn, UsesDisk}
use Rattle.desk_io.proofs.Time.{UsesDisk-then, UsesDisk-weaker}
use Rattle.file_journal.specs.Steps.{Becomes, IfTold, IsWritten}

-- where a call succeeded
pub on_ok : {T E : Type 0} (r : Result T E) (A B : Type 0) → (A → B) → OnOk r A → OnOk r B
on_ok (Ok x) A B step a = step a
on_ok (Err e) A B step a = tt

pub always_ok : {T E : Type 0} (r : Result T E) (A : Type 0) → A → OnOk r A
always_ok (Ok x) A a = a
always_ok (Err e) A a = tt

-- of a file that is told
pub each_file : (o : Option (List ℕ)) (P Q : List ℕ → Type 0) → ((file : List ℕ) → o ≡ Some file → P file → Q file)
    → IfSome o P → IfSome o Q
each_file None P Q step p = tt
each_file (Some file) P Q step p = step file refl p

pub for_file : (o : Option (List ℕ)) (Q : List ℕ → Type 0) → ((file : List ℕ) → o ≡ Some file → Q file) → IfSome o Q
for_file None Q step = tt
for_file (Some file) Q step = step file refl

pub at_file : (o : Option (List ℕ)) (P : List ℕ → Type 0) (file : List ℕ) → o ≡ Some file → IfSome o P → P file
at_file o P file is p = subst (λ (x : Option (List ℕ)). IfSome x P) is p

-- the file that is told now
pub told_now : (o : Option (List ℕ)) (P : List ℕ → Type 0) → IsSomeAnd o P → (file : List ℕ) × (o ≡ Some file) × P file
told_now None P is = absurd is
told_now (Some file) P is = (file, refl, is)

pub now_told : (o : Option (List ℕ)) (P Q : List ℕ → Type 0) → ((file : List ℕ) → P file → Q file) → IsSomeAnd o P → IsSomeAnd o Q
now_told None P Q step is = is
now_told (Some file) P Q step is = step file is

written_reads : (o now : Option (List ℕ)) (at : ℕ) (piece : List ℕ) (P : List ℕ → Type 0) (R : List ℕ → List ℕ → Type 0)
    → IfSome o P → ((file : List ℕ) → P file → R file (spliced file at piece))
    → now ≡ option_map (λ xs. spliced xs at piece) o → IfSome o (λ file. IsSomeAnd now (R file))
written_reads None now at piece P R p step written = tt
written_reads (Some file) now at piece P R p step written =
    subst (λ (x : Option (List ℕ)). IsSomeAnd x (R file)) (sym written) (step file p)

-- what a file becomes by a piece
pub becomes : (old new : DeskState) (at : ℕ) (piece : List ℕ) (P : List ℕ → Type 0) (R : List ℕ → List ℕ → Type 0)
    → IfSome old.reads P → ((file : List ℕ) → P file → R file (spliced file at piece)) → IsWritten old at piece new
    → Becomes old new R
becomes old new at piece P R p step w = record {
  settled = w.settled;
  has = written_reads old.reads new.reads at piece P R p step w.written;
  untold = λ none. w.written ∙ ap (option_map (λ xs. spliced xs at piece)) none;
}

becomes_has : (o mid new : Option (List ℕ)) (P Q R : List ℕ → List ℕ → Type 0)
    → ((file between now : List ℕ) → P file between → Q between now → R file now)
    → IfSome o (λ file. IsSomeAnd mid (P file)) → IfSome mid (λ file. IsSomeAnd new (Q file))
    → IfSome o (λ file. IsSomeAnd new (R file))
becomes_has None mid new P Q R step first second = tt
becomes_has (Some file) None new P Q R step first second = absurd first
becomes_has (Some file) (Some between) new P Q R step first second =
    now_told new (Q between) (R file) (λ now q. step file between now first q) second

-- and what it becomes then
pub Becomes-then : (old mid new : DeskState) (P Q R : List ℕ → List ℕ → Type 0)
    → ((file between now : List ℕ) → P file between → Q between now → R file now) → Becomes old mid P → Becomes mid new Q
    → Becomes old new R
Becomes-then old mid new P Q R step first second = record {
  settled = second.settled;
  has = becomes_has old.reads mid.reads new.reads P Q R step first.has second.has;
  untold = λ none. second.untold (first.untold none);
}

has_each : (o now : Option (List ℕ)) (P : List ℕ → List ℕ → Type 0) (Q : List ℕ → Type 0)
    → ((file between : List ℕ) → P file between → Q between) → IfSome o (λ file. IsSomeAnd now (P file)) → (o ≡ None → now ≡ None)
    → IfSome now Q
has_each None now P Q step has none = subst (λ (x : Option (List ℕ)). IfSome x Q) (sym (none refl)) tt
has_each (Some file) None P Q step has none = tt
has_each (Some file) (Some between) P Q step has none = step file between has

-- what the file has now
pub becomes_now : (old new : DeskState) (P : List ℕ → List ℕ → Type 0) (Q : List ℕ → Type 0)
    → ((file now : List ℕ) → P file now → Q now) → Becomes old new P → IfSome new.reads Q
becomes_now old new P Q step b = has_each old.reads new.reads P Q step b.has b.untold

given_has : (o now : Option (List ℕ)) (A : List ℕ → Type 0) (P R : List ℕ → List ℕ → Type 0)
    → ((file after : List ℕ) → A file → P file after → R file after) → IfSome o A
    → IfSome o (λ file. IsSomeAnd now (P file)) → IfSome o (λ file. IsSomeAnd now (R file))
given_has None now A P R step a has = tt
given_has (Some file) now A P R step a has = now_told now (P file) (R file) (λ after p. step file after a p) has

-- what it becomes, with what it was
pub Becomes-given : (old new : DeskState) (A : List ℕ → Type 0) (P R : List ℕ → List ℕ → Type 0)
    → ((file now : List ℕ) → A file → P file now → R file now) → IfSome old.reads A → Becomes old new P → Becomes old new R
Becomes-given old new A P R step a b = record {
  settled = b.settled;
  has = given_has old.reads new.reads A P R step a b.has;
  untold = b.untold;
}

-- an image that a crash may leave of a write over a durable file
pub torn_of : (old mid : DeskState) (at n : ℕ) → IsDurable old → Follows (Torn at n) old.may_leave mid.may_leave
    → (image : List ℕ) → mid.may_leave image → IfTold old (Torn at n) image
torn_of old mid at n durable follows image left =
    let was = follows image left in
    each_file old.reads (λ (xs : List ℕ). (i : List ℕ) → old.may_leave i → i ≡ xs) (λ (file : List ℕ). Torn at n file image)
    (λ file is same. subst (λ (f : List ℕ). Torn at n f image) (same was.0 was.1) was.2) durable

-- what is said of the image at each moment may be weakened
pub IsDiskCall-weaker : {T E : Type 0} {old new : DeskState} {result : Result T E} {P Q : List ℕ → Type 0}
    → ((image : List ℕ) → P image → Q image) → IsDiskCall old new result P → IsDiskCall old new result Q
IsDiskCall-weaker weaker call = record { uses = UsesDisk-weaker weaker call.uses; ok = call.ok; err = call.err }

-- a call after others
pub IsDiskCall-then : {T E : Type 0} {old mid new : DeskState} {result : Result T E} {P : List ℕ → Type 0}
    → UsesDisk old mid P → IsDiskCall mid new result P → IsDiskCall old new result P
IsDiskCall-then first call = record { uses = UsesDisk-then first call.uses; ok = call.ok; err = call.err }

-- what each outcome of a torn write has
pub torn_have : {T E : Type 0} {result : Result T E} (old new : DeskState) (at n : ℕ) (P : List ℕ → Type 0)
    (Q : List ℕ → List ℕ → Type 0) → ((file image : List ℕ) → P file → Torn at n file image → Q file image)
    → IfSome old.reads P → IsDiskCall old new result (IfTold old (Torn at n)) → IsDiskCall old new result (IfTold old Q)
torn_have old new at n P Q step p call =
    IsDiskCall-weaker (λ image.
    each_file old.reads (λ (file : List ℕ). Torn at n file image) (λ (file : List ℕ). Q file image)
    (λ file is torn. step file image (at_file old.reads P file is p) torn)) call

-- what is said of a file and an image may be weakened
pub told_weaker : (d : DeskState) (P Q : List ℕ → List ℕ → Type 0)
    → ((file image : List ℕ) → d.reads ≡ Some file → P file image → Q file image) → (image : List ℕ) → IfTold d P image
    → IfTold d Q image
told_weaker d P Q step image =
    each_file d.reads (λ (file : List ℕ). P file image) (λ (file : List ℕ). Q file image) (λ file is p. step file image is p)

-- what is said of the file of a state holds of the file of one that reads the same
pub told_from : (old mid : DeskState) (P : List ℕ → List ℕ → Type 0) → mid.reads ≡ old.reads → (image : List ℕ)
    → IfTold mid P image → IfTold old P image
told_from old mid P same image = subst (λ (o : Option (List ℕ)). IfSome o (λ file. P file image)) same

-- what is said of an image and the file of a later state, which the earlier one became
before_has : (o mid : Option (List ℕ)) (P Q R : List ℕ → List ℕ → Type 0) (image : List ℕ)
    → ((file between : List ℕ) → P file between → Q between image → R file image)
    → IfSome o (λ file. IsSomeAnd mid (P file)) → IfSome mid (λ file. Q file image) → IfSome o (λ file. R file image)
before_has None mid P Q R image step has q = tt
before_has (Some file) None P Q R image step has q = absurd has
before_has (Some file) (Some between) P Q R image step has q = step file between has q

pub told_before : (old mid : DeskState) (P Q R : List ℕ → List ℕ → Type 0)
    → ((file between image : List ℕ) → P file between → Q between image → R file image) → Becomes old mid P
    → (image : List ℕ) → IfTold mid Q image → IfTold old R image
told_before old mid P Q R step b image =
    before_has old.reads mid.reads P Q R image (λ file between p q. step file between image p q) b.has

-- one call after another
pub call_then : {T E : Type 0} {result : Result T E} (old mid new : DeskState) (P Q R S : List ℕ → List ℕ → Type 0)
    → Becomes old mid P → ((file image : List ℕ) → Q file image → S file image)
    → ((file between image : List ℕ) → P file between → R between image → S file image)
    → UsesDisk old mid (IfTold old Q) → IsDiskCall mid new result (IfTold mid R)
    → IsDiskCall old new result (IfTold old S)
call_then old mid new P Q R S b first_step second_step first second =
    IsDiskCall-then
    (UsesDisk-weaker (told_weaker old Q S (λ file image is q. first_step file image q)) first)
    (IsDiskCall-weaker (told_before old mid P R S second_step b) second)
