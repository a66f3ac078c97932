-- What an attach gives of a new file and of one that was found.
use Rattle.std.proofs.Common.{◌≡◌, inl, inr, sym, subst, ℕ, List, None, length}
use Rattle.std.specs.Prelude.{IsSomeAnd}
use Rattle.desk_io.specs.Desk.{DeskState}
use Rattle.file_journal.specs.Creating.{IsMade}
use Rattle.file_journal.specs.Files.{IsFresh}
use Rattle.file_journal.specs.Opening.{IsLeftOrMaking, IsNew}
use Rattle.file_journal.specs.declared.header.Header.{Header}
use Rattle.file_journal.proofs.Times.{becomes_now, each_file, now_told}
use Rattle.soup_checkpoint.specs.declared.owner.Owner.{Owner}
use Rattle.soup_checkpoint.specs.Hold.{header_for, title}
use Rattle.soup_checkpoint.specs.Shelf.{Attaches, Holds, IsAtRest, SaysAsBefore, ShelfState}
use Rattle.soup_checkpoint.proofs.Resting.{as_left, as_read, made_holds, made_rest, making_holds, same_when_fresh}

-- the place and the owner of a shelf
at_place : (owner : Owner) (gate : ℕ) (s : ShelfState) (file : List ℕ) → s.owner ≡ owner → s.gate ≡ gate
    → IsAtRest owner gate file → IsAtRest s.owner s.gate file
at_place owner gate s file o g r =
    subst (λ (w : Owner). IsAtRest w s.gate file) (sym o) (subst (λ (n : ℕ). IsAtRest owner n file) (sym g) r)

pub attach_new : (owner : Owner) (old new : DeskState) (s : ShelfState) → length owner.digest ≡ 32 → s.owner ≡ owner
    → s.gate ≡ 44 → IsNew (header_for owner) old new → Attaches owner old new s None
attach_new owner old new s len o g n = record {
  owner_is = o;
  world_is = tt;
  held = each_file old.reads (IsFresh title) (Holds owner None) (λ file is fresh. inl fresh) n.fresh;
  attached = record {
    settled = n.made.settled;
    at_rest = becomes_now old new (λ file. IsMade (header_for owner)) (IsAtRest s.owner s.gate)
        (λ file now made. at_place owner 44 s now o g (made_rest owner len now made)) n.made;
  };
  still = each_file old.reads (λ (file : List ℕ). IsSomeAnd new.reads (IsMade (header_for owner)))
      (λ (file : List ℕ). IsSomeAnd new.reads (Holds owner None))
      (λ file is has. now_told new.reads (IsMade (header_for owner)) (Holds owner None) (made_holds owner len) has) n.made.has;
}

-- what each moment of an opening says
pub opening_says : (owner : Owner) (h : Header) (may_leave : List ℕ → Type 0) (file image : List ℕ)
    → length owner.digest ≡ 32 → h ≡ header_for owner → IsLeftOrMaking h may_leave file image
    → SaysAsBefore owner may_leave file image
opening_says owner h may_leave file image len is left =
    says (subst (λ (k : Header). IsLeftOrMaking k may_leave file image) is left)
  where
    says : IsLeftOrMaking (header_for owner) may_leave file image → SaysAsBefore owner may_leave file image
    says (inl was) = as_left owner may_leave file image was
    says (inr making) =
        as_read owner may_leave file image
        (same_when_fresh owner file image making.0 (making_holds owner len image making.1))
