-- What an attach gives of a new file, and what each moment of it says.
use Rattle.std.proofs.Common.{◌≡◌, ◌∙◌, ◌⊎◌, inl, inr, refl, sym, ap, subst, ℕ, List, [], ◌++◌, length, append-nil}
use Rattle.std.specs.Prelude.{IsSomeAnd}
use Rattle.desk_io.specs.Desk.{DeskState}
use Rattle.tierra_model.specs.Groups.{GroupFields}
use Rattle.bank_recover.specs.Bank.{title, opened}
use Rattle.bank_recover.proofs.Groups.{opened-none}
use Rattle.bank_format.specs.Spelling.{IsSpellable}
use Rattle.std.proofs.lemmas.List.Elements.{All-nil}
use Rattle.file_journal.specs.Creating.{IsMade}
use Rattle.file_journal.specs.Files.{ClosesAfter, IsFresh}
use Rattle.file_journal.specs.Opening.{IsLeftOrMaking, IsNew}
use Rattle.file_journal.specs.declared.header.Header.{Header}
use Rattle.file_journal.proofs.Times.{becomes_now}
use Rattle.bank_journal.specs.Bank.{Attaches, BankState, Has, IsAtRest, SaysAsBefore, header_for}
use Rattle.bank_journal.specs.Steps.{IsTold}
use Rattle.bank_journal.proofs.Appending.{front, rest_of}
use Rattle.bank_journal.proofs.AtRest.{header_of, rest_says}
use Rattle.bank_journal.proofs.Saying.{as_left, as_read, same_when_fresh}
use Rattle.bank_journal.proofs.Times.{each_file, has_told}

module _ (digest : List ℕ) (len : length digest ≡ 32) where
  pub made_rests : (image : List ℕ) → IsMade (header_for digest) image → IsAtRest digest [] image
  made_rests image made =
      let none : opened [] ≡ [] = sym (append-nil (opened [])) ∙ opened-none [] in
      let same : front digest len [] ≡ header_of digest =
      ap (λ (l : List ℕ). header_of digest ++ l) none ∙ append-nil (header_of digest) in
      rest_of digest len [] image (All-nil IsSpellable) (subst (λ (x : List ℕ). ClosesAfter x image) (sym same) made)

  pub opening_says : (h : Header) (may_leave : List ℕ → Type 0) (file image : List ℕ) → h ≡ header_for digest
      → IsLeftOrMaking h may_leave file image → SaysAsBefore digest may_leave file image
  opening_says h may_leave file image is left =
      says (subst (λ (k : Header). IsLeftOrMaking k may_leave file image) is left)
    where
      has : IsFresh title image ⊎ IsMade (header_for digest) image → Has digest [] image
      has (inl fresh) = inl (fresh, refl)
      has (inr made) = rest_says digest [] image (made_rests image made)

      says : IsLeftOrMaking (header_for digest) may_leave file image → SaysAsBefore digest may_leave file image
      says (inl was) = as_left digest may_leave file image was
      says (inr making) =
          as_read digest may_leave file image
          (same_when_fresh digest file image making.0 (has making.1))

  at_rest_of : (bank : BankState) (file : List ℕ) → bank.digest ≡ digest → bank.groups ≡ [] → IsAtRest digest [] file
      → IsAtRest bank.digest bank.groups file
  at_rest_of bank file d g r =
      subst (λ (x : List ℕ). IsAtRest x bank.groups file) (sym d)
      (subst (λ (gs : List GroupFields). IsAtRest digest gs file) (sym g) r)

  pub attach_new : (old new : DeskState) (bank : BankState) → bank.digest ≡ digest → bank.groups ≡ []
      → IsNew (header_for digest) old new → Attaches digest old new bank
  attach_new old new bank d g n = record {
    digest_is = d;
    groups = each_file old.reads (IsFresh title) (Has digest bank.groups)
        (λ file is fresh. inl (fresh, g)) n.fresh;
    attached = record {
      settled = n.made.settled;
      at_rest = becomes_now old new (λ file. IsMade (header_for digest)) (IsAtRest bank.digest bank.groups)
          (λ file now made. at_rest_of bank now d g (made_rests now made)) n.made;
    };
    still = each_file old.reads (λ (file : List ℕ). IsSomeAnd new.reads (IsMade (header_for digest)))
        (λ (file : List ℕ). IsTold new.reads) (λ file is has. has_told new.reads (IsMade (header_for digest)) has) n.made.has;
  }
