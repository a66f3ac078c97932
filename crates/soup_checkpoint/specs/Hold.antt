-- What the bytes of a checkpoint file say.
use Rattle.std.specs.Prelude.{◌≡◌, ◌≢◌, ◌⊎◌, ℕ, List, [], ◌∷◌, ◌++◌, codes, length, take, Option, Some, None, Result}
use Rattle.std.specs.Prelude.{Ok, Err}
use Rattle.sha2.specs.Sha256.{sha256}
use Rattle.tierra_model.specs.Setups.{SetupFields}
use Rattle.bank_format.specs.SetupBytes.{setup_bytes}
use Rattle.world_state.specs.Restoring.{IsStateOf}
use Rattle.file_journal.specs.Files.{IsFresh, IsTitled, behind_header, digest_in}
use Rattle.file_journal.specs.declared.header.Header.{Header}
use Rattle.soup_checkpoint.specs.Frames.{BreaksAfter, IsClosedAfter}
use Rattle.soup_checkpoint.specs.declared.faults.HoldFault.{HoldFault}
use Rattle.soup_checkpoint.specs.declared.faults.HoldFault.TheVariants as fault
use Rattle.soup_checkpoint.specs.declared.owner.Owner.{Owner}

-- a checkpoint file's first twelve bytes
abbrev pub title : List ℕ
title = codes "Tierra hold1"

-- the owner of a setup's file
abbrev pub owner_of : SetupFields → Owner
owner_of setup = record { digest = sha256 (setup_bytes setup); settings = setup.settings }

abbrev pub header_for : Owner → Header
header_for owner = record { title = title; digest = owner.digest }

-- the file has the title and this digest
abbrev pub IsOwned : List ℕ → List ℕ → Type 0
IsOwned image digest = IsTitled title image × (digest_in image ≡ digest)

-- after the header there are frames up to a closed gate, and the last frame has this state
pub record EndsWith (image state : List ℕ) : Type 0 where
  pub earlier : List (List ℕ)
  pub frames : IsClosedAfter (behind_header image) (earlier ++ state ∷ [])

-- frame k is not whole, or not as it was written
pub record IsBroken (image : List ℕ) (k : ℕ) : Type 0 where
  pub states : List (List ℕ)
  pub breaks : BreaksAfter (behind_header image) states
  pub number : length states ≡ k

-- frame k is the last, and its state is not that of a sound world with the owner's settings
pub record IsUnsound (image : List ℕ) (owner : Owner) (k : ℕ) : Type 0 where
  pub state : List ℕ
  pub last : EndsWith image state
  pub number : length last.earlier ≡ k
  pub no_state : IsStateOf owner.settings state → ⊥

-- What an image says to an owner: the state of its last frame, none if it has no frame, or what is wrong.
-- Frames are numbered from 0.
abbrev pub Says : List ℕ → Owner → Result (Option (List ℕ)) HoldFault → Type 0
Says image owner (Ok None) = IsFresh title image ⊎ (IsOwned image owner.digest × IsClosedAfter (behind_header image) [])
Says image owner (Ok (Some state)) = IsOwned image owner.digest × EndsWith image state × IsStateOf owner.settings state
Says image owner (Err fault.NotAHold) = (IsFresh title image → ⊥) × (take 12 image ≢ title)
Says image owner (Err fault.Foreign) = IsTitled title image × (digest_in image ≢ owner.digest)
Says image owner (Err (fault.Damaged k)) = IsOwned image owner.digest × (IsBroken image k ⊎ IsUnsound image owner k)
Says image owner (Err (fault.Beyond held)) = ⊥
Says image owner (Err (fault.TooLarge quantum bytes)) = ⊥

-- what an image says to a setup
abbrev pub HoldSays : List ℕ → SetupFields → Result (Option (List ℕ)) HoldFault → Type 0
HoldSays image setup result = Says image (owner_of setup) result
