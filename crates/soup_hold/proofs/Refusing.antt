-- A file holds one thing, and what it holds is not refused.
use Rattle.std.proofs.Common.{◌≡◌, ◌∙◌, refl, sym, ap, subst, arith, inl, ℕ, ◌≤◌, List, Option, Some, None, Result, Ok, Err, All}
use Rattle.std.specs.Prelude.{slice_get}
use Rattle.std.proofs.lemmas.List.Elements.{All-get_or}
use Rattle.std.proofs.lemmas.Option.{get_or_from_slice_get, slice_get_within}
use Rattle.file_journal.specs.Files.{IsFresh}
use Rattle.file_journal.proofs.Times.{at_file}
use Rattle.soup_checkpoint.specs.declared.faults.HoldFault.{HoldFault}
use Rattle.soup_checkpoint.specs.declared.faults.HoldFault.TheVariants as fault
use Rattle.soup_checkpoint.specs.Hold.{HoldSays, owner_of, title}
use Rattle.soup_checkpoint.proofs.OneHold.{says_one}
use Rattle.soup_hold.specs.Holding.{CanHold, GoesOnFrom, HoldsState, IsEarly, IsFirst, IsHoldText, IsSmall, RefusesHold}
use Rattle.soup_hold.specs.Text.{held_quanta, world_at}
use Rattle.soup_hold.proofs.SomeText.{start-quanta}
use Rattle.tierra_model.specs.Serial.{start}
use Rattle.tierra_model.specs.Setups.{SetupFields}
use Rattle.tierra_model.specs.World.{World}
use Rattle.world_state.proofs.OneWorld.{one_world}

abbrev says_held : Option (List ℕ) → Result (Option (List ℕ)) HoldFault
says_held held = Ok held

held_inside : (a b : Option (List ℕ)) → says_held a ≡ says_held b → a ≡ b
held_inside a b e = cc

-- an image holds one state, or none
pub one_held : (setup : SetupFields) (image : List ℕ) (a b : Option (List ℕ)) → HoldsState setup a image → HoldsState setup b image → a ≡ b
one_held setup image a b p q = held_inside a b (says_one image (owner_of setup) (Ok a) (Ok b) p q)

-- what is held is nothing that is wrong
pub held_not_wrong : (setup : SetupFields) (image : List ℕ) (a : Option (List ℕ)) (f : HoldFault) → HoldsState setup a image
    → HoldSays image setup (Err f) → ⊥
held_not_wrong setup image a f p q = let same = says_one image (owner_of setup) (Ok a) (Err f) p q in cc

-- a state is of one world
pub one_first : (setup : SetupFields) (held : Option (List ℕ)) (v w : World) → IsFirst setup held v → IsFirst setup held w → v ≡ w
one_first setup None v w a b = a ∙ sym b
one_first setup (Some state) v w a b = one_world setup.settings state v w a b

-- a run of a file goes on from one world
pub one_beginning : (setup : SetupFields) (file : Option (List ℕ)) (image : List ℕ) (v w : World) → file ≡ Some image
    → GoesOnFrom setup file v → GoesOnFrom setup file w → v ≡ w
one_beginning setup file image v w is a b =
    let p = at_file file (HoldsState setup a.held) image is a.read in
    let q = at_file file (HoldsState setup b.held) image is b.read in
    let same : b.held ≡ a.held = one_held setup image b.held a.held q p in
    one_first setup a.held v w a.is_first (subst (λ (h : Option (List ℕ)). IsFirst setup h w) same b.is_first)

small_there : (first : World) (quanta : List ℕ) (place q : ℕ) → slice_get quanta place ≡ Some q → All (λ p. IsSmall (world_at first p)) quanta
    → IsSmall (world_at first q)
small_there first quanta place q there all =
    let IsSmallAt : ℕ → Type 0 = λ p. IsSmall (world_at first p) in
    subst IsSmallAt (get_or_from_slice_get quanta place q q there)
    (All-get_or IsSmallAt quanta place q (slice_get_within quanta place q there) all)

-- a file that is known, and after which no state is too large, is not refused to a run that it is not beyond
pub none_refused : (setup : SetupFields) (n every : ℕ) (file : Option (List ℕ)) (text : List ℕ) (f : HoldFault)
    → IsHoldText setup n every file text → CanHold setup n every file → RefusesHold setup n every file f → ⊥
none_refused setup n every file text (fault.Beyond held) t can h =
    let same = one_beginning setup file can.image t.first h.first can.told t.goes_on h.goes_on in
    omega (arith, t.not_beyond, h.at, h.beyond, ap (λ (w : World). w.quanta) same)
none_refused setup n every file text (fault.TooLarge quantum bytes) t can h =
    let quanta = held_quanta every h.first.quanta n in
    let small = small_there h.first quanta h.place quantum h.there (can.small h.first h.goes_on) in
    omega (arith, small, h.bytes_are, h.large)
none_refused setup n every file text fault.NotAHold t can h =
    held_not_wrong setup can.image t.goes_on.held fault.NotAHold
    (at_file file (HoldsState setup t.goes_on.held) can.image can.told t.goes_on.read)
    (at_file file (λ image. HoldSays image setup (Err fault.NotAHold)) can.image can.told h)
none_refused setup n every file text fault.Foreign t can h =
    held_not_wrong setup can.image t.goes_on.held fault.Foreign
    (at_file file (HoldsState setup t.goes_on.held) can.image can.told t.goes_on.read)
    (at_file file (λ image. HoldSays image setup (Err fault.Foreign)) can.image can.told h)
none_refused setup n every file text (fault.Damaged frame) t can h =
    held_not_wrong setup can.image t.goes_on.held (fault.Damaged frame)
    (at_file file (HoldsState setup t.goes_on.held) can.image can.told t.goes_on.read)
    (at_file file (λ image. HoldSays image setup (Err (fault.Damaged frame))) can.image can.told h)

-- a file that is refused before a state was appended is not fresh
pub not_fresh : (setup : SetupFields) (n every : ℕ) (image : List ℕ) (f : HoldFault) → IsEarly f
    → RefusesHold setup n every (Some image) f → IsFresh title image → ⊥
not_fresh setup n every image (fault.Beyond held) early h fresh =
    let none : h.goes_on.held ≡ None = one_held setup image h.goes_on.held None h.goes_on.read (inl fresh) in
    let begins : h.first ≡ start setup = subst (λ (o : Option (List ℕ)). IsFirst setup o h.first) none h.goes_on.is_first in
    omega (arith, h.at, h.beyond, ap (λ (w : World). w.quanta) begins, start-quanta setup)
not_fresh setup n every image (fault.TooLarge quantum bytes) early h fresh = early
not_fresh setup n every image fault.NotAHold early h fresh = held_not_wrong setup image None fault.NotAHold (inl fresh) h
not_fresh setup n every image fault.Foreign early h fresh = held_not_wrong setup image None fault.Foreign (inl fresh) h
not_fresh setup n every image (fault.Damaged frame) early h fresh = held_not_wrong setup image None (fault.Damaged frame) (inl fresh) h

-- and a run that it is not beyond does not go on from it
pub goes_on_no_further : (setup : SetupFields) (n every : ℕ) (image : List ℕ) (first : World) (f : HoldFault) → IsEarly f
    → GoesOnFrom setup (Some image) first → first.quanta ≤ n → RefusesHold setup n every (Some image) f → ⊥
goes_on_no_further setup n every image first (fault.Beyond held) early goes within h =
    let same = one_beginning setup (Some image) image first h.first refl goes h.goes_on in
    omega (arith, within, h.at, h.beyond, ap (λ (w : World). w.quanta) same)
goes_on_no_further setup n every image first (fault.TooLarge quantum bytes) early goes within h = early
goes_on_no_further setup n every image first fault.NotAHold early goes within h = held_not_wrong setup image goes.held fault.NotAHold goes.read h
goes_on_no_further setup n every image first fault.Foreign early goes within h = held_not_wrong setup image goes.held fault.Foreign goes.read h
goes_on_no_further setup n every image first (fault.Damaged frame) early goes within h =
    held_not_wrong setup image goes.held (fault.Damaged frame) goes.read h
