-- What a hand is given, and what it answers.
use Rattle.std.specs.Prelude.{Err, List, Ok, Result, drop, length, take, ℕ, ◌+◌, ◌≡◌, ◌<◌, ◌≤◌}
use Rattle.tierra_model.specs.Genebank.{bank}
use Rattle.tierra_model.specs.Groups.{GroupFields}
use Rattle.tierra_model.specs.Serial.{serial}
use Rattle.tierra_model.specs.Setups.{IsSetup, SetupFields}
use Rattle.commit_book.specs.Book.{BookFields}
use Rattle.crew.specs.declared.hand.Next.{Next}
use Rattle.crew.specs.declared.hand.Next.TheVariants as next
use Rattle.crew.specs.declared.handing.Fresh.{Fresh}

abbrev pub OnGo : Next → Type 0 → Type 0
OnGo next.Go P = P
OnGo next.Halt P = Unit {0}

abbrev pub OnHalt : Next → Type 0 → Type 0
OnHalt next.Go P = Unit {0}
OnHalt next.Halt P = P

-- the genebank of a run of n quanta
abbrev pub run_bank : SetupFields → ℕ → List GroupFields
run_bank setup n = bank setup (n + 1)

-- the groups are the next ones of the run's genebank, from place k on
abbrev pub AreNext : SetupFields → ℕ → ℕ → List GroupFields → Type 0
AreNext setup n k groups = groups ≡ take (length groups) (drop k (run_bank setup n))

-- the hand has halted exactly where the answer is Halt
abbrev pub HaltsBy : Next → ℕ → Type 0
HaltsBy next.Go halts = halts ≡ 0
HaltsBy next.Halt halts = 0 < halts

-- the hand has all groups of the first n quanta
abbrev pub HasGroups : SetupFields → ℕ → ℕ → Type 0
HasGroups setup n done = length (run_bank setup n) ≤ done

-- the hand has all groups of those of the first n quanta by which no more than `kept` genotypes are saved
abbrev pub HasGroupsOf : SetupFields → ℕ → ℕ → ℕ → Type 0
HasGroupsOf setup n kept done =
    IsSetup setup → (m : ℕ) → m ≤ n → length (serial setup m).saved ≤ kept → HasGroups setup m done

-- what is taken out of the book for a hand that has k groups: those that it lacks, and how many genotypes are saved by
-- then
pub record IsFresh (b : BookFields) (k : ℕ) (fresh : Fresh) : Type 0 where
  pub groups : fresh.groups ≡ drop k (run_bank b.setup b.committed)
  pub next : AreNext b.setup b.quanta k fresh.groups
  pub saved : HasGroupsOf b.setup b.quanta fresh.saved (k + length fresh.groups)

-- it has halted exactly where the answer is Halt
abbrev pub HandsBy : {E : Type 0} → Result Next E → ℕ → Type 0
HandsBy (Ok next) halts = HaltsBy next halts
HandsBy (Err e) halts = halts ≡ 0

-- a hand of the run, which has not halted
pub record IsUnhalted (run : SetupFields × ℕ) (setup : SetupFields) (quanta done halts : ℕ)
    (Can : Type 0) : Type 0 where
  pub unhalted : halts ≡ 0
  pub run_is : run ≡ (setup, quanta)
  pub within : done ≤ length (run_bank setup quanta)
  pub can : Can

-- What holds of a hand once worker 1 has given it groups: `next` says whether it halted, and `later` that it is the
-- same hand at a later time.
pub record WasLed (next : Next) (old_setup new_setup : SetupFields) (old_quanta new_quanta new_done new_halts : ℕ)
    (Can Goes : Type 0) : Type 0 where
  pub setup : new_setup ≡ old_setup
  pub quanta : new_quanta ≡ old_quanta
  pub halts : HaltsBy next new_halts
  pub within : new_halts ≡ 0 → new_done ≤ length (run_bank new_setup new_quanta)
  pub can : new_halts ≡ 0 → Can
  pub later : Goes
