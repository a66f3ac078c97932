-- Which groups a hand has.
use Rattle.std.proofs.Common.{◌≡◌, ℕ, ◌+◌, ◌-◌, ◌≤◌, List, [], refl, sym, ◌∙◌, ap, arith, inl, inr, length, drop, length-append, length-drop}
use Rattle.std.specs.Prelude.{max}
use Rattle.std.proofs.lemmas.Bool.{cases_lt}
use Rattle.std.proofs.lemmas.List.{drop_all}
use Rattle.tierra_model.specs.declared.limits.TheConstants.{MOST_QUANTA}
use Rattle.tierra_model.specs.Groups.{GroupFields}
use Rattle.tierra_model.specs.Serial.{serial}
use Rattle.tierra_model.specs.Setups.{IsSetup, SetupFields}
use Rattle.crew.specs.Hand.{AreNext, HasGroups, HasGroupsOf, run_bank}
use Rattle.crew.proofs.Banks.{run_bank-more}
use Rattle.crew.proofs.Quiet.{none_saved, quiet}

grows : (setup : SetupFields) (m n : ℕ) → m ≤ n → length (run_bank setup m) ≤ length (run_bank setup n)
grows setup m n h =
    let more = run_bank-more setup m n h in
    omega (arith, ap length more.1, length-append (run_bank setup m) more.0)

-- where no more are saved, it has them all
pub none_waits : (setup : SetupFields) (n c kept done : ℕ) → IsSetup setup → c ≤ n → length (serial setup c).saved ≤ kept → HasGroupsOf setup n kept done
    → [] ≡ drop done (run_bank setup c)
none_waits setup n c kept done is few saved has = sym (drop_all done (run_bank setup c) (has is c few saved))

pub none_is_next : (setup : SetupFields) (n k : ℕ) → AreNext setup n k []
none_is_next setup n k = refl

-- with all groups of a quantum, it has those of all quanta with as many savings
pub has_of : (setup : SetupFields) (n c kept done : ℕ) → n ≤ MOST_QUANTA → c ≤ n → kept ≡ length (serial setup c).saved → HasGroups setup c done
    → HasGroupsOf setup n kept done
has_of setup n c kept done most few is has setup_is m within saved = elim (cases_lt c m) [
  | inl later ↦
      let e : c + (m - c) ≡ m = omega (arith, later) in
      let few_saved : length (serial setup (c + (m - c))).saved ≤ length (serial setup c).saved
      = omega (arith, saved, is, ap (λ (k : ℕ). length (serial setup k).saved) e) in
      let same : run_bank setup m ≡ run_bank setup c = ap (run_bank setup)
      (sym e) ∙ quiet setup c (m - c) setup_is (omega (arith, e, within, most)) few_saved in
      omega (arith, ap length same, has)
  | inr sooner ↦ omega (arith, grows setup m c sooner, has)
]

-- the groups from a place on are all that it lacked
pub all_groups : (setup : SetupFields) (c done : ℕ) (groups : List GroupFields) → groups ≡ drop done (run_bank setup c)
    → done + length groups ≡ max done (length (run_bank setup c))
all_groups setup c done groups is = omega (arith, ap length is, length-drop done (run_bank setup c))

pub has_all : (setup : SetupFields) (c done : ℕ) (groups : List GroupFields) → groups ≡ drop done (run_bank setup c) → HasGroups setup c (done + length groups)
has_all setup c done groups is = omega (arith, all_groups setup c done groups is)

-- more groups, or fewer savings, are no loss
pub has_still : (setup : SetupFields) (n kept saved done more : ℕ) → saved ≤ kept → HasGroupsOf setup n kept done → HasGroupsOf setup n saved (done + more)
has_still setup n kept saved done more less has is m within few = omega (arith, has is m within (omega (arith, few, less)))

-- while nothing is saved, no group is lacking
pub has_at_first : (setup : SetupFields) (n done : ℕ) → HasGroupsOf setup n 0 done
has_at_first setup n done is m within saved = omega (arith, ap length (none_saved setup m saved))
