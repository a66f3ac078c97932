-- Worked examples, computed: the genebank of three ancestors, and a legal history.
use Rattle.std.proofs.Common.{◌≡◌, ℕ, zero, suc, lit≤, List, [], ◌∷◌, refl, sym, ◌∙◌, ap, inr}
use Rattle.std.specs.Prelude.{Some, None, map, slice_set}
use Rattle.tierra_model.specs.declared.genebank.Saved.{Saved}
use Rattle.tierra_model.specs.declared.history.Entry.{Entry}
use Rattle.tierra_model.specs.declared.history.How.TheVariants as how
use Rattle.tierra_model.specs.declared.genebank.Form.TheVariants as form
use Rattle.tierra_model.specs.Legal.{IsLegal}
use Rattle.tierra_model.specs.Serial.{serial}
use Rattle.tierra_model.specs.Groups.{GroupFields}
use Rattle.tierra_model.specs.Genebank.{bank, groups_of, groups_from, in_form_one, GroupsFit}
use Rattle.tierra_model.proofs.BankIsGroups.{bank_is_groups}
use Rattle.tierra_model.proofs.Computing.{quanta}
use Rattle.tierra_model.proofs.Examples.{ancestor, late, soon, three, two, is_setup}

abbrev pub group_of_one : ℕ → ℕ → List ℕ → GroupFields
group_of_one quantum rank code =
    record {
      quantum = quantum;
      form = form.Two;
      saved = (record {
        name = record { size = 80; rank = rank };
        parent = None;
        first = Some (record { ran = 839; moved = 80 });
        second = None;
        code = code;
      }) ∷ [];
    }

pub three-groups : groups_of (serial three 102)
    ≡ group_of_one 100 0 ancestor ∷ group_of_one 101 1 (slice_set ancestor 79 8) ∷ group_of_one 102 2 (slice_set ancestor 79 10) ∷ []
unfolding quanta
three-groups = refl

pub three-from : groups_from (serial three 102) 2 ≡ group_of_one 102 2 (slice_set ancestor 79 10) ∷ []
unfolding quanta
three-from = refl

pub late-groups : groups_of (serial late 100)
    ≡ (record {
      quantum = 100;
      form = form.Two;
      saved = (record {
        name = record { size = 80; rank = 0 };
        parent = None;
        first = Some (record { ran = 839; moved = 80 });
        second = Some (record { ran = 813; moved = 80 });
        code = ancestor;
      }) ∷ [];
    }) ∷ []
unfolding quanta
late-groups = refl

abbrev pub soon_saved : ℕ → List ℕ → Saved
soon_saved size code = record { name = record { size = size; rank = 0 }; parent = None; first = None; second = None; code = code }

pub soon-none : bank soon 0 ≡ []
unfolding bank
soon-none = refl

pub soon-bank : bank soon 3 ≡ (record { quantum = 0; form = form.Two; saved = soon_saved 2 (9 ∷ 26 ∷ []) ∷ soon_saved 5 (1 ∷ 1 ∷ 1 ∷ 1 ∷ 1 ∷ []) ∷ [] }) ∷ []
unfolding bank quanta
soon-bank = refl

pub soon-fits : GroupsFit (map in_form_one (bank soon 1)) (bank soon 1)
unfolding bank quanta
soon-fits = (inr refl, tt)

-- ---- a history

abbrev first_entry : Entry
first_entry = record { quantum = 1; creature = 1; by = 1; how = how.Fresh }

abbrev second_entry : Entry
second_entry = record { quantum = 2; creature = 2; by = 3; how = how.Missing }

pub two-legal : IsLegal (first_entry ∷ second_entry ∷ []) two
unfolding quanta
two-legal zero e h = (let s : first_entry ≡ e = cc in (ap (λ (x : Entry). x.quantum) (sym s), ap (λ (x : Entry). x.creature) (sym s)))
two-legal (suc zero) e h = (let s : second_entry ≡ e = cc in (ap (λ (x : Entry). x.quantum) (sym s), ap (λ (x : Entry). x.creature) (sym s)))
two-legal (suc (suc i)) e h = cc

-- ---- the genebank of the three ancestors

pub three-bank : bank three 103
    ≡ group_of_one 100 0 ancestor ∷ group_of_one 101 1 (slice_set ancestor 79 8) ∷ group_of_one 102 2 (slice_set ancestor 79 10) ∷ []
three-bank = sym (bank_is_groups three 102 (is_setup three (lit≤ tt) refl) (lit≤ tt)) ∙ three-groups
