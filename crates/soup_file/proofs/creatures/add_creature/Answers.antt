use Rattle.std.proofs.Common.{◌≡◌, ◌∙◌, ◌+◌, ◌<◌, ◌≤◌, ◌^◌, ℕ, Some, None, ap, arith, inr, length, map, rules, subst, sym}
use Rattle.std.specs.Prelude.{position}
use Rattle.std.proofs.lemmas.Grind.{common_steps}
use Rattle.std.proofs.lemmas.List.Quantifiers.{position-Some}
use Rattle.toml.specs.View.{table_view}
use Rattle.soup_file.specs.declared.fault.FileFault.TheVariants.{Overlap}
use Rattle.soup_file.specs.Keys.{first_fault}
use Rattle.soup_file.specs.Creatures.{LieApart, creature_checks, share_a_cell}
use Rattle.soup_file.proofs.Apart.{apart-few, apart-push}
use Rattle.soup_file.proofs.InOrder.{faults-alone, overlaps, passes-all}
use Rattle.soup_file.proofs.creatures.add_creature.Goals as goal
use Rattle.soup_file.proofs.creatures.add_creature.Goals.{After-len, In-Some, In_default}

pub overflow_cast-number : goal.overflow_cast-number
overflow_cast-number c =
    let few : length c.args.creatures.now.items ≤ c.args.soup_size = apart-few c.args.soup_size c.args.creatures.now.items c.requires.apart in
    let below : length c.args.creatures.now.items < 2 ^ 32 = omega arith in
    search rules

pub overflow_add-number : goal.overflow_add-number
overflow_add-number c =
    let few : length c.args.creatures.now.items ≤ c.args.soup_size = apart-few c.args.soup_size c.args.creatures.now.items c.requires.apart in
    let below : length c.args.creatures.now.items + 1 < 2 ^ 32 = omega arith in
    search rules

counted : (c : After-len) → c.len.result ≡ length c.args.creatures.now.items
counted c = search rules

pub returns-in_err-creature-clause-fault : goal.returns-in_err-creature-clause-fault
returns-in_err-creature-clause-fault c =
    let up = faults-alone c.args.soup_size (c.len.result + 1) c.args.creatures.now.items (table_view c.args.table.now) in
    let count = counted ((goal.at.returns-in_err-creature-clause-fault c).After-len) in
    grind (arith, common_steps, up, count)

-- there is one that shares a cell
found : (c : In-Some) → position (λ d. share_a_cell d c.in_ok-creature.creature) c.args.creatures.now.items ≡ Some c.in-Some.place
found c =
    ap (position (λ d. share_a_cell d c.in_ok-creature.creature)) (sym c.as_slice.ensures.value) ∙ sym c.first_sharing.ensures ∙ c.in-Some.is

before : (c : In-Some) → c.in-Some.place < length c.args.creatures.now.items
before c = (position-Some (λ d. share_a_cell d c.in_ok-creature.creature) c.args.creatures.now.items c.in-Some.place c.in_ok-creature.creature (found c)).0

pub overflow_cast-result : goal.overflow_cast-result
overflow_cast-result c =
    let few : length c.args.creatures.now.items ≤ c.args.soup_size = apart-few c.args.soup_size c.args.creatures.now.items c.requires.apart in
    let there = before c in
    let below : c.in-Some.place < 2 ^ 32 = omega arith in
    search rules

pub overflow_add-result : goal.overflow_add-result
overflow_add-result c =
    let few : length c.args.creatures.now.items ≤ c.args.soup_size = apart-few c.args.soup_size c.args.creatures.now.items c.requires.apart in
    let there = before c in
    let below : c.in-Some.place + 1 < 2 ^ 32 = omega arith in
    search rules

pub returns-in-Some-clause-fault : goal.returns-in-Some-clause-fault
returns-in-Some-clause-fault c =
    inr
    (subst
    (λ (n : ℕ). first_fault (creature_checks c.args.soup_size (map Some c.args.creatures.now.items) (n + 1, table_view c.args.table.now))
    ≡ Some (Overlap (c.in-Some.place + 1) (c.len.result + 1)))
    (counted ((goal.at.returns-in-Some-clause-fault c).After-len))
    (overlaps c.args.soup_size (c.len.result + 1) c.in-Some.place c.args.creatures.now.items (table_view c.args.table.now) c.in_ok-creature.creature
    c.in_ok-creature.ensures.passed c.in_ok-creature.ensures.creature (found ((goal.at.returns-in-Some-clause-fault c).In-Some))))

-- there is none
alone : (c : In_default) → position (λ d. share_a_cell d c.in_ok-creature.creature) c.args.creatures.now.items ≡ None
alone c =
    ap (position (λ d. share_a_cell d c.in_ok-creature.creature)) (sym c.as_slice.ensures.value) ∙ sym c.first_sharing.ensures ∙ c.in_default.is

pub returns-clause-apart : goal.returns-clause-apart
returns-clause-apart c =
    subst (LieApart c.args.soup_size) (sym c.in_ok-push.ensures.items)
    (apart-push c.args.soup_size c.args.creatures.now.items c.in_ok-creature.creature c.requires.apart c.in_ok-creature.ensures.code
    c.in_ok-creature.ensures.placed (alone ((goal.at.returns-clause-apart c).In_default)))

pub returns-clause-passed : goal.returns-clause-passed
returns-clause-passed c =
    subst
    (λ (n : ℕ). first_fault (creature_checks c.args.soup_size (map Some c.args.creatures.now.items) (n + 1, table_view c.args.table.now)) ≡ None)
    (counted ((goal.at.returns-clause-passed c).After-len))
    (passes-all c.args.soup_size (c.len.result + 1) c.args.creatures.now.items (table_view c.args.table.now) c.in_ok-creature.creature
    c.in_ok-creature.ensures.passed c.in_ok-creature.ensures.creature (alone ((goal.at.returns-clause-passed c).In_default)))
