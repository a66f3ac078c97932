use Rattle.std.proofs.Common.{◌≡◌, ◌∙◌, ◌<◌, ◌≤◌, ℕ, ap, arith, get_or, length, map, subst, sym}
use Rattle.std.proofs.lemmas.Grind.{common_steps}
use Rattle.std.proofs.lemmas.List.{get_or-map, length-map}
use Rattle.toml.specs.View.{table_view}
use Rattle.soup_file.specs.declared.fault.FileFault.{FileFault}
use Rattle.soup_file.proofs.InOrder.{read-all, read-fault, read-more}
use Rattle.soup_file.proofs.creatures.read_creatures.Goals as goal
use Rattle.soup_file.proofs.creatures.read_creatures.Goals.{After-add_creature}

-- the table is one of them
within : (c : After-add_creature) → c.loop-table.table-index < length (map (λ t. table_view t.now) c.args.tables.now)
within c = subst (λ (n : ℕ). c.loop-table.table-index < n) (sym (length-map c.args.tables.now (λ t. table_view t.now))) c.loop-table-test.true

there : (c : After-add_creature)
    → table_view c.table-item.result.now ≡ get_or (map (λ t. table_view t.now) c.args.tables.now) c.loop-table.table-index (table_view c.table-item.result.now)
there c =
    ap (λ t. table_view t.now) c.table-item.is
    ∙ sym (get_or-map (λ t. table_view t.now) c.args.tables.now c.loop-table.table-index c.table-item.result (table_view c.table-item.result.now)
    c.loop-table-test.true)

pub returns-in_err-add_creature-clause-fault : goal.returns-in_err-add_creature-clause-fault
returns-in_err-add_creature-clause-fault c =
    let at = (goal.at.returns-in_err-add_creature-clause-fault c).After-add_creature in
    let l = within at in
    let e = there at in
    let up = λ (f : FileFault). read-fault c.args.soup_size (map (λ t. table_view t.now) c.args.tables.now) c.loop-table.table-index c.loop-table.items.items
    (table_view c.table-item.result.now) f l e c.loop-table.invariant in
    grind (arith, common_steps, up)

pub loop-table-preserved : goal.loop-table-preserved
loop-table-preserved c =
    let at = (goal.at.loop-table-preserved c).After-add_creature in
    let added = c.in_ok-add_creature.ensures.added in
    read-more c.args.soup_size (map (λ t. table_view t.now) c.args.tables.now) c.loop-table.table-index c.loop-table.items.items
    c.add_creature.new.creatures.items (table_view c.table-item.result.now) added.0 (within at) (there at) c.loop-table.invariant added.1
    c.in_ok-add_creature.ensures.apart added.2 c.in_ok-add_creature.ensures.passed

pub returns-clause-creatures : goal.returns-clause-creatures
returns-clause-creatures c =
    let all = subst (λ (n : ℕ). n ≤ c.loop-table.table-index) (sym (length-map c.args.tables.now (λ t. table_view t.now))) c.loop-table-test.false in
    (read-all c.args.soup_size (map (λ t. table_view t.now) c.args.tables.now) c.loop-table.table-index c.loop-table.items.items all c.loop-table.invariant).0

pub returns-clause-passed : goal.returns-clause-passed
returns-clause-passed c =
    let all = subst (λ (n : ℕ). n ≤ c.loop-table.table-index) (sym (length-map c.args.tables.now (λ t. table_view t.now))) c.loop-table-test.false in
    (read-all c.args.soup_size (map (λ t. table_view t.now) c.args.tables.now) c.loop-table.table-index c.loop-table.items.items all c.loop-table.invariant).1
