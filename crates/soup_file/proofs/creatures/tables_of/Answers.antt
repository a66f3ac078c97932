use Rattle.std.proofs.Common.{◌∙◌, ◌⊎◌, ◌++◌, ◌∷◌, [], Some, ap, inl, inr, map, sym, take}
use Rattle.std.proofs.lemmas.List.{map_push, take_more}
use Rattle.toml.specs.View.{items_view, table_view}
use Rattle.soup_file.specs.Creatures.{tables_of}
use Rattle.soup_file.proofs.Tables.{tables_of-none, tables_of-push}
use Rattle.soup_file.proofs.creatures.tables_of.Goals as goal

beside : {A B C : Type 0} → C → A ⊎ B → A ⊎ (C × B)
beside c (inl a) = inl a
beside c (inr b) = inr (c, b)

pub returns-in_default-clause-fault : goal.returns-in_default-clause-fault
returns-in_default-clause-fault c =
    beside
    (ap (λ vs. tables_of (items_view vs)) (sym c.deref-item-items.ensures.value)
    ∙ tables_of-none c.deref-item-items.result.now c.loop-item.item-index c.item-item.result c.loop-item-test.true c.item-item.is
    (sym c.in_default.ensures))
    c.in_file.ensures

pub loop-item-preserved : goal.loop-item-preserved
loop-item-preserved c =
    let items = c.deref-item-items.result.now in
    let i = c.loop-item.item-index in
    ap (λ vs. tables_of (items_view vs))
    (take_more items i c.item-item.result c.loop-item-test.true ∙ ap (λ v. take i items ++ v ∷ []) (sym c.item-item.is))
    ∙ tables_of-push (take i items) c.item-item.result (map (λ t. table_view t.now) c.loop-item.tables.items) (table_view c.in-Some.table.now)
    c.loop-item.invariant (sym c.in-Some.ensures)
    ∙ ap Some (sym (map_push (λ t. table_view t.now) c.loop-item.tables.items c.in-Some.table))
    ∙ ap (λ ts. Some (map (λ t. table_view t.now) ts)) (sym c.in_ok-push.ensures.items)
