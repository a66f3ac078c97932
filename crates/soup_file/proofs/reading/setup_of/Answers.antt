use Rattle.std.proofs.Common.{◌∙◌, ◌⊎◌, Some, ap, arith, inl, inr, map, sym}
use Rattle.std.proofs.lemmas.Grind.{common_steps}
use Rattle.toml.specs.View.{table_view}
use Rattle.soup_file.specs.declared.fault.FileFault.{FileFault}
use Rattle.soup_file.specs.Creatures.{all_creature_checks, inocula_of}
use Rattle.soup_file.specs.Keys.{first_fault}
use Rattle.soup_file.proofs.WholeFile.{creature-there, creatures-checks, settings-fault, tables-fault}
use Rattle.soup_file.proofs.reading.setup_of.Goals as goal

or_fault : {A B C : Type 0} → (B → C) → A ⊎ B → A ⊎ C
or_fault f (inl a) = inl a
or_fault f (inr b) = inr (f b)

pub returns-in-Err-clause-fault : goal.returns-in-Err-clause-fault
returns-in-Err-clause-fault c =
    or_fault
    (λ e. settings-fault (table_view c.args.document.now) c.in-Err.fault c.in_ok-check_keys.ensures.passed c.in-Err.ensures.fault ∙ ap Some (sym e))
    c.in_file.ensures

pub returns-in_err-tables-clause-fault : goal.returns-in_err-tables-clause-fault
returns-in_err-tables-clause-fault c =
    let up = λ (f : FileFault). tables-fault (table_view c.args.document.now) f c.in_ok-check_keys.ensures.passed c.in-Ok.ensures.passed in
    grind (arith, common_steps, up)

pub returns-in_err-creatures-clause-fault : goal.returns-in_err-creatures-clause-fault
returns-in_err-creatures-clause-fault c =
    let same = creatures-checks (table_view c.args.document.now) c.in-Ok.settings.soup_size (map (λ t. table_view t.now) c.in_ok-tables.tables.items)
    c.in_ok-check_keys.ensures.passed c.in-Ok.ensures.passed c.in-Ok.ensures.settings.soup_size c.in_ok-tables.ensures.tables in
    let slice = ap (λ ts. first_fault (all_creature_checks c.in-Ok.settings.soup_size (map (λ t. table_view t.now) ts))) c.as_slice.ensures.value in
    grind (arith, common_steps, same, slice)

pub invariant_of-result : goal.invariant_of-result
invariant_of-result c =
    let inocula = c.in_ok-creatures.ensures.creatures
    ∙ ap (λ ts. inocula_of c.in-Ok.settings.soup_size (map (λ t. table_view t.now) ts)) c.as_slice.ensures.value in
    record {
      some = creature-there (table_view c.args.document.now) c.in-Ok.settings.soup_size (map (λ t. table_view t.now) c.in_ok-tables.tables.items)
          c.in_ok-creatures.creatures c.in_ok-tables.ensures.tables inocula;
      written = c.in_ok-creatures.ensures.apart.written;
      placed = c.in_ok-creatures.ensures.apart.placed;
      apart = c.in_ok-creatures.ensures.apart.apart;
    }

pub returns-clause-setup : goal.returns-clause-setup
returns-clause-setup c =
    let tables = map (λ t. table_view t.now) c.in_ok-tables.tables.items in
    record {
      creatures = tables;
      passes = creatures-checks (table_view c.args.document.now) c.in-Ok.settings.soup_size tables c.in_ok-check_keys.ensures.passed
          c.in-Ok.ensures.passed c.in-Ok.ensures.settings.soup_size c.in_ok-tables.ensures.tables
          ∙ ap (λ ts. first_fault (all_creature_checks c.in-Ok.settings.soup_size (map (λ t. table_view t.now) ts))) (sym c.as_slice.ensures.value)
          ∙ c.in_ok-creatures.ensures.passed;
      settings = c.in-Ok.ensures.settings;
      tables = c.in_ok-tables.ensures.tables;
      inocula = c.in_ok-creatures.ensures.creatures
          ∙ ap (λ ts. inocula_of c.in-Ok.settings.soup_size (map (λ t. table_view t.now) ts)) c.as_slice.ensures.value;
    }
