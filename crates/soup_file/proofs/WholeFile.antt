-- The checks of a document, one part after another.
use Rattle.std.proofs.Common.{◌≡◌, ◌∙◌, ℕ, ◌<◌, List, [], ◌∷◌, ◌++◌, Option, Some, None, Result, Ok, Err, ap, ap₂, length, map, option_map, subst, arith}
use Rattle.std.specs.List.{enumerate_from}
use Rattle.std.specs.Result.{result_err}
use Rattle.std.proofs.lemmas.List.{length-map}
use Rattle.std.proofs.lemmas.List.FromFn.{length-enumerate_from}
use Rattle.toml.specs.Data.{Data, Items, Members, as_array, get_member}
use Rattle.tierra_model.specs.declared.setups.Inoculum.{Inoculum}
use Rattle.soup_file.specs.declared.fault.FileFault.{FileFault}
use Rattle.soup_file.specs.declared.fault.FileFault.TheVariants.{NoCreature}
use Rattle.soup_file.specs.declared.key.Key.TheVariants.{Creature}
use Rattle.soup_file.specs.declared.key.KeyFault.{KeyFault}
use Rattle.soup_file.specs.Keys.{file_fault, first_fault, name_of, read_at, read_or, unknown_key}
use Rattle.soup_file.specs.Settings.{setting_checks, soup_size_of}
use Rattle.soup_file.specs.Creatures.{all_creature_checks, creature_tables, inocula_of, inoculum_of, some_tables, tables_from, tables_in, tables_of}
use Rattle.soup_file.specs.SoupFile.{checks_of, checks_of_tables, top_keys}
use Rattle.soup_file.proofs.Checks.{failed, failed-append, first_fault-map, passed, passed-append}

after_keys : (document : Members) → List (Option FileFault)
after_keys document =
    map (option_map file_fault) (setting_checks document)
    ++ result_err (creature_tables document)
    ∷ checks_of_tables (soup_size_of document) (creature_tables document)

pub settings-fault : (document : Members) (fault : KeyFault) → unknown_key [] top_keys document ≡ None → first_fault (setting_checks document) ≡ Some fault
    → first_fault (checks_of document) ≡ Some (file_fault fault)
unfolding checks_of after_keys
settings-fault document fault known e =
    passed (unknown_key [] top_keys document) (after_keys document) known
    ∙ failed-append (map (option_map file_fault) (setting_checks document))
    (result_err (creature_tables document) ∷ checks_of_tables (soup_size_of document) (creature_tables document)) (file_fault fault)
    (first_fault-map file_fault (setting_checks document) ∙ ap (option_map file_fault) e)

-- where the keys and the settings pass
after_settings : (document : Members) → unknown_key [] top_keys document ≡ None → first_fault (setting_checks document) ≡ None
    → first_fault (checks_of document) ≡ first_fault (result_err (creature_tables document)
    ∷ checks_of_tables (soup_size_of document) (creature_tables document))
unfolding checks_of after_keys
after_settings document known e =
    passed (unknown_key [] top_keys document) (after_keys document) known
    ∙ passed-append (map (option_map file_fault) (setting_checks document))
    (result_err (creature_tables document) ∷ checks_of_tables (soup_size_of document) (creature_tables document))
    (first_fault-map file_fault (setting_checks document) ∙ ap (option_map file_fault) e)

pub tables-fault : (document : Members) (fault : FileFault) → unknown_key [] top_keys document ≡ None → first_fault (setting_checks document) ≡ None
    → creature_tables document ≡ Err fault → first_fault (checks_of document) ≡ Some fault
tables-fault document fault known settings e =
    after_settings document known settings
    ∙ failed (result_err (creature_tables document)) (checks_of_tables (soup_size_of document) (creature_tables document)) fault (ap result_err e)

pub creatures-checks : (document : Members) (size : ℕ) (creatures : List Members) → unknown_key [] top_keys document ≡ None
    → first_fault (setting_checks document) ≡ None → soup_size_of document ≡ Ok size → creature_tables document ≡ Ok creatures
    → first_fault (checks_of document) ≡ first_fault (all_creature_checks size creatures)
creatures-checks document size creatures known settings s t =
    after_settings document known settings
    ∙ passed (result_err (creature_tables document)) (checks_of_tables (soup_size_of document) (creature_tables document)) (ap result_err t)
    ∙ ap₂ (λ (x : Result ℕ KeyFault) (y : Result (List Members) FileFault). first_fault (checks_of_tables x y)) s t

-- there is a creature
some-tables : (tables : Option (List Members)) (creatures : List Members) → some_tables tables ≡ Ok creatures → 0 < length creatures
some-tables None creatures e = absurd cc
some-tables (Some []) creatures e = absurd cc
some-tables (Some (t ∷ ts)) creatures e = let same : t ∷ ts ≡ creatures = cc in subst (λ xs. 0 < length xs) same (omega arith)

tables-from : (items : Option Items) (creatures : List Members) → tables_from items ≡ Ok creatures → 0 < length creatures
tables-from None creatures e = absurd cc
tables-from (Some items) creatures e = some-tables (tables_of items) creatures e

read-tables : (value : Option Data) (creatures : List Members) → read_or tables_in (Err NoCreature) value ≡ Ok creatures → 0 < length creatures
read-tables None creatures e = absurd cc
read-tables (Some value) creatures e = tables-from (as_array value) creatures e

tables-there : (document : Members) (creatures : List Members) → creature_tables document ≡ Ok creatures → 0 < length creatures
unfolding creature_tables read_at
tables-there document creatures e = read-tables (get_member (name_of Creature) document) creatures e

pub creature-there : (document : Members) (size : ℕ) (tables : List Members) (creatures : List Inoculum) → creature_tables document ≡ Ok tables
    → map Some creatures ≡ inocula_of size tables → 0 < length creatures
creature-there document size tables creatures t e =
    omega (
      arith,
      tables-there document tables t,
      length-map creatures Some,
      ap length e,
      length-map (enumerate_from 1 tables) (inoculum_of size),
      length-enumerate_from 1 tables,
    )
