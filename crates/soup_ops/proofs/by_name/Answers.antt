use Rattle.std.proofs.Common.{rules, tests, ◌∙◌}
use Rattle.std.specs.Str.{bytes_eq}
use Rattle.std.proofs.lemmas.Iterator.{YieldsList-from_slice}
use Rattle.std.proofs.lemmas.Iterator.Search.{find_from_yields_List}
use Rattle.tierra_model.specs.Table.{ops}
use Rattle.soup_ops.specs.Names.{name_of}
use Rattle.soup_ops.proofs.Lookups.{find_none}
use Rattle.soup_ops.proofs.by_name.Goals as goal

pub returns-clause-unknown : goal.returns-clause-unknown
returns-clause-unknown c =
    let found = find_from_yields_List (λ op. bytes_eq (name_of op) c.args.word.now) _ _ c.find.result c.find.ensures.ran (YieldsList-from_slice ops cc)
    (λ x b q k. search (rules, tests)) in
    rw (c.copied.ensures ∙ found) (find_none (λ op. bytes_eq (name_of op) c.args.word.now) ops)
