use Rattle.std.proofs.Common.{◌∙◌, ap, arith, map, string_bytes, rules}
use Rattle.soup_words.specs.Table.{Row}
use Rattle.soup_words.proofs.Ranges.{order-in_range, workers-within}
use Rattle.soup_words.proofs.order.read_words.Goals as goal

pub overflow_cast-result : goal.overflow_cast-result
overflow_cast-result c =
    let value = rw (ap (λ (r : Row). r.workers) (c.row.view_is ∙ c.row_of-row.ensures)) at c.in_ok-value_of-2.ensures.value in
    omega (arith, workers-within c.in-Some-action_named.action _ c.in_ok-value_of-2.field-0 value)

pub returns-clause-in_range : goal.returns-clause-in_range
returns-clause-in_range c = order-in_range (map string_bytes c.args.words.now.items) _ (search rules)
