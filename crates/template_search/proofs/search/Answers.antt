use Rattle.std.proofs.Common.{arith}
use Rattle.template_search.proofs.Searching.{is_short, is_tried}
use Rattle.template_search.proofs.search.Goals as goal

pub returns-then-template-min-clause-passes : goal.returns-then-template-min-clause-passes
returns-then-template-min-clause-passes g c =
    rw (← c.size-size.ensures)
    (is_short _ _ _ _ _ _ _ _ _ _ _ c.next_place.ensures.next c.read_template-template.ensures.passes (omega (arith, c.read_template-template.ensures.len)))

pub returns-in-Some-clause-passes : goal.returns-in-Some-clause-passes
returns-in-Some-clause-passes g c =
    rw (← c.size-size.ensures, c.place_at.ensures.place, ← c.read_template-template.ensures.len)
    (is_tried _ _ _ _ _ _ _ _ _ _ _ c.next_place.ensures.next c.read_template-template.ensures.passes _ _ (omega (arith, c.read_template-template.ensures.len))
    c.in-Some.ensures.passes)

pub returns-in-None-clause-passes : goal.returns-in-None-clause-passes
returns-in-None-clause-passes g c =
    rw (← c.size-size.ensures)
    (is_tried _ _ _ _ _ _ _ _ _ _ _ c.next_place.ensures.next c.read_template-template.ensures.passes _ _ (omega (arith, c.read_template-template.ensures.len))
    c.in-None.ensures.passes)
