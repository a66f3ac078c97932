use Rattle.std.proofs.Common.{◌≡◌, ◌∙◌, ap, arith, sym}
use Rattle.std.proofs.lemmas.Result.{err_from_is_err_and}
use Rattle.tierra_model.specs.Counting.{times_in}
use Rattle.tierra_model.specs.Living.{ids_of}
use Rattle.byte_fields.specs.declared.stop.Stop.TheVariants as stop
use Rattle.world_state.proofs.LineOrder.{times-permuted}
use Rattle.world_state.proofs.Told.{draft_is, none_told}
use Rattle.world_state.proofs.TypesFit.{types-fit}
use Rattle.world_state.proofs.draft.draft_of.Goals as goal

pub returns-in_err-parts-clause-none : goal.returns-in_err-parts-clause-none
returns-in_err-parts-clause-none c = λ same w are.
    let p = err_from_is_err_and c.from_residual.result c.from_residual.ensures.1 in
    let stopped : c.in_err-parts.field-0.0 ≡ stop.Malformed = cc (p.1, p.2, same) in
    none_told c.args.settings.now c.args.bytes.now c.in_err-parts.field-0.0 c.in_err-parts.ensures stopped w are

pub invariant_of-result : goal.invariant_of-result
invariant_of-result c =
    let line = c.in_ok-parts.parts.line.items in
    let living = c.in_ok-living.living.items in (
      c.in_ok-living.ensures.order,
      λ id. ap (λ l. times_in l id) (c.in_ok-slicer.ensures ∙ ap ids_of c.deref.ensures.value)
          ∙ sym (times-permuted line living c.in_ok-living.ensures.same id),
    )

pub returns-clause-told : goal.returns-clause-told
returns-clause-told c =
    draft_is c.args.settings.now c.args.bytes.now _ _ c.in_ok-living.living.items c.in_ok-slicer.slicer.items c.in_ok-parts.ensures
    c.in_ok-living.ensures.same c.in_ok-living.ensures.order (c.in_ok-slicer.ensures ∙ ap ids_of c.deref.ensures.value)

pub returns-clause-fits : goal.returns-clause-fits
returns-clause-fits c =
    types-fit c.args.settings.now c.args.bytes.now _ _ c.in_ok-living.living.items c.in_ok-slicer.slicer.items
    (λ i. omega (arith, c.type_inv.bytes i)) c.in_ok-parts.ensures c.in_ok-living.ensures.same
