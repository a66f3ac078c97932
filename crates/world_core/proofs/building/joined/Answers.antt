use Rattle.std.proofs.Common.{◌∙◌, List, ap, subst, sym}
use Rattle.std.specs.Prelude.{not}
use Rattle.tierra_model.specs.declared.creatures.Creature.{Creature}
use Rattle.tierra_model.specs.FreeList.{runs_of}
use Rattle.tierra_model.specs.Room.{is_owned}
use Rattle.tierra_model.specs.World.{World}
use Rattle.world_state.specs.contracts.draft.Draft.{the_view}
use Rattle.world_state.proofs.Joined.{world-from}
use Rattle.world_core.specs.Parts.{ArePartsOf}
use Rattle.world_core.specs.Running.{number_with}
use Rattle.world_core.proofs.building.joined.Goals as goal

pub of-requires-2 : goal.of-requires-2
of-requires-2 c =
    let are : ArePartsOf (the_view c.draft.inside) c.args.parts = subst (λ (w : World). ArePartsOf w c.args.parts) (sym c.draft.view_is) c.requires in
    let n = c.draft.inside.settings.soup_size in
    record {
      size = are.size;
      free = are.free ∙ ap (λ (l : List Creature). runs_of n (λ p. not (is_owned l p))) (sym are.living);
      counts = λ g. are.counts g ∙ ap (λ (l : List Creature). number_with l g) (sym are.living);
    }

pub returns : goal.returns
returns c =
    let are : ArePartsOf (the_view c.draft.inside) c.args.parts = subst (λ (w : World). ArePartsOf w c.args.parts) (sym c.draft.view_is) c.requires in
    let is = c.of-2.ensures in
    world-from c.of-2.result.world (the_view c.draft.inside) (ap (λ (w : World). w.settings) is) (ap (λ (w : World). w.soup) is ∙ are.soup)
    (ap (λ (w : World). w.living) is ∙ are.living) (ap (λ (w : World). w.slicer) is ∙ are.slicer) (ap (λ (w : World). w.reaper) is ∙ are.reaper)
    (ap (λ (w : World). w.genotypes) is ∙ c.of.ensures.genotypes ∙ are.genotypes) (ap (λ (w : World). w.saved) is ∙ c.of.ensures.saved)
    (ap (λ (w : World). w.births) is) (ap (λ (w : World). w.deaths) is) (ap (λ (w : World). w.next_birth) is) (ap (λ (w : World). w.quanta) is)
    ∙ c.draft.view_is
