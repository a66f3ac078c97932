use Rattle.std.proofs.Common.{◌∙◌, List, ap, sym}
use Rattle.tierra_model.specs.declared.creatures.Creature.{Creature}
use Rattle.std.specs.Prelude.{not}
use Rattle.tierra_model.specs.FreeList.{runs_of}
use Rattle.tierra_model.specs.Room.{is_owned}
use Rattle.world_core.specs.Running.{number_with}
use Rattle.world_core.proofs.running.Running.empty.Goals as goal

pub invariant_of-result : goal.invariant_of-result
invariant_of-result c =
    record {
      size = c.in_ok-new.ensures.size;
      free = c.in_ok-new.ensures.free ∙ ap (λ (l : List Creature). runs_of c.args.settings.now.soup_size (λ p. not (is_owned l p)))
          (sym c.new-3.ensures.living);
      counts = λ g. c.new-5.ensures g ∙ ap (λ (l : List Creature). number_with l g) (sym c.new-3.ensures.living);
    }
