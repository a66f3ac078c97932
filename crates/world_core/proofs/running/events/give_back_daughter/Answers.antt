use Rattle.std.proofs.Common.{◌∙◌, ap}
use Rattle.std.specs.Prelude.{Option}
use Rattle.tierra_model.specs.declared.creatures.Block.{Block}
use Rattle.tierra_model.specs.Blocks.{is_in_daughter}
use Rattle.world_core.proofs.running.events.give_back_daughter.Goals as goal

pub give_back-requires-clause-within : goal.give_back-requires-clause-within
give_back-requires-clause-within c p h = c.requires.within p (ap (λ (o : Option Block). is_in_daughter o p) c.in-Some.is ∙ h)
