use Rattle.tierra_model.proofs.SceneAlone.{scene_alone}
use Rattle.tierra_model.proofs.laws.scene_alone.Goals as goal

pub returns : goal.returns
returns c = scene_alone
