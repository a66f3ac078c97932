-- An instruction in a world does what follows from the soup as it is, since a look leaves nothing there.
use Rattle.std.proofs.Common.{◌≡◌, ap, refl}
use Rattle.std.specs.Prelude.{slice_index}
use Rattle.tierra_model.specs.declared.parameters.Settings.{Settings}
use Rattle.tierra_model.specs.Look.{Answer, Look, LookAt, answer}
use Rattle.tierra_model.specs.Step.{step}
use Rattle.tierra_model.specs.Quantum.{instruction, settle, walk, world_machine}
use Rattle.tierra_model.specs.World.{World, front}
use Rattle.tierra_model.specs.Laws.{InstructionIsPlain}

walk-plain : {A : Type 0} (s : Settings) (t : Look A) (w : World) → walk world_machine s t w ≡ (w, answer t (slice_index w.soup))
walk-plain s (Answer a) w = refl
walk-plain s (LookAt p next) w = walk-plain s (next (slice_index w.soup p)) w

pub instruction_is_plain : InstructionIsPlain
unfolding instruction
instruction_is_plain w draw i = ap (settle world_machine w.settings) (walk-plain w.settings (step w.settings draw i (front w)) w)
