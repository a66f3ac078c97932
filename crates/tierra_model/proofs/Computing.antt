-- What the worked examples unfold, so that they compute.
use Rattle.std.specs.Prelude.{⊤}
use Rattle.rand_chacha.specs.Block.{block_word, double_rounds, diagonal_round, quarter_round, column_round}
use Rattle.rand_core.specs.Steps.{u32_at}
use Rattle.tierra_model.specs.Ring.{address}
use Rattle.tierra_model.specs.Table.{op_of}
use Rattle.tierra_model.specs.Search.{template, is_complement, candidates, found_by, read_template, compare, try_each, search_from, search_for}
use Rattle.tierra_model.specs.Draw.{word}
use Rattle.tierra_model.specs.Quantum.{instruction, instructions, run, quantum}
use Rattle.tierra_model.specs.Step.{step}
use Rattle.tierra_model.specs.Individuals.{with_individual}
use Rattle.tierra_model.specs.Events.{apply_event}
use Rattle.tierra_model.specs.Serial.{start, serial}
use Rattle.tierra_model.specs.Scene.{scene_of, apply_in_scene}
use Rattle.tierra_model.specs.SceneRun.{with_noted_cell, run_in_scene}
use Rattle.tierra_model.specs.Log.{log_of}

unfoldable pub searches : ⊤
unfolding template is_complement candidates found_by read_template compare try_each search_from search_for
searches = tt

-- the quanta of a world, or its log
unfoldable pub quanta : ⊤
unfolding searches serial start quantum log_of run instructions instruction step apply_event op_of address with_individual
quanta = tt

-- the quanta of a scene
unfoldable pub scenes : ⊤
unfolding quanta scene_of run_in_scene with_noted_cell apply_in_scene
scenes = tt

-- the words of a seed
unfoldable pub draws : ⊤
unfolding word block_word double_rounds diagonal_round quarter_round column_round u32_at
draws = tt
