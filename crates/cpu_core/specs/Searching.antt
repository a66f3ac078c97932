-- Searches of instructions.
use Rattle.std.specs.Prelude.{ℕ}
use Rattle.tierra_model.specs.declared.creatures.Creature.{Creature}
use Rattle.tierra_model.specs.declared.parameters.Settings.{Settings}
use Rattle.tierra_model.specs.declared.searching.Found.{Found}
use Rattle.tierra_model.specs.declared.searching.Way.{Way}
use Rattle.tierra_model.specs.Look.{Look, ◌>>=◌}
use Rattle.tierra_model.specs.Search.{search_for}
use Rattle.tierra_model.specs.Step.{Outcome, to_found}

-- the search of the instruction at ip
abbrev pub search_by : Settings → ℕ → Way → Look Found
search_by s ip way = search_for s.soup_size ip way s.search_limit s.min_template

-- The record is go p if the search finds p; otherwise the instruction errs.
abbrev pub search_outcome : Settings → ℕ → Way → Creature → (ℕ → Creature) → Look Outcome
search_outcome s ip way c go = search_by s ip way >>= to_found c go
