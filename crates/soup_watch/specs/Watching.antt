-- What is told of a run that an observer watches.
use Rattle.std.specs.Prelude.{All, List, Some, length, ℕ, ◌++◌, ◌+◌, ◌≡◌}
use Rattle.report_text.specs.Report.{report}
use Rattle.tierra_model.specs.Serial.{serial}
use Rattle.tierra_model.specs.Setups.{SetupFields}
use Rattle.soup_watch.specs.declared.sight.Sight.{Sight}
use Rattle.soup_watch.specs.Seeing.{NeverFalls, last_of, sight_of}
use Rattle.soup_watch.specs.Text.{sights_text}

-- the sight is of the setup's world after some quantum
abbrev pub IsSightOf : SetupFields → Sight → Type 0
IsSightOf setup s = (m : ℕ) × (s ≡ sight_of (serial setup m))

-- The sights of `looks` looks at a run of n quanta, and last the sight of its end.
pub record AreSights (setup : SetupFields) (n looks : ℕ) (sights : List Sight) : Type 0 where
  pub count : length sights ≡ looks + 1
  pub each : All (IsSightOf setup) sights
  pub order : NeverFalls sights
  pub last : last_of sights ≡ Some (sight_of (serial setup n))

-- what is told: the sights, and then the report
abbrev pub IsWatchText : SetupFields → ℕ → ℕ → List ℕ → Type 0
IsWatchText setup n looks text =
    (sights : List Sight) × AreSights setup n looks sights × (text ≡ sights_text sights ++ report (serial setup n))
