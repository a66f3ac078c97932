-- How long a crew takes jobs, and what its workers do after that.
use Rattle.std.specs.Prelude.{Bool, if◌then◌else◌, length, max, min, not, ℕ, ◌*◌, ◌-◌, ◌/◌, ◌<◌, ◌==◌, ◌||◌}
use Rattle.tierra_model.specs.declared.parameters.Settings.{Settings}
use Rattle.tierra_model.specs.Quantum.{slice_of}
use Rattle.tierra_model.specs.Room.{filled, is_owned}
use Rattle.tierra_model.specs.World.{World}
use Rattle.commit_book.specs.Book.{BookFields, world_of}
use Rattle.crew.specs.declared.trial.Stay.{Stay}
use Rattle.crew.specs.declared.trial.Stay.TheVariants as stay
use Rattle.crew.specs.declared.trial.TheConstants.{MOST_DRAWERS, MOST_SHOWN, TRIAL_QUANTA}

-- the first quanta of a run go through jobs, fewer where each job shows many creatures
abbrev pub TakesJobs : ℕ → ℕ → Type 0
TakesJobs committed living = (committed < TRIAL_QUANTA) × (committed * living < MOST_SHOWN)

-- a worker stays at the book
abbrev pub Stays : Stay → BookFields → Type 0
Stays stay.ToTheEnd b = Unit {0}
Stays stay.ForTheTrial b = TakesJobs b.committed (length (world_of b).living)

-- ---- after the jobs

-- the slice of a creature of average size, where daughter blocks count to their mothers
abbrev pub mean_slice : World → ℕ
mean_slice w =
    slice_of (filled w.settings.soup_size (λ p. is_owned w.living p) / max (length w.living) 1) w.settings

-- something is left to chance: a rate is not 0
abbrev pub has_chance : Settings → Bool
has_chance s = not (s.back_rate == 0) || not (s.copy_rate == 0) || not (s.flaw_rate == 0)

-- the number of workers that only make draws: those above the second, and none where nothing is left to chance
abbrev pub number_of_drawers : ℕ → Settings → ℕ
number_of_drawers workers s = if has_chance s then min (workers - 2) MOST_DRAWERS else 0
