-- The free list of a world is the only list of runs that has just its free cells.
use Rattle.std.proofs.Common.{sym}
use Rattle.std.specs.Prelude.{not}
use Rattle.tierra_model.specs.Room.{is_owned}
use Rattle.tierra_model.proofs.Free.{runs_of_in}
use Rattle.block_alloc.specs.FreeLists.{FreeListIsExact}
use Rattle.block_alloc.proofs.Only.{runs_of-only}
use Rattle.block_alloc.proofs.Owned.{runs_of-apart}

pub free_list-exact : FreeListIsExact
free_list-exact w =
    record {
      has = record {
        apart = runs_of-apart w.settings.soup_size (λ p. not (is_owned w.living p));
        cells = runs_of_in w.settings.soup_size (λ p. not (is_owned w.living p));
      };
      only = λ runs h. sym (runs_of-only w.settings.soup_size (λ p. not (is_owned w.living p)) runs h.apart (λ q l m. sym (h.cells q m)));
    }
