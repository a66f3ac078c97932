-- As many are in the slicer queue of a sound world as live.
use Rattle.std.proofs.Common.{◌≡◌, length}
use Rattle.tierra_model.specs.World.{World}
use Rattle.tierra_model.specs.Sound.{IsSound}
use Rattle.tierra_model.proofs.DisturbanceCounts.{length-reaper}

-- the law of the reaper queue, in the world whose reaper queue is the slicer queue
pub length-slicer : (w : World) → IsSound w → length w.slicer ≡ length w.living
length-slicer w s =
    length-reaper (record w { reaper = w.slicer }) (record {
      cells = s.cells;
      codes = s.codes;
      some = s.some;
      ordered = s.ordered;
      once = s.once;
      slicer = s.slicer;
      reaper = s.slicer;
      placed = s.placed;
      apart = s.apart;
      processor = s.processor;
      genotype = s.genotype;
      numbers = s.numbers;
      births = s.births;
      genotype_count = s.genotype_count;
      living_and_dead = s.living_and_dead;
      quanta = s.quanta;
      next_birth = s.next_birth;
      small = s.small;
      coded_once = s.coded_once;
      written = s.written;
      parents = s.parents;
      totals = s.totals;
      efforts = s.efforts;
      saved = s.saved;
      rising = s.rising;
      past = s.past;
      saved_efforts = s.saved_efforts;
      sizes = s.sizes;
    })
