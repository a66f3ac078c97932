-- A sound world that is turned ahead is sound, with the creature at the front.
use Rattle.std.proofs.Common.{◌≡◌, ℕ, ◌+◌, ◌<◌, List, [], ◌∷◌, ◌++◌, ap, arith, inl, inr}
use Rattle.std.specs.Prelude.{◌==◌}
use Rattle.std.proofs.lemmas.Bool.Decides.{eqb_tells}
use Rattle.tierra_model.specs.Counting.{one_if, times_in}
use Rattle.tierra_model.specs.World.{first_of}
use Rattle.tierra_model.specs.Reads.{turned_to}
use Rattle.tierra_model.specs.Laws.{AheadIsSound}
use Rattle.tierra_model.proofs.Owners.{times_in-append}

times_in-turned : (id : ℕ) (seen ids : List ℕ) (k : ℕ) → times_in (turned_to id seen ids) k ≡ times_in seen k + times_in ids k
times_in-turned id seen [] k = omega arith
times_in-turned id seen (x ∷ xs) k = elim (eqb_tells x id) [
  | inl e ↦ rw (e.0) (omega (arith, times_in-append (x ∷ xs) seen k))
  | inr e ↦ rw (e.0) (omega (arith, times_in-turned id (seen ++ x ∷ []) xs k, times_in-append seen (x ∷ []) k))
]

first-turned : (id : ℕ) (seen ids : List ℕ) → 0 < times_in ids id → first_of (turned_to id seen ids) ≡ id
first-turned id seen [] h = absurd (omega arith)
first-turned id seen (x ∷ xs) h = elim (eqb_tells x id) [
  | inl e ↦ rw (e.0) e.1
  | inr e ↦ rw (e.0) (first-turned id (seen ++ x ∷ []) xs (let none : one_if (x == id) ≡ 0 = ap one_if e.0 in omega arith))
]

pub ahead_is_sound : AheadIsSound
ahead_is_sound w q id s after most here =
    record {
      sound = record {
        cells = s.cells;
        codes = s.codes;
        some = s.some;
        ordered = s.ordered;
        once = s.once;
        slicer = λ k. (let t = times_in-turned id [] w.slicer k in let o = s.slicer k in omega arith);
        reaper = s.reaper;
        placed = s.placed;
        apart = s.apart;
        processor = s.processor;
        genotype = s.genotype;
        numbers = s.numbers;
        births = s.births;
        genotype_count = s.genotype_count;
        living_and_dead = s.living_and_dead;
        quanta = omega arith;
        next_birth = omega (arith, s.next_birth);
        small = λ k c h. (let m = s.small k c h in (omega (arith, m.0), omega (arith, m.1), omega (arith, m.2), omega (arith, m.3)));
        coded_once = s.coded_once;
        written = s.written;
        parents = s.parents;
        totals = λ k g h. (let t = s.totals k g h in omega arith);
        efforts = s.efforts;
        saved = s.saved;
        rising = s.rising;
        past = λ k x h. (let p = s.past k x h in omega arith);
        saved_efforts = s.saved_efforts;
        sizes = s.sizes;
      };
      front = first-turned id [] w.slicer here;
    }
