-- What a running world gives: the front, each creature once, and the ranges of the creature at the front.
use Rattle.std.proofs.Common.{◌≡◌, ℕ, ◌+◌, ◌∙◌, ◌^◌, ◌<◌, ◌≤◌, List, [], ◌∷◌, ap, arith, length, subst, sym}
use Rattle.std.proofs.lemmas.Bool.Decides.{nat_tests}
use Rattle.std.specs.Prelude.{All, IfSome, Option, Some, find, slice_index, ◌==◌}
use Rattle.tierra_model.specs.declared.creatures.Block.{Block}
use Rattle.tierra_model.specs.Ranges.{IsBlock}
use Rattle.tierra_model.proofs.Yards.{times_in-index}
use Rattle.tierra_model.specs.declared.parameters.Settings.{Settings}
use Rattle.tierra_model.specs.declared.creatures.Creature.{Creature}
use Rattle.tierra_model.specs.Counting.{times_in}
use Rattle.tierra_model.specs.Living.{ids_of, one_of}
use Rattle.tierra_model.specs.World.{World, first_of, front}
use Rattle.tierra_model.specs.Sound.{IsPlaced, IsSound, count_limit}
use Rattle.tierra_model.proofs.Owners.{is_here-times, times-is_here}
use Rattle.tierra_model.proofs.Each.{all_from_each, each-map, each-one, each_from_all}
use Rattle.tierra_model.proofs.Commutes.{HasFront, front-id}
use Rattle.tierra_model.proofs.EachOnce.{EachOnce}
use Rattle.tierra_model.proofs.Population.{InBounds}
use Rattle.tierra_model.proofs.WithinQuantum.{GenotypeBelow, WithinQuantum}
use Rattle.tierra_model.proofs.Sound.{within-start}
use Rattle.world_core.specs.Running.{IsRunning}

pub has_front : (w : World) → IsRunning w → HasFront w
has_front w r = record { line = r.line; here = is_here-times w.living (first_of w.slicer) r.here }

pub each_once : (w : World) → IsRunning w → EachOnce w
each_once w r = record { once = r.once; reaper = r.reaper; fresh = r.fresh; apart = r.apart }

-- what holds of each of the living holds of one that lives
pub of_one : (P : Creature → Type 0) (living : List Creature) (id : ℕ) → All P living → 0 < times_in (ids_of living) id → P (one_of living id)
of_one P living id all here = each-one P living id (is_here-times living id here) (each_from_all P living all)

pub front_placed : (w : World) → IsRunning w → IsPlaced w.settings.soup_size (front w)
front_placed w r = of_one (IsPlaced w.settings.soup_size) w.living (first_of w.slicer) r.placed r.here

pub front_small : (w : World) → IsRunning w → ((front w).errors < 2 ^ 60) × ((front w).bred < 2 ^ 60)
front_small w r = of_one (λ c. (c.errors < 2 ^ 60) × (c.bred < 2 ^ 60)) w.living (first_of w.slicer) r.small r.here

pub front_genotype : (w : World) → IsRunning w → (front w).genotype < length w.genotypes
front_genotype w r = of_one (λ c. c.genotype < length w.genotypes) w.living (first_of w.slicer) r.genotype r.here

pub front_is : (w : World) → IsRunning w → (front w).id ≡ first_of w.slicer
front_is w r = front-id w (has_front w r)

pub front_here : (w : World) → IsRunning w → 0 < times_in (ids_of w.living) (front w).id
front_here w r = subst (λ (id : ℕ). 0 < times_in (ids_of w.living) id) (sym (front_is w r)) r.here

pub front_queued : (w : World) → IsRunning w → 0 < times_in w.reaper (front w).id
front_queued w r = subst (λ (n : ℕ). 0 < n) (sym (r.reaper (front w).id)) (front_here w r)

-- ---- a world within its quantum runs

placed_from : (n e m : ℕ) (c : Creature) → InBounds n e m c → IsPlaced n c
placed_from n e m c b = record { own = b.own; daughter = b.daughter }

pub running-within : (s : Settings) (e m b z q : ℕ) (w : World) → WithinQuantum s e m b z q w → e < 2 ^ 60 → b < 2 ^ 60 → q ≤ 4000001 → IsRunning w
running-within s e m b z q w d few births past =
    let p = d.population in
    record {
      cells = p.cells ∙ sym p.size;
      codes = d.codes;
      line = p.has_front.line;
      here = times-is_here w.living (first_of w.slicer) p.has_front.here;
      once = p.each_once.once;
      slicer = p.slicer;
      reaper = p.each_once.reaper;
      fresh = p.each_once.fresh;
      placed = all_from_each (IsPlaced w.settings.soup_size) w.living
          (each-map (InBounds s.soup_size e m) (IsPlaced w.settings.soup_size)
          (λ c k. subst (λ (n : ℕ). IsPlaced n c) (sym p.size) (placed_from s.soup_size e m c k)) w.living p.each);
      apart = p.each_once.apart;
      genotype = all_from_each (GenotypeBelow (length w.genotypes)) w.living d.genotype;
      small = all_from_each (λ c. (c.errors < 2 ^ 60) × (c.bred < 2 ^ 60)) w.living
          (each-map (InBounds s.soup_size e m) (λ c. (c.errors < 2 ^ 60)
          × (c.bred < 2 ^ 60)) (λ c k. (omega (arith, k.errors), omega (arith, k.bred))) w.living p.each);
      written = d.listed.written;
      totals = λ k g h. omega (arith, d.listed.totals k g h);
      births = p.births;
      living_and_dead = p.count;
      next_birth = omega (arith, p.next_birth);
      quanta = omega (arith, d.number);
    }

pub running-sound : (w : World) → IsSound w → IsRunning w
running-sound w s =
    let past : w.quanta ≤ 4000000 = s.quanta in
    running-within w.settings (count_limit w.quanta) (count_limit w.quanta) (count_limit w.quanta) 0 (w.quanta + 1) w (within-start w s) (omega arith)
    (omega arith) (omega arith)

-- ---- a record that is the front's

pub one_front : (w : World) (x : Creature) → IsRunning w → x ≡ front w → one_of w.living x.id ≡ x
one_front w x r e = ap (one_of w.living) (ap (λ (c : Creature). c.id) e ∙ front_is w r) ∙ sym e

pub here_front : (w : World) (x : Creature) → IsRunning w → x ≡ front w → 0 < times_in (ids_of w.living) x.id
here_front w x r e = subst (λ (c : Creature). 0 < times_in (ids_of w.living) c.id) (sym e) (front_here w r)

pub queued_front : (w : World) (x : Creature) → IsRunning w → x ≡ front w → 0 < times_in w.reaper x.id
queued_front w x r e = subst (λ (c : Creature). 0 < times_in w.reaper c.id) (sym e) (front_queued w r)

pub small_front : (w : World) (x : Creature) → IsRunning w → x ≡ front w → (x.errors < 2 ^ 60) × (x.bred < 2 ^ 60)
small_front w x r e = subst (λ (c : Creature). (c.errors < 2 ^ 60) × (c.bred < 2 ^ 60)) (sym e) (front_small w r)

pub genotype_front : (w : World) (x : Creature) → IsRunning w → x ≡ front w → x.genotype < length w.genotypes
genotype_front w x r e = subst (λ (c : Creature). c.genotype < length w.genotypes) (sym e) (front_genotype w r)

pub placed_front : (w : World) (x : Creature) → IsRunning w → x ≡ front w → IsPlaced w.settings.soup_size x
placed_front w x r e = subst (IsPlaced w.settings.soup_size) (sym e) (front_placed w r)

-- the daughter block that is held
pub daughter_block : (n : ℕ) (x : Creature) (b : Block) → IsPlaced n x → x.daughter ≡ Some b → IsBlock n b
daughter_block n x b p e = subst (λ (o : Option Block). IfSome o (IsBlock n)) e p.daughter

-- ---- those in the reaper queue live

pub reaped_here : (w : World) (place : ℕ) → ((id : ℕ) → times_in w.reaper id ≡ times_in (ids_of w.living) id) → place < length w.reaper
    → 0 < times_in (ids_of w.living) (slice_index w.reaper place)
reaped_here w place same h = subst (λ (n : ℕ). 0 < n) (same (slice_index w.reaper place)) (times_in-index w.reaper place h)

-- who lives is found
pub found_one : (living : List Creature) (id : ℕ) → 0 < times_in (ids_of living) id → find (λ c. c.id == id) living ≡ Some (one_of living id)
found_one [] id h = absurd (omega arith)
found_one (x ∷ xs) id h = grind (arith, nat_tests, found_one xs id)

-- a record with the number of the front's
pub found_front : (w : World) (x : Creature) → IsRunning w → x.id ≡ (front w).id → one_of w.living x.id ≡ front w
found_front w x r e = ap (one_of w.living) (e ∙ front_is w r)
