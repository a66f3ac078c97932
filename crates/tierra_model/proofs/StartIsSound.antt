-- The world at the start is sound, and so is every world of a serial run.
use Rattle.std.proofs.Common.{◌≡◌, ℕ, zero, suc, ◌+◌, ◌*◌, ◌^◌, ◌<◌, ◌≤◌, false, List, [], ◌∷◌, ◌++◌, refl, sym, ◌∙◌, ap, subst, arith, length, take, drop}
use Rattle.std.proofs.Common.{length-append}
use Rattle.std.specs.Prelude.{None, All, ◌==◌, nat_le}
use Rattle.std.proofs.lemmas.List.{length-take, length-drop, length-replicate}
use Rattle.std.proofs.lemmas.Bool.Decides.{nat_tests}
use Rattle.std.proofs.lemmas.List.Elements.{All-nil, All-head, All-tail, All-append, All-take, All-drop, All-replicate}
use Rattle.tierra_model.specs.declared.setups.Inoculum.{Inoculum}
use Rattle.tierra_model.specs.declared.parameters.Settings.{Settings}
use Rattle.tierra_model.specs.declared.creatures.Block.{Block}
use Rattle.tierra_model.specs.declared.creatures.Creature.{Creature}
use Rattle.tierra_model.specs.Laws.{SerialIsSound}
use Rattle.tierra_model.specs.Counting.{sum_of, one_if, times_in}
use Rattle.tierra_model.specs.Ranges.{IsCode, IsBlock}
use Rattle.tierra_model.specs.Blocks.{is_in}
use Rattle.tierra_model.specs.Living.{newborn, ids_of}
use Rattle.tierra_model.specs.World.{World, Genotype}
use Rattle.tierra_model.specs.Sound.{IsSound, owners, owners_of, Ordered}
use Rattle.tierra_model.specs.Individuals.{with_individual, savings_after}
use Rattle.tierra_model.specs.Events.{with_creature}
use Rattle.tierra_model.specs.Setups.{SetupFields, IsSetup, block_of}
use Rattle.tierra_model.specs.Serial.{overwrite, empty_world, with_inocula, start, serial}
use Rattle.tierra_model.proofs.Owners.{ids_of-append, times_in-append, sum_of-append}
use Rattle.tierra_model.proofs.BirthOrder.{ordered-push}
use Rattle.tierra_model.proofs.EachOnce.{each_once-with_creature}
use Rattle.tierra_model.proofs.Population.{InBounds}
use Rattle.tierra_model.proofs.Each.{Each, all_from_each, each-map, each-append}
use Rattle.tierra_model.proofs.Genotypes.{Listed, Counts, with_individual-listed}
use Rattle.tierra_model.proofs.Savings.{Saves, saves-with_individual}
use Rattle.tierra_model.proofs.WithinQuantum.{IsCell, GenotypeBelow}
use Rattle.tierra_model.proofs.Sound.{sizes_below, all_born, quantum_is_sound}
use Rattle.tierra_model.proofs.SumOfSizes.{Lies, sizes_fit}

-- k creatures are in the world, whose genotypes weigh z at the most, and those of the list are still to come
record Inoculating (s : Settings) (k z : ℕ) (cs : List Inoculum) (w : World) : Type 0 where
  settings : w.settings ≡ s
  births : w.births ≡ 0
  deaths : w.deaths ≡ 0
  quanta : w.quanta ≡ 0
  living : length w.living ≡ k
  next_birth : w.next_birth ≡ k + 1
  cells : length w.soup ≡ s.soup_size
  codes : All IsCell w.soup
  once : (id : ℕ) → times_in (ids_of w.living) id ≤ 1
  slicer : (id : ℕ) → times_in w.slicer id ≡ times_in (ids_of w.living) id
  reaper : (id : ℕ) → times_in w.reaper id ≡ times_in (ids_of w.living) id
  fresh : (id : ℕ) → w.next_birth ≤ id → times_in (ids_of w.living) id ≡ 0
  order : Ordered 1 (ids_of w.living)
  zero : times_in (ids_of w.living) 0 ≡ 0
  apart : (p : ℕ) → owners w.living p + sum_of (λ c. one_if (is_in (block_of c) p)) cs ≤ 1
  each : Each (InBounds s.soup_size 0 0) w.living
  genotype : Each (GenotypeBelow (length w.genotypes)) w.living
  genotype_count : length w.genotypes ≤ k
  listed : Listed k w.genotypes
  saves : Saves 0 z s.save_at w.genotypes w.saved

length-overwrite : (xs : List ℕ) (at : ℕ) (ys : List ℕ) → at + length ys ≤ length xs → length (overwrite xs at ys) ≡ length xs
length-overwrite xs at ys h =
    omega (
      arith,
      length-append (take at xs ++ ys) (drop (at + length ys) xs),
      length-append (take at xs) ys,
      length-take at xs,
      length-drop (at + length ys)
          xs,
    )

inoculating-one : (s : Settings) (k z : ℕ) (c : Inoculum) (cs : List Inoculum) (w : World) → IsCode c.code → c.at + length c.code ≤ s.soup_size
    → Inoculating s k z (c ∷ cs) w
    → Inoculating s (k + 1) (z + (length c.code + 100)) cs
    (with_creature w.genotypes (block_of c) c.code None 0 (record w { soup = overwrite w.soup c.at c.code }))
inoculating-one s k z c cs w code lies d =
    let b : Block = block_of c in
    let n : ℕ = s.soup_size in
    let gs : List Genotype = (with_individual w.genotypes c.code None 0).0 in
    let j : ℕ = (with_individual w.genotypes c.code None 0).1 in
    let r : Listed (k + 1) gs × Counts c.code w.genotypes gs j = with_individual-listed k w.genotypes c.code None 0 code tt d.listed in
    let v : World = record w { soup = overwrite w.soup c.at c.code } in
    let nb : Creature = newborn w.next_birth b j in
    let t = each_once-with_creature w.genotypes b c.code None 0 v d.once d.reaper d.fresh in
    let ids : ids_of (w.living ++ nb ∷ []) ≡ ids_of w.living ++ w.next_birth ∷ [] = ids_of-append w.living (nb ∷ []) in
    let none : (w.next_birth == 0) ≡ false = nonzero w.next_birth (omega (arith, d.next_birth)) in
    let place : IsBlock n b = (code.0, code.1, lies) in
    let saves = saves-with_individual 0 z s.save_at w.genotypes gs c.code j w.saved r.1 r.0.efforts d.saves in
    record {
      settings = d.settings;
      births = d.births;
      deaths = d.deaths;
      quanta = d.quanta;
      living = omega (arith, length-append w.living (nb ∷ []), d.living);
      next_birth = omega (arith, d.next_birth);
      cells = length-overwrite w.soup c.at c.code (omega (arith, d.cells)) ∙ d.cells;
      codes = All-append IsCell (take c.at w.soup ++ c.code) (drop (c.at + length c.code) w.soup)
          (All-append IsCell (take c.at w.soup) c.code (All-take IsCell c.at w.soup d.codes) code.2) (All-drop IsCell (c.at + length c.code) w.soup d.codes);
      once = t.0;
      reaper = t.1;
      fresh = t.2;
      slicer = λ id. times_in-append w.slicer (w.next_birth ∷ []) id ∙ ap (λ (q : ℕ). q + times_in (w.next_birth ∷ []) id) (d.slicer id)
          ∙ sym (ap (λ (y : List ℕ). times_in y id) ids ∙ times_in-append (ids_of w.living) (w.next_birth ∷ []) id);
      order = subst (Ordered 1) (sym ids) (ordered-push 1 w.next_birth (ids_of w.living) (omega (arith, d.next_birth)) d.fresh d.order);
      zero = ap (λ (y : List ℕ). times_in y 0) ids ∙ times_in-append (ids_of w.living) (w.next_birth ∷ []) 0 ∙ omega (arith, d.zero, ap one_if none);
      apart = λ p. (let a = d.apart p in let o = sum_of-append (λ (x : Creature). owners_of x p) w.living (nb ∷ []) in omega arith);
      each = each-append (InBounds n 0 0) w.living (nb ∷ []) d.each (
        record {
          own = place;
          daughter = tt;
          ip = omega (arith, code.0, lies);
          sp = omega arith;
          errors = omega arith;
          moved = omega arith;
          ran = omega arith;
          bred = omega arith;
        },
        tt,
      );
      genotype = each-append (GenotypeBelow (length gs)) w.living (nb ∷ [])
          (each-map (GenotypeBelow (length w.genotypes)) (GenotypeBelow (length gs)) (λ y p. omega (arith, r.1.longer)) w.living d.genotype) (r.1.among, tt);
      genotype_count = omega (arith, r.1.few, d.genotype_count);
      listed = r.0;
      saves = subst (λ (t : Settings). Saves 0 (z + (length c.code + 100)) s.save_at gs (savings_after t.save_at gs j 0 w.saved)) (sym d.settings) saves;
    }
  where
    nonzero : (n : ℕ) → 0 < n → (n == 0) ≡ false
    nonzero n h = grind (arith, nat_tests)

abbrev weight : Inoculum → ℕ
weight c = length c.code + 100

abbrev IsWritten : Inoculum → Type 0
IsWritten c = IsCode c.code

inoculating-at : (s : Settings) (k z k' z' : ℕ) (cs : List Inoculum) (w : World) → k ≡ k' → z ≡ z' → Inoculating s k z cs w → Inoculating s k' z' cs w
inoculating-at s k z k' z' cs w h l d = subst (λ i. Inoculating s i z' cs w) h (subst (λ i. Inoculating s k i cs w) l d)

inoculating-all : (s : Settings) (k z : ℕ) (cs : List Inoculum) (w : World) → All IsWritten cs → All (Lies s.soup_size) cs → Inoculating s k z cs w
    → Inoculating s (k + length cs) (z + sum_of weight cs) [] (with_inocula cs w)
inoculating-all s k z [] w h l d = inoculating-at s k z (k + 0) (z + 0) [] w (omega arith) (omega arith) d
inoculating-all s k z (c ∷ cs) w h l d =
    let v : World = with_creature w.genotypes (block_of c) c.code None 0 (record w { soup = overwrite w.soup c.at c.code }) in
    let one = inoculating-one s k z c cs w (All-head IsWritten c cs h) (All-head (Lies s.soup_size) c cs l) d in
    inoculating-at s (k + 1 + length cs) (z + (length c.code + 100) + sum_of weight cs) (k + suc (length cs))
    (z + (length c.code + 100 + sum_of weight cs)) [] (with_inocula cs v)
    (omega arith) (omega arith)
    (inoculating-all s (k + 1) (z + (length c.code + 100)) cs v (All-tail IsWritten c cs h) (All-tail (Lies s.soup_size) c cs l) one)

inoculating-none : (s : Settings) (cs : List Inoculum) → ((p : ℕ) → sum_of (λ c. one_if (is_in (block_of c) p)) cs ≤ 1) → Inoculating s 0 0 cs (empty_world s)
inoculating-none s cs apart =
    record {
      settings = refl;
      births = refl;
      deaths = refl;
      quanta = refl;
      living = refl;
      next_birth = refl;
      cells = length-replicate s.soup_size 0;
      codes = All-replicate IsCell s.soup_size 0 (omega arith);
      once = λ id. omega arith;
      slicer = λ id. refl;
      reaper = λ id. refl;
      fresh = λ id h. refl;
      order = tt;
      zero = refl;
      apart = λ p. omega (arith, apart p);
      each = tt;
      genotype = tt;
      genotype_count = omega arith;
      listed = record { once = λ code. omega arith; written = All-nil _; parents = tt; totals = All-nil _; efforts = All-nil _ };
      saves = record {
        once = λ k. nothing s.save_at s.saving.0;
        known = All-nil _;
        rising = tt;
        past = All-nil _;
        efforts = All-nil _;
        sizes = λ p h. omega arith;
        size = omega arith;
      };
    }
  where
    nothing : (a : ℕ) → 1 ≤ a → 0 ≡ one_if (nat_le a 0)
    nothing a h = grind (arith, nat_tests)

-- each creature has a cell, so the weight is at most 101 cells each
weight_few : (cs : List Inoculum) → All IsWritten cs → (sum_of weight cs ≤ 101 * sum_of (λ c. length c.code) cs) × (length cs ≤ sum_of (λ c. length c.code) cs)
weight_few [] h = (omega arith, omega arith)
weight_few (c ∷ cs) h =
    let one = (All-head IsWritten c cs h).0 in
    let r = weight_few cs (All-tail IsWritten c cs h) in
    (omega (arith, r.0), omega (arith, r.1))

inoculated-sound : (k z : ℕ) (w : World) → 0 < k → k ≤ 2 ^ 20 → z < 2 ^ 30 → Inoculating w.settings k z [] w → IsSound w
inoculated-sound k z w some few small d =
    let n : ℕ = w.settings.soup_size in
    let fine : All (InBounds n 0 0) w.living = all_from_each (InBounds n 0 0) w.living d.each in
    let q : w.quanta ≡ 0 = d.quanta in
    let next : w.next_birth ≡ k + 1 = d.next_birth in
    record {
      cells = d.cells;
      codes = d.codes;
      some = omega (arith, d.living);
      ordered = d.order;
      once = d.once;
      slicer = d.slicer;
      reaper = d.reaper;
      placed = λ k x h. (let f = fine k x h in record { own = f.own; daughter = f.daughter });
      apart = λ p. (let a = d.apart p in omega arith);
      processor = λ k x h. (let f = fine k x h in (f.ip, f.sp));
      genotype = all_from_each (GenotypeBelow (length w.genotypes)) w.living d.genotype;
      numbers = all_born w.next_birth w.living d.zero d.fresh;
      births = omega (arith, d.births);
      genotype_count = omega (arith, d.genotype_count);
      living_and_dead = omega (arith, d.living, d.deaths);
      quanta = omega arith;
      next_birth = omega arith;
      small = λ k x h. (let f = fine k x h in (omega (arith, f.errors), omega (arith, f.moved), omega (arith, f.ran), omega (arith, f.bred)));
      coded_once = d.listed.once;
      written = d.listed.written;
      parents = d.listed.parents;
      totals = λ j g h. (let t = d.listed.totals j g h in omega arith);
      efforts = d.listed.efforts;
      saved = d.saves.once;
      rising = d.saves.rising;
      past = λ j x h. (let t = d.saves.past j x h in omega arith);
      saved_efforts = d.saves.efforts;
      sizes = λ p. sizes_below w.genotypes w.saved 0 z p d.saves.sizes d.saves.size small;
    }

pub start-sound : (setup : SetupFields) → IsSetup setup → IsSound (start setup)
unfolding start
start-sound setup h =
    let s : Settings = setup.settings in
    let cs : List Inoculum = setup.creatures in
    let w : World = with_inocula cs (empty_world s) in
    let fit = sizes_fit s.soup_size cs h.apart h.placed in
    let few = weight_few cs h.written in
    let d : Inoculating s (0 + length cs) (0 + sum_of weight cs) [] w =
    inoculating-all s 0 0 cs (empty_world s) h.written h.placed (inoculating-none s cs h.apart) in
    inoculated-sound (0 + length cs) (0 + sum_of weight cs) w (omega (arith, h.some)) (omega (arith, s.soup, few.1)) (omega (arith, s.soup, few.0))
    (subst (λ t. Inoculating t (0 + length cs) (0 + sum_of weight cs) [] w) (sym d.settings) d)

-- ---- a serial run

start-same : (cs : List Inoculum) (w : World) → ((with_inocula cs w).quanta ≡ w.quanta) × ((with_inocula cs w).settings ≡ w.settings)
start-same [] w = (refl, refl)
start-same (c ∷ cs) w =
    start-same cs (with_creature w.genotypes (block_of c) c.code None 0 (record w { soup = overwrite w.soup c.at c.code }))

pub serial_is_sound : SerialIsSound
unfolding serial start
serial_is_sound setup zero h few =
    let same = start-same setup.creatures (empty_world setup.settings) in
    record { sound = start-sound setup h; settings = same.1; quanta = same.0 }
serial_is_sound setup (suc n) h few =
    let r = serial_is_sound setup n h (omega arith) in
    let q = quantum_is_sound (serial setup n) r.sound (omega (arith, r.quanta)) in
    record { sound = q.sound; settings = q.settings ∙ r.settings; quanta = omega (arith, q.quanta, r.quanta) }
