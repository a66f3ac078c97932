-- A sound world stays sound: it is within the next quantum, and is sound when that ends.
use Rattle.std.proofs.Common.{◌≡◌, ℕ, ◌+◌, ◌*◌, ◌^◌, ◌<◌, ◌≤◌, Bool, true, false, List, [], ◌∷◌, refl, sym, ◌∙◌, ap, subst, arith, inl, inr, ◌⊎◌, ◌≢◌, length}
use Rattle.std.specs.Prelude.{All, min, max, ◌/◌, ◌==◌, if◌then◌else◌, nat_lt, nat_le}
use Rattle.std.proofs.lemmas.Bool.Decides.{nat_tests, eqb_tells}
use Rattle.std.proofs.lemmas.List.Elements.{All-nil, All-cons, All-head, All-tail, All-weaker}
use Rattle.tierra_model.specs.declared.limits.TheConstants.{MOST_QUANTA, MOST_SLICE}
use Rattle.tierra_model.specs.declared.parameters.Settings.{Settings}
use Rattle.tierra_model.specs.declared.creatures.Creature.{Creature}
use Rattle.tierra_model.specs.Queue.{rotation}
use Rattle.tierra_model.specs.Laws.{QuantumIsSound}
use Rattle.tierra_model.specs.Quantum.{world_machine, run, quantum, slice_of}
use Rattle.tierra_model.specs.Counting.{times_in, one_if}
use Rattle.tierra_model.specs.Living.{ids_of}
use Rattle.tierra_model.specs.World.{World, Genotype, Saving, front, first_of, genotype_at}
use Rattle.tierra_model.specs.Sound.{IsSound, numbers_of, saved_size, count_limit}
use Rattle.tierra_model.specs.Events.{turn_end}
use Rattle.tierra_model.proofs.Living.{is_here}
use Rattle.tierra_model.proofs.Owners.{is_here-times, times_in-append}
use Rattle.tierra_model.proofs.Commutes.{HasFront}
use Rattle.tierra_model.proofs.Yards.{times_in-index}
use Rattle.tierra_model.proofs.EachOnce.{EachOnce}
use Rattle.tierra_model.proofs.Population.{InBounds}
use Rattle.tierra_model.proofs.Each.{each_from_all, all_from_each}
use Rattle.tierra_model.proofs.Genotypes.{genotype_at-past}
use Rattle.tierra_model.proofs.WithinQuantum.{GenotypeBelow, WithinQuantum}
use Rattle.tierra_model.proofs.WithinRun.{within-run}

-- ---- what a sound world has

first_in : (ids : List ℕ) → 0 < length ids → 0 < times_in ids (first_of ids)
first_in ids h = times_in-index ids 0 h

some_line : (living : List Creature) (ids : List ℕ) → 0 < length living → ((id : ℕ) → times_in ids id ≡ times_in (ids_of living) id) → 0 < length ids
some_line [] ids h e = absurd (omega arith)
some_line (c ∷ cs) [] h e =
    let k : one_if (c.id == c.id) + times_in (ids_of cs) c.id ≡ 0 = sym (e c.id) in
    let one : (c.id == c.id) ≡ true = grind (arith, nat_tests) in
    let k' : one_if true + times_in (ids_of cs) c.id ≡ 0 = rw one at k in
    absurd (omega arith)
some_line (c ∷ cs) (x ∷ xs) h e = omega arith

pub sound-has_front : (w : World) → IsSound w → HasFront w
sound-has_front w s =
    let line = some_line w.living w.slicer s.some s.slicer in
    record { line = line; here = is_here-times w.living (first_of w.slicer) (rw (← s.slicer (first_of w.slicer)) (first_in w.slicer line)) }

abbrev IsBorn : ℕ → Creature → Type 0
IsBorn n c = (1 ≤ c.id) × (c.id < n)

not_born : (n id : ℕ) → (id ≡ 0) ⊎ (n ≤ id) → 1 ≤ id → id < n → ⊥
not_born n id (inl e) h k = absurd (omega arith)
not_born n id (inr e) h k = absurd (omega arith)

-- nobody has 0, or the next birth number or one above it
unborn : (n : ℕ) (living : List Creature) → All (IsBorn n) living → (id : ℕ) → (id ≡ 0) ⊎ (n ≤ id) → times_in (ids_of living) id ≡ 0
unborn n [] h id k = refl
unborn n (c ∷ cs) h id k =
    let born : IsBorn n c = All-head (IsBorn n) c cs h in
    let rest = unborn n cs (All-tail (IsBorn n) c cs h) id k in
    elim (eqb_tells c.id id) [
      | inl e ↦ absurd (not_born n id k (subst (λ j. 1 ≤ j) e.1 born.0) (subst (λ j. j < n) e.1 born.1))
      | inr e ↦ (let none : one_if (c.id == id) ≡ 0 = ap one_if e.0 in omega arith)
    ]

pub all_born : (n : ℕ) (living : List Creature) → times_in (ids_of living) 0 ≡ 0 → ((id : ℕ) → n ≤ id → times_in (ids_of living) id ≡ 0) → All (IsBorn n) living
all_born n [] z f = All-nil (IsBorn n)
all_born n (c ∷ cs) z f =
    All-cons (IsBorn n) c cs (one, small (nat_lt c.id n) refl)
    (all_born n cs (omega (arith, z)) (λ id h. omega (arith, f id h)))
  where
    one : 1 ≤ c.id
    one = grind (arith, nat_tests)

    small : (b : Bool) → nat_lt c.id n ≡ b → c.id < n
    small true e = grind (arith, nat_tests)
    small false e =
        let past : n ≤ c.id = grind (arith, nat_tests) in
        let none = f c.id past in
        let here : 0 < times_in (ids_of (c ∷ cs)) c.id = grind (arith, nat_tests) in
        absurd (omega arith)

pub sound-each_once : (w : World) → IsSound w → EachOnce w
sound-each_once w s = record { once = s.once; reaper = s.reaper; fresh = λ id h. unborn w.next_birth w.living s.numbers id (inr h); apart = s.apart }

pub sound-id_below : (w : World) (id : ℕ) → IsSound w → 0 < times_in (ids_of w.living) id → id < w.next_birth
sound-id_below w id s h = go (nat_lt id w.next_birth) refl
  where
    go : (b : Bool) → nat_lt id w.next_birth ≡ b → id < w.next_birth
    go true e = grind (arith, nat_tests)
    go false e = (let l : w.next_birth ≤ id = grind (arith, nat_tests) in let z = unborn w.next_birth w.living s.numbers id (inr l) in absurd (omega arith))

-- ---- a sound world when a quantum begins

abbrev By : ℕ → Saving → Type 0
By q s = s.quantum ≤ q

-- a quantum that is still to come has saved nothing
nothing_saved : (gs : List Genotype) (saved : List Saving) (n q : ℕ) → n < q → All (By n) saved → saved_size gs saved q ≡ 0
nothing_saved gs [] n q h a = refl
nothing_saved gs (s ∷ rest) n q h a =
    let by : s.quantum ≤ n = All-head (By n) s rest a in
    let r = nothing_saved gs rest n q h (All-tail (By n) s rest a) in
    elim (eqb_tells s.quantum q) [
      | inl e ↦ absurd (omega (arith, e.1))
      | inr e ↦
          (let none : (if s.quantum == q then length (genotype_at gs s.genotype).code + 100 else 0) ≡ 0
          = ap (λ (b : Bool). if b then length (genotype_at gs s.genotype).code + 100 else 0) e.0 in
          omega arith)
    ]

abbrev pub Among : ℕ → Saving → Type 0
Among n s = s.genotype < n

times_self : (x : ℕ) (xs : List ℕ) → 0 < times_in (x ∷ xs) x
times_self x xs = grind (arith, nat_tests)

each_among : (n : ℕ) (saved : List Saving) → ((k : ℕ) → 0 < times_in (numbers_of saved) k → k < n) → All (Among n) saved
each_among n [] h = All-nil (Among n)
each_among n (s ∷ rest) h =
    All-cons (Among n) s rest (h s.genotype (times_self s.genotype (numbers_of rest)))
    (each_among n rest (λ k m. h k (omega (arith, m))))

pub sound-saved_below : (w : World) → IsSound w → All (Among (length w.genotypes)) w.saved
sound-saved_below w s = each_among (length w.genotypes) w.saved (λ k m. go k m (nat_lt k (length w.genotypes)) refl)
  where
    go : (k : ℕ) → 0 < times_in (numbers_of w.saved) k → (b : Bool) → nat_lt k (length w.genotypes) ≡ b → k < length w.genotypes
    go k m true e = grind (arith, nat_tests)
    go k m false e =
        let past : length w.genotypes ≤ k = grind (arith, nat_tests) in
        let none : (genotype_at w.genotypes k).total ≡ 0 = ap (λ (g : Genotype). g.total) (genotype_at-past w.genotypes k past) in
        let range : 1 ≤ w.settings.save_at = omega (arith, w.settings.saving) in
        let times = s.saved k in
        let low : one_if (nat_le w.settings.save_at (genotype_at w.genotypes k).total) ≡ 0 = grind (arith, nat_tests) in
        absurd (omega arith)

pub within-start : (w : World) → IsSound w → WithinQuantum w.settings (count_limit w.quanta) (count_limit w.quanta) (count_limit w.quanta) 0 (w.quanta + 1) w
within-start w s =
    let n : ℕ = w.settings.soup_size in
    let l : ℕ = count_limit w.quanta in
    record {
      population = record {
        has_front = sound-has_front w s;
        each_once = sound-each_once w s;
        size = refl;
        cells = s.cells;
        each = each_from_all (InBounds n l l) w.living (λ k d h. record {
          own = (s.placed k d h).own;
          daughter = (s.placed k d h).daughter;
          ip = (s.processor k d h).0;
          sp = (s.processor k d h).1;
          errors = (s.small k d h).0;
          moved = (s.small k d h).1;
          ran = (s.small k d h).2;
          bred = (s.small k d h).3;
        });
        slicer = s.slicer;
        order = s.ordered;
        zero = unborn w.next_birth w.living s.numbers 0 (inl refl);
        count = s.living_and_dead;
        births = s.births;
        next_birth = s.next_birth;
      };
      settings = refl;
      number = refl;
      codes = s.codes;
      genotype = each_from_all (GenotypeBelow (length w.genotypes)) w.living s.genotype;
      genotype_count = s.genotype_count;
      listed = record { once = s.coded_once; written = s.written; parents = s.parents; totals = s.totals; efforts = s.efforts };
      saves = record {
        once = s.saved;
        known = sound-saved_below w s;
        rising = s.rising;
        past = All-weaker (By w.quanta) (By (w.quanta + 1)) (λ x h. omega arith) w.saved s.past;
        efforts = s.saved_efforts;
        sizes = λ p h. s.sizes p;
        size = (let z = nothing_saved w.genotypes w.saved w.quanta (w.quanta + 1) (omega arith) s.past in omega arith);
      };
    }

-- ---- and when it ends

some_here : (living : List Creature) (id : ℕ) → is_here living id ≡ true → 0 < length living
some_here [] id h = cc
some_here (c ∷ cs) id h = omega arith

rotation-times : (ids : List ℕ) (id : ℕ) → times_in (rotation ids) id ≡ times_in ids id
rotation-times [] id = refl
rotation-times (x ∷ xs) id = omega (arith, times_in-append xs (x ∷ []) id)

pub sizes_below : (gs : List Genotype) (saved : List Saving) (q z p : ℕ) → ((p : ℕ) → p ≢ q → saved_size gs saved p < 2 ^ 30) → saved_size gs saved q ≤ z
    → z < 2 ^ 30
    → saved_size gs saved p < 2 ^ 30
sizes_below gs saved q z p h k l = elim (eqb_tells p q) [
  | inl e ↦ subst (λ j. saved_size gs saved j < 2 ^ 30) (sym e.1) (omega arith)
  | inr e ↦ h p e.1
]

sound-turn_end_in : (e m b z q : ℕ) (w : World) → WithinQuantum w.settings e m b z q w → e ≤ count_limit q → m ≤ count_limit q → b ≤ count_limit q → z < 2 ^ 30
    → q ≤ MOST_QUANTA → IsSound (turn_end w)
sound-turn_end_in e m b z q w d he hm hb hz hq =
    let c = d.population in
    let n : ℕ = w.settings.soup_size in
    let same : count_limit q ≡ count_limit (w.quanta + 1) = ap count_limit (sym d.number) in
    let fine : All (InBounds n e m) w.living = all_from_each (InBounds n e m) w.living c.each in
    record {
      cells = c.cells;
      codes = d.codes;
      some = some_here w.living (first_of w.slicer) c.has_front.here;
      ordered = c.order;
      once = c.each_once.once;
      slicer = λ id. rotation-times w.slicer id ∙ c.slicer id;
      reaper = c.each_once.reaper;
      placed = λ k x h. (let f = fine k x h in record { own = f.own; daughter = f.daughter });
      apart = c.each_once.apart;
      processor = λ k x h. (let f = fine k x h in (f.ip, f.sp));
      genotype = all_from_each (GenotypeBelow (length w.genotypes)) w.living d.genotype;
      numbers = all_born w.next_birth w.living c.zero c.each_once.fresh;
      births = c.births;
      genotype_count = d.genotype_count;
      living_and_dead = c.count;
      quanta = omega (arith, d.number);
      next_birth = omega (arith, c.next_birth);
      small = λ k x h. (let f = fine k x h in (omega (arith, f.errors), omega (arith, f.moved), omega (arith, f.ran), omega (arith, f.bred)));
      coded_once = d.listed.once;
      written = d.listed.written;
      parents = d.listed.parents;
      totals = λ k g h. (let t = d.listed.totals k g h in omega arith);
      efforts = d.listed.efforts;
      saved = d.saves.once;
      rising = d.saves.rising;
      past = λ k x h. (let t = d.saves.past k x h in omega (arith, d.number));
      saved_efforts = d.saves.efforts;
      sizes = λ p. sizes_below w.genotypes w.saved q z p d.saves.sizes d.saves.size hz;
    }

pub sound-turn_end : (s : Settings) (e m b z q : ℕ) (w : World) → WithinQuantum s e m b z q w → e ≤ count_limit q → m ≤ count_limit q → b ≤ count_limit q
    → z < 2 ^ 30 → q ≤ MOST_QUANTA → IsSound (turn_end w)
sound-turn_end s e m b z q w d he hm hb hz hq = sound-turn_end_in e m b z q w (subst (λ t. WithinQuantum t e m b z q w) (sym d.settings) d) he hm hb hz hq

-- ---- a quantum

slice_few : (size : ℕ) (s : Settings) → slice_of size s ≤ MOST_SLICE
slice_few size s = go s.slice_by_size
  where
    go : (b : Bool) → (if b then min MOST_SLICE (max 1 (size * s.slice_num / s.slice_den)) else s.slice_size) ≤ MOST_SLICE
    go true = omega arith
    go false = omega (arith, s.slice)

-- the bounds at the end of a quantum
within-quantum : (w : World) (k : ℕ) → IsSound w
    → WithinQuantum w.settings (count_limit w.quanta + k) (count_limit w.quanta + k) (count_limit w.quanta + k) (0 + 20100 * k) (w.quanta + 1)
    (run world_machine w.settings (w.quanta + 1) k w)
within-quantum w k s =
    let l : ℕ = count_limit w.quanta in
    within-run w.settings l l l 0 (w.quanta + 1) k w (within-start w s)

pub quantum-quanta : (w : World) → IsSound w → (quantum w).quanta ≡ w.quanta + 1
unfolding quantum
quantum-quanta w s = (within-quantum w (slice_of (front w).own.size w.settings) s).number

pub quantum-settings : (w : World) → IsSound w → (quantum w).settings ≡ w.settings
unfolding quantum
quantum-settings w s = (within-quantum w (slice_of (front w).own.size w.settings) s).settings

pub quantum-sound : (w : World) → IsSound w → w.quanta < MOST_QUANTA → IsSound (quantum w)
unfolding quantum
quantum-sound w s h =
    let k : ℕ = slice_of (front w).own.size w.settings in
    let l : ℕ = count_limit w.quanta in
    let q : ℕ = w.quanta + 1 in
    let few : k ≤ MOST_SLICE = slice_few (front w).own.size w.settings in
    sound-turn_end w.settings (l + k) (l + k) (l + k) (0 + 20100 * k) q (run world_machine w.settings q k w)
    (within-quantum w k s) (omega arith) (omega arith) (omega arith) (omega arith) (omega arith)

pub quantum_is_sound : QuantumIsSound
quantum_is_sound w s h = record { sound = quantum-sound w s h; settings = quantum-settings w s; quanta = quantum-quanta w s }
