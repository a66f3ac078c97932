-- What the tests of a world's parts decide together, and that they make soundness.
use Rattle.std.proofs.Common.{◌≡◌, ◌∙◌, ℕ, zero, suc, ◌+◌, ◌<◌, ◌≤◌, ◌^◌, Bool, List, [], ◌∷◌, refl, sym, arith, length, true, false}
use Rattle.std.specs.Prelude.{if◌then◌else◌, ◌&&◌, ◌↔◌, ◌==◌, All, map, nat_le, nat_lt, slice_index_or}
use Rattle.std.specs.List.{list_all}
use Rattle.std.proofs.lemmas.Bool.Decides.{nat_tests}
use Rattle.std.proofs.lemmas.List.Elements.{All-cons, All-head, All-map, All-nil, All-tail, All-weaker}
use Rattle.tierra_model.specs.declared.limits.TheConstants.{MOST_SIZE}
use Rattle.tierra_model.specs.declared.creatures.Creature.{Creature}
use Rattle.tierra_model.specs.Counting.{one_if, times_in}
use Rattle.tierra_model.specs.Living.{ids_of}
use Rattle.tierra_model.specs.Ranges.{AreEfforts, IsCode}
use Rattle.tierra_model.specs.Sound.{IsPlaced, IsSound, Ordered, Rising, numbers_of, saved_size}
use Rattle.tierra_model.specs.World.{Genotype, Saving as ModelSaving, World, genotype_at}
use Rattle.tierra_model.proofs.Each.{Each, all_from_each, each-map, each_from_all}
use Rattle.world_state.specs.declared.fields.StoredGenotype.{StoredGenotype}
use Rattle.world_state.specs.declared.saving.Saving.{Saving}
use Rattle.world_state.specs.Checks.{are_found, are_living, are_saved, has_counts, has_places, is_genotype, is_placed, is_saving, no_found, number_step}
use Rattle.world_state.specs.Checks.{parent_step, passes, rising_step, size_step}
use Rattle.world_state.specs.Reading.{genotype_of, genotypes_of}
use Rattle.world_state.specs.Savings.{saving_of, savings_of}
use Rattle.world_state.specs.Soundness.{AreGenotypes, AreLiving, AreSavings, HasCounts, HasParts, HasSizes, IsMatched}
use Rattle.world_state.proofs.Deciding.{IsGenotypeIn, IsSavingIn, all-decides, both-decide, counts-decide, genotype-decides, lt-decides, numbered-decides}
use Rattle.world_state.proofs.Deciding.{parents-decide, placed-decides, places-decide, rising-decides, saving-decides, sizes-decide}
use Rattle.world_state.proofs.LineOrder.{times-once}

-- ---- lists of records and what they stand for

unmapped : {X Y : Type 0} (P : X → Type 0) (f : Y → X) (ys : List Y) → All P (map f ys) → All (λ y. P (f y)) ys
unmapped P f [] h = All-nil (λ y. P (f y))
unmapped P f (y ∷ ys) h = All-cons (λ x. P (f x)) y ys (All-head P (f y) (map f ys) h) (unmapped P f ys (All-tail P (f y) (map f ys) h))

together : {X : Type 0} (P Q : X → Type 0) (xs : List X) → All P xs → All Q xs → All (λ x. P x × Q x) xs
together P Q [] h k = All-nil (λ x. P x × Q x)
together P Q (x ∷ xs) h k =
    All-cons (λ y. P y × Q y) x xs (All-head P x xs h, All-head Q x xs k) (together P Q xs (All-tail P x xs h) (All-tail Q x xs k))

-- ---- the living

numbers-each : (k next : ℕ) (xs : List Creature) → 1 ≤ k → Ordered k (ids_of xs) → Each (λ c. c.id < next) xs
    → Each (λ c. (1 ≤ c.id) × (c.id < next)) xs
numbers-each k next [] one o h = tt
numbers-each k next (x ∷ xs) one o h =
    let first : k ≤ x.id = o.0 in
    ((omega (arith, one, first), h.0), numbers-each (x.id + 1) next xs (omega arith) o.1 h.1)

pub living-decide : (n count next limit : ℕ) (xs : List Creature) → (are_living n count next limit xs ≡ true) ↔ AreLiving n count next limit xs
living-decide n count next limit xs =
    let a : Bool = passes (number_step next) 1 xs in
    let b : Bool = list_all (is_placed n) xs in
    let c : Bool = list_all (has_places n) xs in
    let d : Bool = list_all (λ (x : Creature). nat_lt x.genotype count) xs in
    let e : Bool = list_all (has_counts limit) xs in
    let two = both-decide a b _ _ (numbered-decides next 1 xs) (all-decides (is_placed n) (IsPlaced n) (placed-decides n) xs) in
    let three = both-decide (a && b) c _ _ two (all-decides (has_places n) (λ (x : Creature). (x.ip < n) × (x.sp < 10)) (places-decide n) xs) in
    let four = both-decide (a && b && c) d _ _ three (all-decides (λ (x : Creature). nat_lt x.genotype count) (λ (x : Creature). x.genotype < count)
    (λ (x : Creature). lt-decides x.genotype count) xs) in
    let five = both-decide (a && b && c && d) e _ _ four
    (all-decides (has_counts limit) (λ (x : Creature). (x.errors ≤ limit) × (x.moved ≤ limit) × (x.ran ≤ limit)
    × (x.bred ≤ limit)) (counts-decide limit) xs) in (
      λ h. (let p = five.0 h in record {
        ordered = p.0.0.0.0.0;
        numbers = all_from_each (λ (x : Creature). (1 ≤ x.id) × (x.id < next)) xs (numbers-each 1 next xs (omega arith) p.0.0.0.0.0 p.0.0.0.0.1);
        placed = p.0.0.0.1;
        processor = p.0.0.1;
        genotype = p.0.1;
        small = p.1;
      }),
      λ h. five.1 (
        (
          (
            (
              (
                h.ordered,
                each-map (λ (x : Creature). (1 ≤ x.id)
                    × (x.id < next)) (λ (x : Creature). x.id < next) (λ x q. q.1)
                    xs (each_from_all (λ (x : Creature). (1 ≤ x.id) × (x.id < next)) xs h.numbers),
              ),
              h.placed,
            ),
            h.processor,
          ),
          h.genotype,
        ),
        h.small,
      ),
    )

-- ---- genotypes and savings

pub found-decide : (limit : ℕ) (fs : List StoredGenotype) → (are_found limit fs ≡ true) ↔ AreGenotypes limit (genotypes_of fs)
found-decide limit fs =
    let both = both-decide (list_all (is_genotype limit) fs) (passes parent_step 0 fs) _ _
    (all-decides (is_genotype limit) (IsGenotypeIn limit) (genotype-decides limit) fs) (parents-decide 0 fs) in (
      λ h. (let p = both.0 h in record {
        written = All-map (λ (g : Genotype). IsCode g.code) genotype_of fs
            (All-weaker (IsGenotypeIn limit) (λ (f : StoredGenotype). IsCode f.code) (λ f q. q.0) fs p.0);
        parents = p.1;
        totals = All-map (λ (g : Genotype). g.total ≤ limit) genotype_of fs
            (All-weaker (IsGenotypeIn limit) (λ (f : StoredGenotype). f.total ≤ limit) (λ f q. q.1) fs p.0);
        efforts = All-map (λ (g : Genotype). AreEfforts g.first_effort g.second_effort) genotype_of fs
            (All-weaker (IsGenotypeIn limit) (λ (f : StoredGenotype). AreEfforts f.first_effort f.second_effort) (λ f q. (q.2.0, q.2.1)) fs p.0);
      }),
      λ h. both.1 (
        All-weaker (λ (f : StoredGenotype). IsCode f.code × ((f.total ≤ limit) × AreEfforts f.first_effort f.second_effort)) (IsGenotypeIn limit)
            (λ f q. (q.0, q.1.0, q.1.1)) fs
            (together (λ (f : StoredGenotype). IsCode f.code) (λ (f : StoredGenotype). (f.total ≤ limit) × AreEfforts f.first_effort f.second_effort) fs
            (unmapped (λ (g : Genotype). IsCode g.code) genotype_of fs h.written)
            (together (λ (f : StoredGenotype). f.total ≤ limit) (λ (f : StoredGenotype). AreEfforts f.first_effort f.second_effort) fs
            (unmapped (λ (g : Genotype). g.total ≤ limit) genotype_of fs h.totals)
            (unmapped (λ (g : Genotype). AreEfforts g.first_effort g.second_effort) genotype_of fs h.efforts))),
        h.parents,
      ),
    )

pub saved-decide : (quanta : ℕ) (ss : List Saving) → (are_saved quanta ss ≡ true) ↔ AreSavings quanta (savings_of ss)
saved-decide quanta ss =
    let both = both-decide (list_all (is_saving quanta) ss) (passes rising_step 0 ss) _ _
    (all-decides (is_saving quanta) (IsSavingIn quanta) (saving-decides quanta) ss) (rising-decides 0 ss) in (
      λ h. (let p = both.0 h in record {
        rising = p.1;
        past = All-map (λ (s : ModelSaving). s.quantum ≤ quanta) saving_of ss
            (All-weaker (IsSavingIn quanta) (λ (s : Saving). s.quantum ≤ quanta) (λ s q. q.0) ss p.0);
        efforts = All-map (λ (s : ModelSaving). AreEfforts s.first_effort s.second_effort) saving_of ss
            (All-weaker (IsSavingIn quanta) (λ (s : Saving). AreEfforts s.first_effort s.second_effort) (λ s q. q.1) ss p.0);
      }),
      λ h. both.1 (
        together (λ (s : Saving). s.quantum ≤ quanta) (λ (s : Saving). AreEfforts s.first_effort s.second_effort) ss
            (unmapped (λ (s : ModelSaving). s.quantum ≤ quanta) saving_of ss h.past)
            (unmapped (λ (s : ModelSaving). AreEfforts s.first_effort s.second_effort) saving_of ss h.efforts),
        h.rising,
      ),
    )

-- ---- those that are saved

pub total-same : (fs : List StoredGenotype) (k : ℕ) → (slice_index_or fs k no_found).total ≡ (genotype_at (genotypes_of fs) k).total
total-same [] k = refl
total-same (f ∷ fs) zero = refl
total-same (f ∷ fs) (suc k) = total-same fs k

none-past : (fs : List StoredGenotype) (k : ℕ) → length fs ≤ k → (slice_index_or fs k no_found).total ≡ 0
none-past [] k le = refl
none-past (f ∷ fs) zero le = absurd (omega (arith, le))
none-past (f ∷ fs) (suc k) le = none-past fs k (omega (arith, le))

saved-each : (n : ℕ) (ss : List Saving) → ((k : ℕ) → 0 < times_in (numbers_of (savings_of ss)) k → k < n) → All (λ s. s.genotype < n) ss
saved-each n [] h = All-nil (λ (s : Saving). s.genotype < n)
saved-each n (s ∷ ss) h =
    All-cons (λ (x : Saving). x.genotype < n) s ss (h s.genotype (here s.genotype (numbers_of (savings_of ss))))
    (saved-each n ss (λ k m. h k (omega (arith, m))))
  where
    here : (x : ℕ) (xs : List ℕ) → 0 < times_in (x ∷ xs) x
    here x xs = grind (arith, nat_tests)

pub saved-known : (at : ℕ) (fs : List StoredGenotype) (ss : List Saving) → 1 ≤ at
    → ((k : ℕ) → times_in (numbers_of (savings_of ss)) k ≡ one_if (nat_le at (genotype_at (genotypes_of fs) k).total)) → All (λ s. s.genotype < length fs) ss
saved-known at fs ss one each = saved-each (length fs) ss (λ k m. go k m (nat_lt k (length fs)) refl)
  where
    go : (k : ℕ) → 0 < times_in (numbers_of (savings_of ss)) k → (b : Bool) → nat_lt k (length fs) ≡ b → k < length fs
    go k m true e = grind (arith, nat_tests)
    go k m false e =
        let past : length fs ≤ k = grind (arith, nat_tests) in
        let none : (genotype_at (genotypes_of fs) k).total ≡ 0 = sym (total-same fs k) ∙ none-past fs k past in
        let times = each k in
        let low : one_if (nat_le at (genotype_at (genotypes_of fs) k).total) ≡ 0 = grind (arith, nat_tests) in
        absurd (omega (arith, m, times, low))

pub codes-short : (fs : List StoredGenotype) → All (λ g. IsCode g.code) (genotypes_of fs) → All (λ f. length f.code ≤ MOST_SIZE) fs
codes-short fs h = All-weaker (λ (f : StoredGenotype). IsCode f.code) (λ (f : StoredGenotype). length f.code ≤ MOST_SIZE)
    (λ f q. q.1) fs (unmapped (λ (g : Genotype). IsCode g.code) genotype_of fs h)

pub codes-written : (fs : List StoredGenotype) → All (λ g. IsCode g.code) (genotypes_of fs) → All (λ f. IsCode f.code) fs
codes-written fs h = unmapped (λ (g : Genotype). IsCode g.code) genotype_of fs h

no_run : (b : Bool) → ◌≡◌ {A = ℕ} (if b then 0 else 0) 0
no_run true = refl
no_run false = refl

pub sizes-are : (fs : List StoredGenotype) (ss : List Saving) → Rising 0 (savings_of ss)
    → (passes (size_step fs) (0, 0) ss ≡ true) ↔ ((q : ℕ) → saved_size (genotypes_of fs) (savings_of ss) q < 2 ^ 30)
sizes-are fs ss up =
    let is = sizes-decide fs 0 0 ss up (omega arith) in (
      λ e q. (let lt = is.0 e q in let none = no_run (q == 0) in omega (arith, lt, none)),
      λ h. is.1 (λ q. (let lt = h q in let none = no_run (q == 0) in omega (arith, lt, none))),
    )

-- ---- the parts make soundness

pub ordered-lower : (xs : List ℕ) → Ordered 1 xs → Ordered 0 xs
ordered-lower [] o = tt
ordered-lower (x ∷ xs) o = (omega arith, o.1)

pub sound-from : (w : World) → HasCounts w → HasParts w → IsMatched w → HasSizes w → IsSound w
sound-from w n p m z =
    record {
      cells = p.cells;
      codes = p.codes;
      some = n.some;
      ordered = p.living.ordered;
      once = λ id. times-once 1 id (ids_of w.living) p.living.ordered;
      slicer = m.slicer;
      reaper = m.reaper;
      placed = p.living.placed;
      apart = m.apart;
      processor = p.living.processor;
      genotype = p.living.genotype;
      numbers = p.living.numbers;
      births = n.births;
      genotype_count = n.genotype_count;
      living_and_dead = n.living_and_dead;
      quanta = n.quanta;
      next_birth = n.next_birth;
      small = p.living.small;
      coded_once = m.coded_once;
      written = p.genotypes.written;
      parents = p.genotypes.parents;
      totals = p.genotypes.totals;
      efforts = p.genotypes.efforts;
      saved = m.saved;
      rising = p.saved.rising;
      past = p.saved.past;
      saved_efforts = p.saved.efforts;
      sizes = z;
    }

pub sound-counts : (w : World) → IsSound w → HasCounts w
sound-counts w s =
    record {
      quanta = s.quanta;
      next_birth = s.next_birth;
      some = s.some;
      births = s.births;
      genotype_count = s.genotype_count;
      living_and_dead = s.living_and_dead;
    }

pub sound-parts : (w : World) → IsSound w → HasParts w
sound-parts w s =
    record {
      cells = s.cells;
      codes = s.codes;
      living = record {
        ordered = s.ordered;
        numbers = s.numbers;
        placed = s.placed;
        processor = s.processor;
        genotype = s.genotype;
        small = s.small;
      };
      genotypes = record {
        written = s.written;
        parents = s.parents;
        totals = s.totals;
        efforts = s.efforts;
      };
      saved = record {
        rising = s.rising;
        past = s.past;
        efforts = s.saved_efforts;
      };
    }

pub sound-matched : (w : World) → IsSound w → IsMatched w
sound-matched w s =
    record {
      slicer = s.slicer;
      reaper = s.reaper;
      apart = s.apart;
      coded_once = s.coded_once;
      saved = s.saved;
    }

-- ---- a world is told by its fields

pub world-from : (w v : World) → w.settings ≡ v.settings → w.soup ≡ v.soup → w.living ≡ v.living → w.slicer ≡ v.slicer → w.reaper ≡ v.reaper
    → w.genotypes ≡ v.genotypes → w.saved ≡ v.saved → w.births ≡ v.births → w.deaths ≡ v.deaths → w.next_birth ≡ v.next_birth → w.quanta ≡ v.quanta → w ≡ v
world-from w v settings soup living slicer reaper genotypes saved births deaths next quanta = λ i.
    record {
      settings = settings i;
      soup = soup i;
      living = living i;
      slicer = slicer i;
      reaper = reaper i;
      genotypes = genotypes i;
      saved = saved i;
      births = births i;
      deaths = deaths i;
      next_birth = next i;
      quanta = quanta i;
    }
